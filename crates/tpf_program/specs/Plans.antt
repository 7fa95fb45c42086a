-- The events of an instruction. Each of its parts is an event or none: a component of a load or a store, an atomic, a step of a
-- counter, a fence. All is read at the instruction's start. (Shader Model 5 assembly: the instructions on views, and sync.)
use Rattle.std.specs.Prelude.{ℕ, nat_lt, if◌then◌else◌, Bool, ◌||◌, List, [], ◌∷◌, map, Option, Some, None, option_map}
use Rattle.word_base.specs.declared.event.Act.{Act}
use Rattle.word_base.specs.declared.event.Act.TheVariants as act
use Rattle.word_base.specs.declared.event.Classes.{Classes}
use Rattle.word_base.specs.declared.event.Event.{Event}
use Rattle.word_base.specs.declared.event.Event.TheVariants.{Load, Store, Atomic, Fence, Barrier}
use Rattle.word_base.specs.declared.event.Room.TheVariants.{Counter}
use Rattle.word_base.specs.declared.event.Scope.{Scope}
use Rattle.word_base.specs.declared.event.Scope.TheVariants.{Device, Group}
use Rattle.tpf_decode.specs.declared.argument.Argument.{Argument}
use Rattle.tpf_program.specs.declared.instruction.Instruction.{Instruction}
use Rattle.tpf_decode.specs.declared.meaning.Meaning.{Meaning}
use Rattle.tpf_decode.specs.declared.meaning.Meaning.TheVariants.{LoadRaw, LoadStructured, LoadTyped, StoreRaw, StoreStructured, StoreTyped, Acts, Compares, Fetches, Exchanges, Allocates, Consumes, Syncs}
use Rattle.tpf_program.specs.Values.{Context, value, scalar, selected}
use Rattle.tpf_program.specs.Writes.{has_bit, masked, written}
use Rattle.tpf_program.specs.Views.{Address, room_of, reached, raw_at, structured_at, typed_at, paired_at}

-- a load for each written component, of the word that the view's selection names
abbrev pub load_part : Context → Argument → Address → ℕ → Option Event
load_part k view at c = option_map (λ word. Load (room_of view) word) (reached k view at (selected view.select c))

abbrev pub loads : Context → Argument → Argument → Address → List (Option Event)
loads k to view at = map (load_part k view at) (written to)

-- a store for each component of the view's mask
abbrev pub store_part : Context → Argument → Address → Argument → ℕ → Option Event
store_part k view at from c = option_map (λ word. Store (room_of view) word (value k from c)) (reached k view at c)

abbrev pub stores : Context → Argument → Address → Argument → List (Option Event)
stores k view at from = map (store_part k view at from) (masked view.select)

-- a load of one word from a typed view, whatever is written, and a store of the first component to one
abbrev pub typed_load : Context → Argument → Argument → List (Option Event)
typed_load k view index = option_map (λ word. Load (room_of view) word) (reached k view (typed_at k index) 0) ∷ []

abbrev pub typed_store : Context → Argument → Argument → Argument → List (Option Event)
typed_store k view index from = store_part k view (typed_at k index) from 0 ∷ []

-- an atomic on one word
abbrev pub atomic : Context → Argument → Argument → Act → ℕ → ℕ → List (Option Event)
atomic k view at kind a b = option_map (λ word. Atomic (room_of view) word kind a b) (reached k view (paired_at k view at) 0) ∷ []

-- one step of a counter, where there is one
abbrev pub has_counter : Context → Argument → Bool
has_counter k view = nat_lt 0 (k.setting.extent (Counter view.slot))

abbrev pub counter_step : Context → Argument → Act → List (Option Event)
counter_step k view kind = (if has_counter k view then Some (Atomic (Counter view.slot) 0 kind 1 0) else None) ∷ []

-- The flags of sync: threads 11, shared memory 12, u# of the group 13, u# of the device 14.
abbrev pub scope_of : ℕ → Scope
scope_of controls = if has_bit controls 14 then Device else Group

abbrev pub classes_of : ℕ → Classes
classes_of controls = record { buffers = has_bit controls 13 || has_bit controls 14; shared = has_bit controls 12 }

abbrev pub sync : ℕ → Event
sync controls =
    if has_bit controls 11 then Barrier (scope_of controls) (classes_of controls) else Fence (scope_of controls) (classes_of controls)

-- the parts of an instruction, in their order
abbrev pub parts : Context → Meaning → Instruction → List (Option Event)
parts k LoadRaw i = loads k i.o0 i.o2 (raw_at k i.o1)
parts k LoadStructured i = loads k i.o0 i.o3 (structured_at k i.o3 i.o1 i.o2)
parts k LoadTyped i = typed_load k i.o2 i.o1
parts k StoreRaw i = stores k i.o0 (raw_at k i.o1) i.o2
parts k StoreStructured i = stores k i.o0 (structured_at k i.o0 i.o1 i.o2) i.o3
parts k StoreTyped i = typed_store k i.o0 i.o1 i.o2
parts k (Acts kind) i = atomic k i.o0 i.o1 kind (scalar k i.o2) 0
parts k Compares i = atomic k i.o0 i.o1 act.CompareExchange (scalar k i.o2) (scalar k i.o3)
parts k (Fetches kind) i = atomic k i.o1 i.o2 kind (scalar k i.o3) 0
parts k Exchanges i = atomic k i.o1 i.o2 act.CompareExchange (scalar k i.o3) (scalar k i.o4)
parts k Allocates i = counter_step k i.o1 act.Add
parts k Consumes i = counter_step k i.o1 act.Sub
parts k Syncs i = Some (sync i.controls) ∷ []
parts k other i = []

-- the events of the parts that have one
abbrev pub made : List (Option Event) → List Event
made [] = []
made (None ∷ rest) = made rest
made (Some e ∷ rest) = e ∷ made rest

-- the word of each part: its answer, or 0 without an event
abbrev pub answered : List (Option Event) → List ℕ → List ℕ
answered [] answers = []
answered (None ∷ rest) answers = 0 ∷ answered rest answers
answered (Some e ∷ rest) [] = 0 ∷ answered rest []
answered (Some e ∷ rest) (a ∷ answers) = a ∷ answered rest answers
