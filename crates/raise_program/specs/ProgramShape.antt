-- The shape of a program: its loops, its switches and the instructions that make events, in list order, with what they
-- are in. Items between the opening of a loop or switch and its close are inside it. (Shader Model 5 assembly: loop,
-- endloop, switch, case, endswitch; loads, stores, atomics, counters and sync.)
use Rattle.std.specs.Prelude.{◌≡◌, ℕ, ◌+◌, if◌then◌else◌, false, List, [], ◌∷◌, ◌++◌, length, map, filter_map, Option, Some, None, slice_get, option_map, refl}
use Rattle.std.specs.List.{range_with_len}
use Rattle.word_base.specs.declared.event.Act.TheVariants as act
use Rattle.word_base.specs.declared.event.Room.{Room}
use Rattle.word_base.specs.declared.event.Room.TheVariants.{Counter}
use Rattle.tpf_decode.specs.Profiles.{Profile, Base}
use Rattle.tpf_decode.specs.Opcodes.{meaning_of, opcode_table}
use Rattle.tpf_decode.specs.declared.meaning.Meaning.{Meaning}
use Rattle.tpf_decode.specs.declared.meaning.Meaning.TheVariants.{LoadRaw, LoadStructured, LoadTyped, StoreRaw, StoreStructured, StoreTyped, Acts, Compares, Fetches, Exchanges, Allocates, Consumes, Syncs, Loop, EndLoop, Switch, EndSwitch}
use Rattle.tpf_program.specs.Cases.{case_of_word, is_any_case}
use Rattle.tpf_program.specs.Ends.{means, is_direct}
use Rattle.tpf_program.specs.ExampleParts.{bare}
use Rattle.tpf_program.specs.Program.{Shader}
use Rattle.tpf_program.specs.Views.{room_of}
use Rattle.tpf_program.specs.Writes.{has_bit, masked, written}
use Rattle.tpf_program.specs.declared.instruction.Instruction.{Instruction}
use Rattle.binding_map.specs.Bindings.{Binding}
use Rattle.binding_map.specs.Fits.{is_null_in}
use Rattle.shader_tree.specs.Shape.{Item, OpensLoop, OpensSwitch, ClosesIt, Loads, Stores, Changes, Fences, Waits}

-- an event of a room counts where the map gives the room a place; shared memory always has one
abbrev pub placed : List Binding → Room → List Item → List Item
placed bindings room items = if is_null_in bindings room then [] else items

-- the values of the cases that stand directly in the switch that opens at q
abbrev pub case_at : Profile → List Instruction → ℕ → ℕ → Option ℕ
case_at profile code q n =
    if is_direct profile false (means profile is_any_case) code (Some q) n then option_map (λ i. i.o0.x) (slice_get code n)
    else None

abbrev pub case_values : Profile → List Instruction → ℕ → List ℕ
case_values profile code q = filter_map (case_at profile code q) (range_with_len 0 (length code))

-- One item for each written component of a load and each component of a store's mask, one for a typed load or store, an
-- atomic, a step of a counter and a sync.
abbrev pub items_at : List Binding → (ℕ → List ℕ) → Meaning → ℕ → Instruction → List Item
items_at bindings cases LoadRaw q i = placed bindings (room_of i.o2) (map (λ c. Loads (room_of i.o2)) (written i.o0))
items_at bindings cases LoadStructured q i = placed bindings (room_of i.o3) (map (λ c. Loads (room_of i.o3)) (written i.o0))
items_at bindings cases LoadTyped q i = placed bindings (room_of i.o2) (Loads (room_of i.o2) ∷ [])
items_at bindings cases StoreRaw q i = placed bindings (room_of i.o0) (map (λ c. Stores (room_of i.o0)) (masked i.o0.select))
items_at bindings cases StoreStructured q i =
    placed bindings (room_of i.o0) (map (λ c. Stores (room_of i.o0)) (masked i.o0.select))
items_at bindings cases StoreTyped q i = placed bindings (room_of i.o0) (Stores (room_of i.o0) ∷ [])
items_at bindings cases (Acts kind) q i = placed bindings (room_of i.o0) (Changes (room_of i.o0) kind ∷ [])
items_at bindings cases Compares q i = placed bindings (room_of i.o0) (Changes (room_of i.o0) act.CompareExchange ∷ [])
items_at bindings cases (Fetches kind) q i = placed bindings (room_of i.o1) (Changes (room_of i.o1) kind ∷ [])
items_at bindings cases Exchanges q i = placed bindings (room_of i.o1) (Changes (room_of i.o1) act.CompareExchange ∷ [])
items_at bindings cases Allocates q i = placed bindings (Counter i.o1.slot) (Changes (Counter i.o1.slot) act.Add ∷ [])
items_at bindings cases Consumes q i = placed bindings (Counter i.o1.slot) (Changes (Counter i.o1.slot) act.Sub ∷ [])
items_at bindings cases Syncs q i = (if has_bit i.controls 11 then Waits else Fences) ∷ []
items_at bindings cases Loop q i = OpensLoop ∷ []
items_at bindings cases EndLoop q i = ClosesIt ∷ []
items_at bindings cases Switch q i = OpensSwitch (cases q) ∷ []
items_at bindings cases EndSwitch q i = ClosesIt ∷ []
items_at bindings cases other q i = []

abbrev pub items_by : List Binding → (ℕ → List ℕ) → Option Meaning → ℕ → Instruction → List Item
items_by bindings cases None q i = []
items_by bindings cases (Some meaning) q i = items_at bindings cases meaning q i

-- of the instructions from q on, where the cases of each switch are known
abbrev pub items_of : Profile → List Binding → (ℕ → List ℕ) → ℕ → List Instruction → List Item
items_of profile bindings cases q [] = []
items_of profile bindings cases q (i ∷ rest) =
    items_by bindings cases (meaning_of profile i.code) q i ++ items_of profile bindings cases (q + 1) rest

abbrev pub program_shape : Profile → Shader → List Binding → List Item
program_shape profile p bindings = items_of profile bindings (case_values profile p.instructions) 0 p.instructions

-- Example: a switch with cases of 8 and 9, and in the first of them a switch with a case of 7.
abbrev pub two_switches : List Instruction
two_switches =
    bare 76 ∷ case_of_word 8 ∷ bare 76 ∷ case_of_word 7 ∷ bare 23 ∷ case_of_word 9 ∷ bare 23 ∷ bare 62 ∷ []

pub switches_read :
    items_of Base [] (case_values Base two_switches) 0 two_switches
    ≡ OpensSwitch (8 ∷ 9 ∷ []) ∷ OpensSwitch (7 ∷ []) ∷ ClosesIt ∷ ClosesIt ∷ []
unfolding meaning_of opcode_table
switches_read = refl
