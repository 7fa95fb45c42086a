-- THE STATEMENT OF AN INSTRUCTION that reads a length, makes an event or synchronises: first the indices of its
-- operands are kept, then its address, then its events are made, each under its test, and behind the last answer its
-- registers are written.
use Rattle.std.specs.Prelude.{ℕ, ◌/◌, ◌-◌, ◌^◌, nat_eq, if◌then◌else◌, Bool, true, false, List, [], ◌∷◌, ◌++◌, map, Option, Some, None}
use Rattle.word_base.specs.declared.arithmetic.Binary.TheVariants.{Iadd}
use Rattle.word_base.specs.declared.event.Act.{Act}
use Rattle.word_base.specs.declared.event.Act.TheVariants as act
use Rattle.word_base.specs.declared.event.Room.{Room}
use Rattle.word_base.specs.declared.event.Room.TheVariants as room
use Rattle.tpf_decode.specs.Profiles.{Base}
use Rattle.tpf_decode.specs.Opcodes.{meaning_of}
use Rattle.tpf_decode.specs.declared.argument.Argument.{Argument}
use Rattle.tpf_decode.specs.declared.meaning.Meaning.{Meaning}
use Rattle.tpf_decode.specs.declared.meaning.Meaning.TheVariants.{LoadRaw, LoadStructured, StoreRaw, StoreStructured, Measures, Acts, Compares, Fetches, Exchanges, Allocates, Consumes, Syncs}
use Rattle.tpf_program.specs.Extents.{shared_extent}
use Rattle.tpf_program.specs.Plans.{scope_of, classes_of}
use Rattle.tpf_program.specs.Program.{Shader}
use Rattle.tpf_program.specs.Sizes.{Addressing, Bytes, Structures, Words, addressing_of}
use Rattle.tpf_program.specs.Values.{selected}
use Rattle.tpf_program.specs.Views.{room_of, words_by}
use Rattle.tpf_program.specs.Writes.{has_bit, masked, written}
use Rattle.tpf_program.specs.declared.instruction.Instruction.{Instruction}
use Rattle.shader_tree.specs.Shape.{Item, Loads, Stores, Changes, Fences, Waits}
use Rattle.shader_tree.specs.Terms.{Term, Word, Scratch, Length, Two, Product, Set, Atomic, Sync, Nothing}
use Rattle.shader_tree.specs.Values.{Spaces}
use Rattle.raise_operands.specs.Raising.{chained, indices, source, target, write_by}
use Rattle.raise_operands.specs.Vectors.{spaces_of}
use Rattle.raise_views.specs.declared.address.Reach.{Reach}
use Rattle.raise_views.specs.Reaching.{At, at_byte, in_structure, paired_by, keeps, address_of, answer_scratch, structures, loads, stores, atomic_part}

-- one that reads a length, makes an event or synchronises
abbrev pub is_guarded : Option Meaning → Bool
is_guarded (Some LoadRaw) = true
is_guarded (Some LoadStructured) = true
is_guarded (Some StoreRaw) = true
is_guarded (Some StoreStructured) = true
is_guarded (Some Measures) = true
is_guarded (Some (Acts kind)) = true
is_guarded (Some Compares) = true
is_guarded (Some (Fetches kind)) = true
is_guarded (Some Exchanges) = true
is_guarded (Some Allocates) = true
is_guarded (Some Consumes) = true
is_guarded (Some Syncs) = true
is_guarded other = false

-- THE ROOM of an instruction: that of the view that it names, or the counter of that view.
abbrev pub view_of : Meaning → Instruction → Argument
view_of LoadRaw i = i.o2
view_of LoadStructured i = i.o3
view_of Measures i = i.o1
view_of (Fetches kind) i = i.o1
view_of Exchanges i = i.o1
view_of Allocates i = i.o1
view_of Consumes i = i.o1
view_of other i = i.o0

abbrev pub room_by : Meaning → Instruction → Room
room_by Allocates i = room.Counter i.o1.slot
room_by Consumes i = room.Counter i.o1.slot
room_by m i = room_of (view_of m i)

-- how many words it has in any setting: those that are declared for shared memory
abbrev pub known_words : Shader → Room → ℕ
known_words p (room.Shared slot) = shared_extent slot p.declarations
known_words p other = 0

abbrev pub way_of : Shader → Argument → Addressing
way_of p view = addressing_of p.typed view.kind view.slot p.declarations

-- WHERE IT REACHES its room
abbrev pub at_of : Meaning → Shader → Instruction → At
at_of LoadStructured p i = in_structure (words_by (way_of p i.o3)) (source (spaces_of p) 1 i.o1 0)
    (source (spaces_of p) 2 i.o2 0)
at_of StoreStructured p i = in_structure (words_by (way_of p i.o0)) (source (spaces_of p) 1 i.o1 0)
    (source (spaces_of p) 2 i.o2 0)
at_of (Acts kind) p i = paired_by (way_of p i.o0) (spaces_of p) 1 i.o1
at_of Compares p i = paired_by (way_of p i.o0) (spaces_of p) 1 i.o1
at_of (Fetches kind) p i = paired_by (way_of p i.o1) (spaces_of p) 2 i.o2
at_of Exchanges p i = paired_by (way_of p i.o1) (spaces_of p) 2 i.o2
at_of other p i = at_byte (source (spaces_of p) 1 i.o1 0)

abbrev pub reach_of : Meaning → Shader → Instruction → Reach
reach_of m p i = record { room = room_by m i; known = known_words p (room_by m i); address = address_of (at_of m p i) }

-- THE STATEMENTS OF ITS EVENTS, one for each part
abbrev pub load_parts : Reach → Argument → Argument → List Term
load_parts r to view = loads r (written to) (selected view.select)

abbrev pub store_parts : Spaces → Reach → Argument → ℕ → Argument → List Term
store_parts g r view k from = stores r (masked view.select) (source g k from)

abbrev pub counter_part : Room → Act → List Term
counter_part counter kind = Atomic (answer_scratch 0) counter (Word 0) kind (Word 1) (Word 0) ∷ []

abbrev pub sync_part : ℕ → List Term
sync_part controls = Sync (has_bit controls 11) (scope_of controls) (classes_of controls) ∷ []

abbrev pub parts_by : Meaning → Spaces → Reach → Instruction → List Term
parts_by LoadRaw g r i = load_parts r i.o0 i.o2
parts_by LoadStructured g r i = load_parts r i.o0 i.o3
parts_by StoreRaw g r i = store_parts g r i.o0 2 i.o2
parts_by StoreStructured g r i = store_parts g r i.o0 3 i.o3
parts_by (Acts kind) g r i = atomic_part r kind (source g 2 i.o2 0) (Word 0) false ∷ []
parts_by Compares g r i = atomic_part r act.CompareExchange (source g 2 i.o2 0) (source g 3 i.o3 0) false ∷ []
parts_by (Fetches kind) g r i = atomic_part r kind (source g 3 i.o3 0) (Word 0) true ∷ []
parts_by Exchanges g r i = atomic_part r act.CompareExchange (source g 3 i.o3 0) (source g 4 i.o4 0) true ∷ []
parts_by Allocates g r i = counter_part r.room act.Add
parts_by Consumes g r i = counter_part r.room act.Sub
parts_by other g r i = []

-- what is kept for them
abbrev pub keeps_by : Meaning → At → List Term
keeps_by Allocates at = []
keeps_by Consumes at = []
keeps_by m at = keeps at

-- THE WORDS THAT IT GIVES at a component of its destination, where it has one: of a load its own answer, of the others
-- the one answer, and of a step down the word less one.
abbrev pub has_result : Meaning → Bool
has_result LoadRaw = true
has_result LoadStructured = true
has_result Measures = true
has_result (Fetches kind) = true
has_result Exchanges = true
has_result Allocates = true
has_result Consumes = true
has_result other = false

abbrev pub results : Meaning → Instruction → List ℕ
results m i = if has_result m then written i.o0 else []

abbrev pub given_by : Meaning → ℕ → Term
given_by LoadRaw c = Scratch (answer_scratch c)
given_by LoadStructured c = Scratch (answer_scratch c)
given_by Consumes c = Two Iadd (Scratch (answer_scratch 0)) (Word (2 ^ 32 - 1))
given_by other c = Scratch (answer_scratch 0)

-- bufinfo: the first of its words is measured, which is no event; then comes the stride of a structured view
abbrev pub measure_by : Addressing → Room → List Term
measure_by Bytes room = Set (answer_scratch 0) (Product (Length room) 4) ∷ []
measure_by (Structures stride) room = Set (answer_scratch 0) (structures (stride / 4) room) ∷ []
measure_by Words room = []

abbrev pub stride_of : Addressing → ℕ
stride_of (Structures stride) = stride
stride_of other = 0

abbrev pub first_measure : Addressing → Bool → Term
first_measure Words null = Word 0
first_measure way null = if null then Word 0 else Scratch (answer_scratch 0)

abbrev pub measured : Addressing → Bool → ℕ → Term
measured way null c = if nat_eq c 0 then first_measure way null else if nat_eq c 1 then Word (stride_of way) else Word 0

-- WHAT IT DOES IN ALL. Of a null room it neither reads the length nor makes an event, and its words are 0.
pub record Work : Type 0 where
  pub kept : List Term
  pub parts : List Term
  pub values : ℕ → Term

abbrev pub work_by : Meaning → Bool → Shader → Instruction → Work
work_by Syncs null p i = record { kept = []; parts = sync_part i.controls; values = λ c. Word 0 }
work_by Measures null p i = record {
  kept = if null then [] else measure_by (way_of p i.o1) (room_of i.o1);
  parts = [];
  values = λ c. measured (way_of p i.o1) null (selected i.o1.select c);
}
work_by m true p i = record { kept = []; parts = []; values = λ c. Word 0 }
work_by m false p i = record {
  kept = keeps_by m (at_of m p i);
  parts = parts_by m (spaces_of p) (reach_of m p i) i;
  values = given_by m;
}

abbrev pub writes : Spaces → Instruction → (ℕ → Term) → List ℕ → List Term
writes g i values cs = map (λ c. write_by (target g i.o0) g 0 c (values c)) cs

abbrev pub statements : Spaces → Instruction → Work → List ℕ → List Term
statements g i w cs = indices g i ++ (w.kept ++ (w.parts ++ writes g i w.values cs))

abbrev pub raised : Option Meaning → (Room → Bool) → Shader → Instruction → Term
raised None is_null p i = Nothing
raised (Some m) is_null p i = chained (statements (spaces_of p) i (work_by m (is_null (room_by m i)) p i) (results m i))

unfoldable pub statement_of : (Room → Bool) → Shader → Instruction → Term
statement_of is_null p i = raised (meaning_of Base i.code) is_null p i

-- THE SHAPE of an instruction: what makes events of it, in order; of a null room nothing does.
abbrev pub items_by : Meaning → Room → Instruction → List Item
items_by LoadRaw room i = map (λ c. Loads room) (written i.o0)
items_by LoadStructured room i = map (λ c. Loads room) (written i.o0)
items_by StoreRaw room i = map (λ c. Stores room) (masked i.o0.select)
items_by StoreStructured room i = map (λ c. Stores room) (masked i.o0.select)
items_by (Acts kind) room i = Changes room kind ∷ []
items_by Compares room i = Changes room act.CompareExchange ∷ []
items_by (Fetches kind) room i = Changes room kind ∷ []
items_by Exchanges room i = Changes room act.CompareExchange ∷ []
items_by Allocates room i = Changes room act.Add ∷ []
items_by Consumes room i = Changes room act.Sub ∷ []
items_by other room i = []

abbrev pub shape_by : Option Meaning → (Room → Bool) → Instruction → List Item
shape_by None is_null i = []
shape_by (Some Syncs) is_null i = (if has_bit i.controls 11 then Waits else Fences) ∷ []
shape_by (Some m) is_null i = if is_null (room_by m i) then [] else items_by m (room_by m i) i

abbrev pub shape_of : (Room → Bool) → Instruction → List Item
shape_of is_null i = shape_by (meaning_of Base i.code) is_null i
