-- The shape of a module: its OpLoopMerge, OpSwitch and event instructions in list order, in the words of a statement's
-- shape (SPIR-V specification, unified1, sections 2.11 and 3.52: a loop or switch reaches from its OpLoopMerge or
-- OpSwitch to the label of its merge block). Events go through pointers into storage buffers and shared memory.
use Rattle.std.specs.Prelude.{ℕ, zero, suc, nat_eq, if◌then◌else◌, List, [], ◌∷◌, ◌++◌, length, position, Option, Some, None, slice_get, option_map, option_and_then}
use Rattle.std.specs.List.{list_any}
use Rattle.word_base.specs.declared.event.Act.{Act}
use Rattle.word_base.specs.declared.event.Act.TheVariants.{CompareExchange}
use Rattle.word_base.specs.declared.event.Room.{Room}
use Rattle.word_base.specs.declared.event.Room.TheVariants.{Shared}
use Rattle.shader_tree.specs.Shape.{Item, OpensLoop, OpensSwitch, ClosesIt, Loads, Stores, Changes, Fences, Waits}
use Rattle.spirv_words.specs.StorageClass.{StorageBuffer, Workgroup, has_events}
use Rattle.spirv_words.specs.Decoration.{DescriptorSet, Binding}
use Rattle.spirv_words.specs.Roles.{Flow, Plain, Merge, LoopMerge, Switch}
use Rattle.spirv_words.specs.Blocks.{flow_of}
use Rattle.spirv_words.specs.Operations.{Op, op_of, OpLabel, OpSwitch, OpLoopMerge, OpVariable, OpAccessChain, OpLoad, OpStore, OpAtomicCompareExchange, OpControlBarrier, OpMemoryBarrier}
use Rattle.spirv_words.specs.Text.{Instr, Module}
use Rattle.spirv_words.specs.Ids.{definition}
use Rattle.spirv_words.specs.Sorts.{Sort, Pointer, sort_of_value}
use Rattle.spirv_words.specs.Globals.{Places, bound_room, decoration, workgroup_ids}
use Rattle.spirv_words.specs.Memory.{act_of}

-- an item, or an event through a pointer that leads to no room
pub data Mark : Type 0 where
  Seen : (item : Item) → Mark
  Hidden : Mark

-- the merge labels of loops, and of switches: those that are named directly before an OpSwitch
abbrev pub merge_by : Flow → Flow → List ℕ
merge_by (LoopMerge label continue) next = label ∷ []
merge_by (Merge label) (Switch other targets) = label ∷ []
merge_by flow next = []

abbrev pub flow_at : List Instr → Flow
flow_at [] = Plain
flow_at (i ∷ rest) = flow_of i

abbrev pub merges_of : List Instr → List ℕ
merges_of [] = []
merges_of (i ∷ rest) = merge_by (flow_of i) (flow_at rest) ++ merges_of rest

-- the case values of an OpSwitch
abbrev pub firsts : List ℕ → List ℕ
firsts (value ∷ label ∷ rest) = value ∷ firsts rest
firsts rest = []

-- where the pointer that an instruction gives comes from: an access chain's from its base
abbrev pub base_of : Option Op → List ℕ → ℕ → ℕ
base_of (Some OpAccessChain) (t ∷ r ∷ base ∷ indices) x = base
base_of op os x = x

abbrev pub base_in : Option Instr → ℕ → ℕ
base_in None x = x
base_in (Some i) x = base_of (op_of i.op) i.operands x

-- That many access chains back from a pointer. A variable stays itself, so as many as there are instructions lead to
-- the variable that the chains begin with.
abbrev pub base_back : List Instr → ℕ → ℕ → ℕ
base_back code zero x = x
base_back code (suc n) x = base_back code n (base_in (definition code x) x)

-- the mark of an event by its room, and by the sort of its pointer
abbrev pub mark_of : (Room → Item) → Option Room → Mark
mark_of item None = Hidden
mark_of item (Some room) = Seen (item room)

abbrev pub marks_by : (Room → Item) → Sort → Option Room → List Mark
marks_by item (Pointer class pointee) room = if has_events class then mark_of item room ∷ [] else []
marks_by item sort room = []

module _ (code : List Instr) (places : Places) where
  -- The room of a variable. Storage buffers and shared memory have one, the k-th Workgroup variable the k-th slot.
  abbrev pub buffer_room : ℕ → Option Room
  buffer_room x = bound_room places (decoration code x DescriptorSet) (decoration code x Binding)

  abbrev pub shared_room : ℕ → Option Room
  shared_room x =
      option_map (λ s. Shared s) (option_and_then (slice_get places.shared) (position (nat_eq x) (workgroup_ids code)))

  abbrev pub variable_room : ℕ → ℕ → Option Room
  variable_room x class =
      if nat_eq class StorageBuffer then buffer_room x else if nat_eq class Workgroup then shared_room x else None

  abbrev pub room_by : Option Op → List ℕ → Option Room
  room_by (Some OpVariable) (t ∷ r ∷ class ∷ rest) = variable_room r class
  room_by op os = None

  abbrev pub room_in : Option Instr → Option Room
  room_in None = None
  room_in (Some i) = room_by (op_of i.op) i.operands

  -- the room of a pointer: of the variable itself, or of the one that its access chains begin with
  abbrev pub pointer_room : ℕ → Option Room
  pointer_room x = room_in (definition code (base_back code (length code) x))

  abbrev pub marks : (Room → Item) → ℕ → List Mark
  marks item x = marks_by item (sort_of_value code x) (pointer_room x)

  abbrev pub changes : Option Act → List ℕ → List Mark
  changes (Some kind) (t ∷ r ∷ p ∷ rest) = marks (λ room. Changes room kind) p
  changes kind os = []

  abbrev pub marks_in : Op → List ℕ → List Mark
  marks_in OpLoopMerge os = Seen OpensLoop ∷ []
  marks_in OpSwitch (x ∷ other ∷ cases) = Seen (OpensSwitch (firsts cases)) ∷ []
  marks_in OpLabel (l ∷ []) = if list_any (nat_eq l) (merges_of code) then Seen ClosesIt ∷ [] else []
  marks_in OpLoad (t ∷ r ∷ p ∷ rest) = marks Loads p
  marks_in OpStore (p ∷ x ∷ rest) = marks Stores p
  marks_in OpAtomicCompareExchange os = changes (Some CompareExchange) os
  marks_in OpControlBarrier os = Seen Waits ∷ []
  marks_in OpMemoryBarrier os = Seen Fences ∷ []
  marks_in op os = changes (act_of op) os

  abbrev pub marks_of_op : Option Op → List ℕ → List Mark
  marks_of_op None os = []
  marks_of_op (Some op) os = marks_in op os

  abbrev pub marks_of : Instr → List Mark
  marks_of i = marks_of_op (op_of i.op) i.operands

  -- of some of the module's code
  abbrev pub shape_of : List Instr → List Mark
  shape_of [] = []
  shape_of (i ∷ rest) = marks_of i ++ shape_of rest

abbrev pub module_shape : Module → Places → List Mark
module_shape m places = shape_of m.code places m.code
