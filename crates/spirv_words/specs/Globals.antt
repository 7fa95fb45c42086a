-- What a module's constants and global variables stand for, by their first definition in front of the function, under a lane's setting
-- and the places of rooms, constant buffers and push words (SPIR-V specification, unified1, sections 2.4 and 3.52.7 to 3.52.8).
use Rattle.std.specs.Prelude.{ℕ, zero, suc, ◌+◌, ◌-◌, nat_eq, nat_lt, nat_le, if◌then◌else◌, Bool, true, false, ◌&&◌, List, [], ◌∷◌, length, replicate, map, filter, find, position, Option, Some, None, Ok, Err, slice_get, slice_index, option_map, option_and_then}
use Rattle.word_base.specs.declared.event.Ids.{Ids}
use Rattle.word_base.specs.declared.event.Room.{Room}
use Rattle.word_base.specs.declared.event.Room.TheVariants.{Shared}
use Rattle.word_base.specs.Settings.{Setting}
use Rattle.spirv_words.specs.StorageClass.{Input, Uniform, Workgroup, Private, PushConstant, StorageBuffer}
use Rattle.spirv_words.specs.Decoration.{BuiltIn, Binding, DescriptorSet}
use Rattle.spirv_words.specs.BuiltIn.{WorkgroupId, LocalInvocationId, GlobalInvocationId, LocalInvocationIndex}
use Rattle.spirv_words.specs.Operations.{Op, op_of, OpDecorate, OpMemberDecorate, OpConstantTrue, OpConstantFalse, OpConstant, OpConstantNull, OpConstantComposite, OpVariable}
use Rattle.spirv_words.specs.Text.{Instr, is_op}
use Rattle.spirv_words.specs.Ids.{definition, declared}
use Rattle.spirv_words.specs.Sorts.{Sort, Words, Truths, Vector, Array, Struct, sort_of}
use Rattle.spirv_words.specs.Values.{Value, Word, Truth, AtLocal, AtRoom, AtConstants, AtPush, AtInput, Got, of_parts, all_there, cells_of}

-- the room at a set and binding
pub record RoomPlace : Type 0 where
  pub set : ℕ
  pub binding : ℕ
  pub room : Room

-- the constant buffer at a set and binding, by its slot
pub record SlotPlace : Type 0 where
  pub set : ℕ
  pub binding : ℕ
  pub slot : ℕ

-- the push constant words of a constant buffer
pub record PushPlace : Type 0 where
  pub first : ℕ
  pub count : ℕ
  pub slot : ℕ

-- Where a lane finds what is bound, and the slots of shared memory, ascending.
pub record Places : Type 0 where
  pub rooms : List RoomPlace
  pub slots : List SlotPlace
  pub pushes : List PushPlace
  pub shared : List ℕ

-- a module's instructions with all that a lane of it is given
pub record Machine : Type 0 where
  pub code : List Instr
  pub places : Places
  pub setting : Setting

-- the literals of the first decoration of that kind on an id, and on a member of it
abbrev pub decorates : ℕ → ℕ → Instr → Bool
decorates x kind i =
    is_op OpDecorate i && (nat_eq (slice_index i.operands 0) x && nat_eq (slice_index i.operands 1) kind)

abbrev pub decorates_member : ℕ → ℕ → ℕ → Instr → Bool
decorates_member x k kind i =
    is_op OpMemberDecorate i &&
    (nat_eq (slice_index i.operands 0) x && (nat_eq (slice_index i.operands 1) k && nat_eq (slice_index i.operands 2) kind))

abbrev pub decoration : List Instr → ℕ → ℕ → Option ℕ
decoration code x kind = option_and_then (λ i. slice_get i.operands 2) (find (decorates x kind) code)

abbrev pub member_decoration : List Instr → ℕ → ℕ → ℕ → Option ℕ
member_decoration code x k kind = option_and_then (λ i. slice_get i.operands 3) (find (decorates_member x k kind) code)

-- what is bound at a descriptor set and binding
abbrev pub bound_room : Places → Option ℕ → Option ℕ → Option Room
bound_room places (Some set) (Some binding) =
    option_map (λ p. p.room) (find (λ p. nat_eq p.set set && nat_eq p.binding binding) places.rooms)
bound_room places set binding = None

abbrev pub bound_slot : Places → Option ℕ → Option ℕ → Option ℕ
bound_slot places (Some set) (Some binding) =
    option_map (λ p. p.slot) (find (λ p. nat_eq p.set set && nat_eq p.binding binding) places.slots)
bound_slot places set binding = None

-- the word of a push constant, 0 where no constant buffer has it
abbrev pub pushed : Setting → ℕ → Option PushPlace → ℕ
pushed setting w None = 0
pushed setting w (Some p) = slice_index (setting.constants p.slot) (w - p.first)

abbrev pub push_word : Machine → ℕ → ℕ
push_word m w = pushed m.setting w (find (λ p. nat_le p.first w && nat_lt w (p.first + p.count)) m.places.pushes)

-- The k-th Workgroup variable is the k-th slot of shared memory that has words.
abbrev pub is_workgroup : Instr → Bool
is_workgroup i = is_op OpVariable i && nat_eq (slice_index i.operands 2) Workgroup

abbrev pub workgroup_ids : List Instr → List ℕ
workgroup_ids code = map (λ i. slice_index i.operands 1) (filter is_workgroup (declared code))

abbrev pub filled_slots : Machine → List ℕ
filled_slots m = filter (λ k. nat_lt 0 (m.setting.extent (Shared k))) m.places.shared

abbrev pub shared_slot : Machine → ℕ → Option ℕ
shared_slot m x = option_and_then (slice_get (filled_slots m)) (position (nat_eq x) (workgroup_ids m.code))

-- the lane's numbers of a built-in
abbrev pub built_in : Ids → ℕ → List ℕ
built_in ids kind =
    if nat_eq kind WorkgroupId then ids.group_x ∷ ids.group_y ∷ ids.group_z ∷ [] else
    if nat_eq kind LocalInvocationId then ids.x ∷ ids.y ∷ ids.z ∷ [] else
    if nat_eq kind GlobalInvocationId then ids.thread_x ∷ ids.thread_y ∷ ids.thread_z ∷ [] else
    if nat_eq kind LocalInvocationIndex then ids.flat ∷ [] else
    []

abbrev pub is_built_in : ℕ → Bool
is_built_in kind = nat_le WorkgroupId kind && nat_le kind LocalInvocationIndex

abbrev pub input_by : Option ℕ → Option Value
input_by None = None
input_by (Some kind) = if is_built_in kind then Some (AtInput kind 0) else None

-- a variable by its storage class, where it has the descriptor set, binding and built-in of its decorations
abbrev pub variable_by : Machine → ℕ → ℕ → (set binding kind : Option ℕ) → Option Value
variable_by m x class set binding kind =
    if nat_eq class StorageBuffer then option_map (λ r. AtRoom r 0) (bound_room m.places set binding) else
    if nat_eq class Uniform then option_map (λ s. AtConstants s 0) (bound_slot m.places set binding) else
    if nat_eq class Workgroup then option_map (λ s. AtRoom (Shared s) 0) (shared_slot m x) else
    if nat_eq class Input then input_by kind else
    if nat_eq class PushConstant then Some (AtPush 0) else
    if nat_eq class Private then Some (AtLocal x 0) else
    None

abbrev pub variable_value : Machine → ℕ → ℕ → Option Value
variable_value m x class =
    variable_by m x class (decoration m.code x DescriptorSet) (decoration m.code x Binding) (decoration m.code x BuiltIn)

-- the null of a type, where those of other types are known; types nest less deep than there are instructions
abbrev pub null_by : (ℕ → Option Value) → Sort → Option Value
null_by null Words = Some (Word 0)
null_by null Truths = Some (Truth false)
null_by null (Vector element count) = option_map (λ v. of_parts (replicate count v)) (null element)
null_by null (Array element count) = option_map (λ v. of_parts (replicate count v)) (null element)
null_by null (Struct members) = option_map of_parts (all_there (map null members))
null_by null s = None

abbrev pub null_within : List Instr → ℕ → ℕ → Option Value
null_within code zero t = None
null_within code (suc depth) t = null_by (null_within code depth) (sort_of code t)

abbrev pub null_value : List Instr → ℕ → Option Value
null_value code t = null_by (null_within code (length code)) (sort_of code t)

-- what an instruction defines, where the parts of a composite are known
abbrev pub value_by : Machine → (ℕ → Option Value) → Op → List ℕ → Option Value
value_by m part OpConstant (t ∷ r ∷ word ∷ []) = Some (Word word)
value_by m part OpConstantTrue os = Some (Truth true)
value_by m part OpConstantFalse os = Some (Truth false)
value_by m part OpConstantNull (t ∷ r ∷ []) = null_value m.code t
value_by m part OpConstantComposite (t ∷ r ∷ xs) = option_map of_parts (all_there (map part xs))
value_by m part OpVariable (t ∷ r ∷ class ∷ rest) = variable_value m r class
value_by m part op os = None

abbrev pub value_of_op : Machine → (ℕ → Option Value) → Option Op → List ℕ → Option Value
value_of_op m part None os = None
value_of_op m part (Some op) os = value_by m part op os

abbrev pub value_of_instr : Machine → (ℕ → Option Value) → Option Instr → Option Value
value_of_instr m part None = None
value_of_instr m part (Some i) = value_of_op m part (op_of i.op) i.operands

abbrev pub global_within : Machine → ℕ → ℕ → Option Value
global_within m zero x = None
global_within m (suc depth) x = value_of_instr m (global_within m depth) (definition (declared m.code) x)

abbrev pub global : Machine → ℕ → Option Value
global m x = value_of_instr m (global_within m (length m.code)) (definition (declared m.code) x)

-- the memory at the start: Private variables hold their initializers
abbrev pub cell : Got (List ℕ) → ℕ → Option ℕ
cell (Ok ws) w = slice_get ws w
cell (Err rule) w = None

abbrev pub initial_by : Machine → List ℕ → ℕ → Option ℕ
initial_by m (t ∷ r ∷ class ∷ x ∷ []) w = if nat_eq class Private then cell (cells_of (global m x)) w else None
initial_by m os w = None

abbrev pub initial_of : Machine → Option Instr → ℕ → Option ℕ
initial_of m None w = None
initial_of m (Some i) w = if is_op OpVariable i then initial_by m i.operands w else None

abbrev pub initial_memory : Machine → ℕ → ℕ → Option ℕ
initial_memory m x w = initial_of m (definition (declared m.code) x) w
