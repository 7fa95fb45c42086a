-- Whole modules whose lanes break a strict rule: the instruction at which each stops, and the rule.
use Rattle.std.specs.Prelude.{◌≡◌, ℕ, zero, suc, List, [], ◌∷◌, ◌++◌, Option, Some, None, refl}
use Rattle.word_base.specs.Lanes.{Turn, Silent, Asks, Ends, Wrong, Standing}
use Rattle.word_base.specs.Settings.{Setting}
use Rattle.word_base.specs.declared.event.Ids.{Ids}
use Rattle.word_base.specs.declared.event.Room.{Room}
use Rattle.word_base.specs.declared.event.Room.TheVariants.{Resource, Uav}
use Rattle.spirv_words.specs.Operations.{OpAccessChain, OpAtomicIAdd, OpBitFieldInsert, OpBitFieldSExtract, OpBitFieldUExtract, OpBranch, OpBranchConditional, OpCapability, OpConstant, OpConstantTrue, OpControlBarrier, OpDecorate, OpEntryPoint, OpExecutionMode, OpFunction, OpFunctionEnd, OpIAdd, OpISub, OpLabel, OpLoad, OpLogicalNot, OpMemberDecorate, OpMemoryBarrier, OpMemoryModel, OpReturn, OpSelectionMerge, OpShiftLeftLogical, OpShiftRightArithmetic, OpShiftRightLogical, OpStore, OpTypeArray, OpTypeBool, OpTypeFunction, OpTypeInt, OpTypePointer, OpTypeRuntimeArray, OpTypeStruct, OpTypeVoid, OpUDiv, OpUMod, OpUnreachable, OpVariable}
use Rattle.spirv_words.specs.Text.{Instr, Module, instruction, instr}
use Rattle.spirv_words.specs.Globals.{Places, RoomPlace}
use Rattle.spirv_words.specs.Lane.{State, lane, start}

-- the next turn that is not silent, within that many steps
abbrev pub loud_or : {S : Type 0} → Turn S → (S → Option (Turn S)) → Option (Turn S)
loud_or (Silent to) further = further to
loud_or (Asks e after) further = Some (Asks e after)
loud_or Ends further = Some Ends
loud_or (Wrong place rule) further = Some (Wrong place rule)

abbrev pub loud_in : {S : Type 0} → ℕ → (S → Turn S) → S → Option (Turn S)
loud_in zero step s = None
loud_in (suc n) step s = loud_or (step s) (loud_in n step)

-- THE MODULES differ behind their first label, which is instruction 40. Variables 20 and 21 are structs of an array without a length,
-- 22 and 23 structs of an array of 8 words; 50 and above are ids of the function.
abbrev pub front : List Instr
front =
    instruction OpCapability (1 ∷ []) ∷ instruction OpMemoryModel (0 ∷ 1 ∷ []) ∷
    instruction OpEntryPoint (5 ∷ 1 ∷ 0x6E69616D ∷ 0 ∷ []) ∷ instruction OpExecutionMode (1 ∷ 17 ∷ 1 ∷ 1 ∷ 1 ∷ []) ∷  -- 0 to 3
    instruction OpDecorate (20 ∷ 34 ∷ 0 ∷ []) ∷ instruction OpDecorate (20 ∷ 33 ∷ 0 ∷ []) ∷
    instruction OpDecorate (21 ∷ 34 ∷ 0 ∷ []) ∷ instruction OpDecorate (21 ∷ 33 ∷ 1 ∷ []) ∷  -- 4 to 7
    instruction OpDecorate (22 ∷ 34 ∷ 0 ∷ []) ∷ instruction OpDecorate (22 ∷ 33 ∷ 2 ∷ []) ∷
    instruction OpDecorate (23 ∷ 34 ∷ 0 ∷ []) ∷ instruction OpDecorate (23 ∷ 33 ∷ 3 ∷ []) ∷  -- 8 to 11
    instruction OpDecorate (11 ∷ 6 ∷ 4 ∷ []) ∷ instruction OpMemberDecorate (12 ∷ 0 ∷ 35 ∷ 0 ∷ []) ∷
    instruction OpDecorate (16 ∷ 6 ∷ 4 ∷ []) ∷ instruction OpMemberDecorate (17 ∷ 0 ∷ 35 ∷ 0 ∷ []) ∷  -- 12 to 15
    instruction OpTypeVoid (2 ∷ []) ∷ instruction OpTypeFunction (3 ∷ 2 ∷ []) ∷ instruction OpTypeBool (8 ∷ []) ∷
    instruction OpTypeInt (10 ∷ 32 ∷ 0 ∷ []) ∷  -- 16 to 19
    instruction OpConstantTrue (8 ∷ 5 ∷ []) ∷ instruction OpConstant (10 ∷ 40 ∷ 0 ∷ []) ∷
    instruction OpConstant (10 ∷ 41 ∷ 1 ∷ []) ∷ instruction OpConstant (10 ∷ 42 ∷ 2 ∷ []) ∷  -- 20 to 23
    instruction OpConstant (10 ∷ 43 ∷ 3 ∷ []) ∷ instruction OpConstant (10 ∷ 44 ∷ 8 ∷ []) ∷
    instruction OpConstant (10 ∷ 45 ∷ 32 ∷ []) ∷  -- 24 to 26
    instruction OpTypeRuntimeArray (11 ∷ 10 ∷ []) ∷ instruction OpTypeStruct (12 ∷ 11 ∷ []) ∷
    instruction OpTypePointer (13 ∷ 12 ∷ 12 ∷ []) ∷ instruction OpTypePointer (14 ∷ 12 ∷ 10 ∷ []) ∷  -- 27 to 30
    instruction OpTypePointer (9 ∷ 7 ∷ 10 ∷ []) ∷  -- 31
    instruction OpTypeArray (16 ∷ 10 ∷ 44 ∷ []) ∷ instruction OpTypeStruct (17 ∷ 16 ∷ []) ∷
    instruction OpTypePointer (18 ∷ 12 ∷ 17 ∷ []) ∷  -- 32 to 34
    instruction OpVariable (13 ∷ 20 ∷ 12 ∷ []) ∷ instruction OpVariable (13 ∷ 21 ∷ 12 ∷ []) ∷
    instruction OpVariable (18 ∷ 22 ∷ 12 ∷ []) ∷ instruction OpVariable (18 ∷ 23 ∷ 12 ∷ []) ∷ []  -- 35 to 38

abbrev pub module_of : List Instr → Module
module_of code = record { version = 0x00010300; bound = 100; code = code }

-- a function whose block is that, as instruction 41 and those behind it, without its end and with it
abbrev pub unended : List Instr → Module
unended body = module_of (front ++ (instruction OpFunction (2 ∷ 1 ∷ 0 ∷ 3 ∷ []) ∷ instruction OpLabel (4 ∷ []) ∷ body))

abbrev pub whole : List Instr → Module
whole body = unended (body ++ (instruction OpFunctionEnd [] ∷ []))

-- u0, t0, u1 and t1 at the bindings 0 to 3, each of three words
abbrev pub at_binding : ℕ → Room → RoomPlace
at_binding binding room = record { set = 0; binding = binding; room = room }

abbrev pub four_rooms : Places
four_rooms = record {
  rooms = at_binding 0 (Uav 0) ∷ at_binding 1 (Resource 0) ∷ at_binding 2 (Uav 1) ∷ at_binding 3 (Resource 1) ∷ [];
  slots = [];
  pushes = [];
  shared = [];
}

abbrev pub three_words : Ids → Setting
three_words ids = record { ids = ids; constants = λ slot. []; extent = λ room. 3 }

abbrev pub comes_to : Module → Ids → Option (Turn (Standing State))
comes_to m ids = loud_in 8 (lane m four_rooms (three_words ids)) (start m four_rooms (three_words ids))

-- RULE 1: the sum of a word and a pointer, and the negation of a word.
pub sum_of_pointer : (ids : Ids) →
    comes_to (whole (instruction OpIAdd (10 ∷ 50 ∷ 41 ∷ 42 ∷ []) ∷ instruction OpIAdd (10 ∷ 51 ∷ 50 ∷ 20 ∷ []) ∷
    instruction OpReturn [] ∷ [])) ids ≡ Some (Wrong 42 1)
sum_of_pointer ids = refl

pub not_of_word : (ids : Ids) → comes_to (whole (instruction OpLogicalNot (8 ∷ 50 ∷ 41 ∷ []) ∷ instruction OpReturn [] ∷ [])) ids ≡ Some (Wrong 41 1)
not_of_word ids = refl

-- RULE 2: an id that nothing defines, one that is defined further on, a variable of the function that was never set, and a variable
-- at a binding where no room is.
pub sum_of_nothing : (ids : Ids) → comes_to (whole (instruction OpIAdd (10 ∷ 50 ∷ 41 ∷ 99 ∷ []) ∷ instruction OpReturn [] ∷ [])) ids ≡ Some (Wrong 41 2)
sum_of_nothing ids = refl

pub sum_too_early : (ids : Ids) →
    comes_to (whole (instruction OpIAdd (10 ∷ 50 ∷ 41 ∷ 51 ∷ []) ∷ instruction OpIAdd (10 ∷ 51 ∷ 41 ∷ 41 ∷ []) ∷
    instruction OpReturn [] ∷ [])) ids ≡ Some (Wrong 41 2)
sum_too_early ids = refl

pub never_set : (ids : Ids) →
    comes_to (whole (instruction OpVariable (9 ∷ 50 ∷ 7 ∷ []) ∷ instruction OpLoad (10 ∷ 51 ∷ 50 ∷ []) ∷
    instruction OpReturn [] ∷ [])) ids ≡ Some (Wrong 42 2)
never_set ids = refl

abbrev pub no_rooms : Places
no_rooms = record { rooms = []; slots = []; pushes = []; shared = [] }

abbrev pub first_word : Module
first_word = whole (instruction OpAccessChain (14 ∷ 50 ∷ 20 ∷ 40 ∷ 40 ∷ []) ∷ instruction OpReturn [] ∷ [])

pub without_room : (ids : Ids) →
    loud_in 8 (lane first_word no_rooms (three_words ids)) (start first_word no_rooms (three_words ids)) ≡ Some (Wrong 41 2)
without_room ids = refl

-- RULE 3: no function of the entry point; a branch to a label that is not there; a block that runs into the next label, into the end of
-- the function, and behind the last instruction.
pub without_start : (ids : Ids) → comes_to (module_of front) ids ≡ Some (Wrong 0 3)
without_start ids = refl

pub without_label : (ids : Ids) →
    comes_to (whole (instruction OpBranch (60 ∷ []) ∷ instruction OpLabel (60 ∷ []) ∷ instruction OpBranch (61 ∷ []) ∷
    [])) ids ≡ Some (Wrong 43 3)
without_label ids = refl

pub into_a_label : (ids : Ids) →
    comes_to (whole (instruction OpIAdd (10 ∷ 50 ∷ 41 ∷ 42 ∷ []) ∷ instruction OpLabel (60 ∷ []) ∷
    instruction OpReturn [] ∷ [])) ids ≡ Some (Wrong 42 3)
into_a_label ids = refl

pub into_the_end : (ids : Ids) → comes_to (whole (instruction OpIAdd (10 ∷ 50 ∷ 41 ∷ 42 ∷ []) ∷ [])) ids ≡ Some (Wrong 42 3)
into_the_end ids = refl

pub behind_the_last : (ids : Ids) →
    comes_to (unended (instruction OpIAdd (10 ∷ 50 ∷ 41 ∷ 42 ∷ []) ∷ instruction OpIAdd (10 ∷ 51 ∷ 50 ∷ 42 ∷ []) ∷
    [])) ids ≡ Some (Wrong 43 3)
behind_the_last ids = refl

-- RULE 4: a shift by the constant 32, and one by 16 + 16.
pub shift_by_32 : (ids : Ids) → comes_to (whole (instruction OpShiftLeftLogical (10 ∷ 50 ∷ 41 ∷ 45 ∷ []) ∷ instruction OpReturn [] ∷ [])) ids ≡ Some (Wrong 41 4)
shift_by_32 ids = refl

pub shift_by_sum : (ids : Ids) →
    comes_to (whole (
    instruction OpIAdd (10 ∷ 50 ∷ 44 ∷ 44 ∷ []) ∷ instruction OpShiftRightLogical (10 ∷ 51 ∷ 41 ∷ 50 ∷ []) ∷
    instruction OpIAdd (10 ∷ 52 ∷ 50 ∷ 50 ∷ []) ∷
    instruction OpShiftRightArithmetic (10 ∷ 53 ∷ 41 ∷ 52 ∷ []) ∷ instruction OpReturn [] ∷ [])) ids
    ≡ Some (Wrong 44 4)
shift_by_sum ids = refl

-- RULE 5: 8 / 0, and the rest of 8 by 3 - 3.
pub quotient_by_0 : (ids : Ids) →
    comes_to (whole (instruction OpUDiv (10 ∷ 50 ∷ 44 ∷ 43 ∷ []) ∷ instruction OpUDiv (10 ∷ 51 ∷ 44 ∷ 40 ∷ []) ∷
    instruction OpReturn [] ∷ [])) ids ≡ Some (Wrong 42 5)
quotient_by_0 ids = refl

pub rest_by_0 : (ids : Ids) →
    comes_to (whole (instruction OpISub (10 ∷ 50 ∷ 43 ∷ 43 ∷ []) ∷ instruction OpUMod (10 ∷ 51 ∷ 44 ∷ 50 ∷ []) ∷
    instruction OpReturn [] ∷ [])) ids ≡ Some (Wrong 42 5)
rest_by_0 ids = refl

-- RULE 6: fields of one bit from bit 32 on; a field of none there, and one of 32 bits from bit 0 on, are allowed.
pub field_past_32 : (ids : Ids) →
    comes_to (whole (instruction OpBitFieldUExtract (10 ∷ 50 ∷ 41 ∷ 45 ∷ 40 ∷ []) ∷
    instruction OpBitFieldUExtract (10 ∷ 51 ∷ 41 ∷ 45 ∷ 41 ∷ []) ∷ instruction OpReturn [] ∷ [])) ids
    ≡ Some (Wrong 42 6)
field_past_32 ids = refl

pub field_set_past_32 : (ids : Ids) →
    comes_to (whole (instruction OpBitFieldInsert (10 ∷ 50 ∷ 41 ∷ 42 ∷ 40 ∷ 45 ∷ []) ∷
    instruction OpBitFieldInsert (10 ∷ 51 ∷ 41 ∷ 42 ∷ 41 ∷ 45 ∷ []) ∷ instruction OpReturn [] ∷ [])) ids
    ≡ Some (Wrong 42 6)
field_set_past_32 ids = refl

pub signed_field_past_32 : (ids : Ids) →
    comes_to (whole (instruction OpBitFieldSExtract (10 ∷ 50 ∷ 41 ∷ 45 ∷ 41 ∷ []) ∷ instruction OpReturn [] ∷
    [])) ids ≡ Some (Wrong 41 6)
signed_field_past_32 ids = refl

-- RULE 7: index 3 in a view of three words; a load and a store of word 3 there, by an array of 8 words; index 8 in that array; an
-- atomic at word 3.
pub index_past_view : (ids : Ids) →
    comes_to (whole (instruction OpAccessChain (14 ∷ 50 ∷ 20 ∷ 40 ∷ 42 ∷ []) ∷
    instruction OpAccessChain (14 ∷ 51 ∷ 20 ∷ 40 ∷ 43 ∷ []) ∷ instruction OpReturn [] ∷ [])) ids
    ≡ Some (Wrong 42 7)
index_past_view ids = refl

pub load_past_view : (ids : Ids) →
    comes_to (whole (instruction OpAccessChain (14 ∷ 50 ∷ 22 ∷ 40 ∷ 43 ∷ []) ∷ instruction OpLoad (10 ∷ 51 ∷ 50 ∷
    []) ∷ instruction OpReturn [] ∷ [])) ids ≡ Some (Wrong 42 7)
load_past_view ids = refl

pub store_past_view : (ids : Ids) →
    comes_to (whole (instruction OpAccessChain (14 ∷ 50 ∷ 22 ∷ 40 ∷ 43 ∷ []) ∷ instruction OpStore (50 ∷ 41 ∷ []) ∷
    instruction OpReturn [] ∷ [])) ids ≡ Some (Wrong 42 7)
store_past_view ids = refl

pub index_past_array : (ids : Ids) → comes_to (whole (instruction OpAccessChain (14 ∷ 50 ∷ 22 ∷ 40 ∷ 44 ∷ []) ∷ instruction OpReturn [] ∷ [])) ids ≡ Some (Wrong 41 7)
index_past_array ids = refl

pub atomic_past_view : (ids : Ids) →
    comes_to (whole (instruction OpAccessChain (14 ∷ 50 ∷ 22 ∷ 40 ∷ 43 ∷ []) ∷
    instruction OpAtomicIAdd (10 ∷ 51 ∷ 50 ∷ 41 ∷ 40 ∷ 41 ∷ []) ∷ instruction OpReturn [] ∷ [])) ids
    ≡ Some (Wrong 42 7)
atomic_past_view ids = refl

-- RULE 8: a store to t0; OpUnreachable; a barrier that the whole device executes; a fence with semantics 8; a number that no
-- instruction of the table has.
pub store_to_read_only : (ids : Ids) →
    comes_to (whole (instruction OpAccessChain (14 ∷ 50 ∷ 21 ∷ 40 ∷ 40 ∷ []) ∷ instruction OpStore (50 ∷ 41 ∷ []) ∷
    instruction OpReturn [] ∷ [])) ids ≡ Some (Wrong 42 8)
store_to_read_only ids = refl

pub at_unreachable : (ids : Ids) → comes_to (whole (instruction OpBranch (60 ∷ []) ∷ instruction OpLabel (60 ∷ []) ∷ instruction OpUnreachable [] ∷ [])) ids ≡ Some (Wrong 43 8)
at_unreachable ids = refl

pub barrier_of_device : (ids : Ids) → comes_to (whole (instruction OpControlBarrier (41 ∷ 42 ∷ 40 ∷ []) ∷ instruction OpReturn [] ∷ [])) ids ≡ Some (Wrong 41 8)
barrier_of_device ids = refl

pub fence_of_nothing : (ids : Ids) → comes_to (whole (instruction OpMemoryBarrier (41 ∷ 44 ∷ []) ∷ instruction OpReturn [] ∷ [])) ids ≡ Some (Wrong 41 8)
fence_of_nothing ids = refl

pub unknown_number : (ids : Ids) → comes_to (whole (instr 245 (10 ∷ 50 ∷ 41 ∷ 4 ∷ []) ∷ instruction OpReturn [] ∷ [])) ids ≡ Some (Wrong 41 8)
unknown_number ids = refl

-- TWO RULES AT ONE INSTRUCTION. A sum of a pointer and of an id that nothing defines breaks 1 and 2.
pub one_before_two : (ids : Ids) → comes_to (whole (instruction OpIAdd (10 ∷ 50 ∷ 20 ∷ 99 ∷ []) ∷ instruction OpReturn [] ∷ [])) ids ≡ Some (Wrong 41 1)
one_before_two ids = refl

-- a shift by 32 of an id that nothing defines, 2 and 4
pub two_before_four : (ids : Ids) → comes_to (whole (instruction OpShiftLeftLogical (10 ∷ 50 ∷ 99 ∷ 45 ∷ []) ∷ instruction OpReturn [] ∷ [])) ids ≡ Some (Wrong 41 2)
two_before_four ids = refl

-- a barrier that the whole device executes, with semantics that are defined further on, 2 and 8
pub two_before_eight : (ids : Ids) →
    comes_to (whole (instruction OpControlBarrier (41 ∷ 42 ∷ 50 ∷ []) ∷ instruction OpIAdd (10 ∷ 50 ∷ 41 ∷ 41 ∷ []) ∷
    instruction OpReturn [] ∷ [])) ids ≡ Some (Wrong 41 2)
two_before_eight ids = refl

-- a store behind the end of t1, and an atomic behind the end of u1 in the scope 3, 7 and 8
pub seven_before_eight : (ids : Ids) →
    comes_to (whole (instruction OpAccessChain (14 ∷ 50 ∷ 23 ∷ 40 ∷ 43 ∷ []) ∷ instruction OpStore (50 ∷ 41 ∷ []) ∷
    instruction OpReturn [] ∷ [])) ids ≡ Some (Wrong 42 7)
seven_before_eight ids = refl

pub atomic_seven_before_eight : (ids : Ids) →
    comes_to (whole (instruction OpAccessChain (14 ∷ 50 ∷ 22 ∷ 40 ∷ 43 ∷ []) ∷
    instruction OpAtomicIAdd (10 ∷ 51 ∷ 50 ∷ 43 ∷ 40 ∷ 41 ∷ []) ∷ instruction OpReturn [] ∷ [])) ids
    ≡ Some (Wrong 42 7)
atomic_seven_before_eight ids = refl

-- A RULE COUNTS ONLY WHERE THE LANE COMES: block 61 divides by 0, and the lane takes the first of two blocks.
abbrev pub chosen : ℕ → ℕ → Module
chosen first second = whole (
    instruction OpSelectionMerge (62 ∷ 0 ∷ []) ∷ instruction OpBranchConditional (5 ∷ first ∷ second ∷ []) ∷  -- 41, 42
    instruction OpLabel (60 ∷ []) ∷ instruction OpBranch (62 ∷ []) ∷  -- 43, 44
    instruction OpLabel (61 ∷ []) ∷ instruction OpUDiv (10 ∷ 50 ∷ 41 ∷ 40 ∷ []) ∷ instruction OpBranch (62 ∷ []) ∷  -- 45 to 47
    instruction OpLabel (62 ∷ []) ∷ instruction OpReturn [] ∷ [])  -- 48, 49

pub passed_by : (ids : Ids) → comes_to (chosen 60 61) ids ≡ Some Ends
passed_by ids = refl

pub met : (ids : Ids) → comes_to (chosen 61 60) ids ≡ Some (Wrong 46 5)
met ids = refl
