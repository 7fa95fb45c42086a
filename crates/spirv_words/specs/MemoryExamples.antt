-- What moves between a lane and its memory, and which pointers take loads, stores, atomics and lengths (SPIR-V specification, unified1,
-- sections 3.52.8, 3.52.18 and 3.52.20).
use Rattle.std.specs.Prelude.{◌≡◌, ℕ, ◌+◌, nat_eq, if◌then◌else◌, true, false, List, [], ◌∷◌, map, Option, Some, None, refl}
use Rattle.word_base.specs.Lanes.{Turn, Silent, Asks, Wrong}
use Rattle.word_base.specs.declared.event.Act.{Act}
use Rattle.word_base.specs.declared.event.Act.TheVariants.{Add, Sub, And, Or, Xor, SMax, SMin, UMax, UMin, Exchange, CompareExchange}
use Rattle.word_base.specs.declared.event.Event.TheVariants.{Atomic, Fence, Barrier}
use Rattle.word_base.specs.declared.event.Ids.{Ids}
use Rattle.word_base.specs.declared.event.Room.{Room}
use Rattle.word_base.specs.declared.event.Room.TheVariants.{Resource, Uav, Shared}
use Rattle.word_base.specs.declared.event.Scope.TheVariants.{Device, Group}
use Rattle.spirv_words.specs.StorageClass.{Input, Uniform, Workgroup, Private, Function, PushConstant, StorageBuffer}
use Rattle.spirv_words.specs.Decoration.{ArrayStride, BuiltIn, Binding, DescriptorSet, Offset}
use Rattle.spirv_words.specs.BuiltIn.{GlobalInvocationId}
use Rattle.spirv_words.specs.Enumerants.{AcquireRelease, UniformMemory, WorkgroupMemory}
use Rattle.spirv_words.specs.Operations.{OpAccessChain, OpArrayLength, OpAtomicAnd, OpAtomicCompareExchange, OpAtomicExchange, OpAtomicIAdd, OpAtomicISub, OpAtomicOr, OpAtomicSMax, OpAtomicSMin, OpAtomicUMax, OpAtomicUMin, OpAtomicXor, OpConstant, OpConstantComposite, OpConstantNull, OpConstantTrue, OpControlBarrier, OpDecorate, OpFunction, OpIAdd, OpLabel, OpLoad, OpMemberDecorate, OpMemoryBarrier, OpStore, OpTypeArray, OpTypeBool, OpTypeInt, OpTypePointer, OpTypeRuntimeArray, OpTypeStruct, OpTypeVector, OpVariable}
use Rattle.spirv_words.specs.Text.{Instr, instruction}
use Rattle.spirv_words.specs.Values.{Value, Word, Truth, AtLocal, AtRoom, of_parts, of_words}
use Rattle.spirv_words.specs.Globals.{Machine, global, initial_memory}
use Rattle.spirv_words.specs.Memory.{classes}
use Rattle.spirv_words.specs.Lane.{State, step, sets, goes_to, with_value}
use Rattle.spirv_words.specs.ValueExamples.{rule_of}

-- Types: 4 truths, 5 and 55 words, 11 two words, 12 a word with two words and a truth; 17 a word and two words with offsets and a stride of
-- four words, 23 three words, 25 vectors of three, 27 three words, 37 words without an end. Constants: 6 to 9 the words 0 to 3, 56 the
-- word 5, 21 and 22 of type 12. Variables: 30 private, 31 and 49 constant buffers, 32 push constants, 33 an input, 34 and 35 shared
-- memory, 40 a u# and 41 a t#, 50 and 51 of the function.
abbrev pub moving : List Instr
moving =
    instruction OpDecorate (31 ∷ DescriptorSet ∷ 0 ∷ []) ∷ instruction OpDecorate (31 ∷ Binding ∷ 0 ∷ []) ∷
    instruction OpDecorate (49 ∷ DescriptorSet ∷ 0 ∷ []) ∷ instruction OpDecorate (49 ∷ Binding ∷ 1 ∷ []) ∷
    instruction OpDecorate (40 ∷ DescriptorSet ∷ 1 ∷ []) ∷ instruction OpDecorate (40 ∷ Binding ∷ 0 ∷ []) ∷
    instruction OpDecorate (41 ∷ DescriptorSet ∷ 1 ∷ []) ∷ instruction OpDecorate (41 ∷ Binding ∷ 1 ∷ []) ∷
    instruction OpDecorate (33 ∷ BuiltIn ∷ GlobalInvocationId ∷ []) ∷
    instruction OpDecorate (16 ∷ ArrayStride ∷ 16 ∷ []) ∷ instruction OpDecorate (19 ∷ ArrayStride ∷ 4 ∷ []) ∷
    instruction OpDecorate (36 ∷ ArrayStride ∷ 4 ∷ []) ∷ instruction OpMemberDecorate (17 ∷ 0 ∷ Offset ∷ 0 ∷ []) ∷
    instruction OpMemberDecorate (17 ∷ 1 ∷ Offset ∷ 16 ∷ []) ∷
    instruction OpMemberDecorate (23 ∷ 0 ∷ Offset ∷ 0 ∷ []) ∷
    instruction OpMemberDecorate (37 ∷ 0 ∷ Offset ∷ 0 ∷ []) ∷  -- 0 to 15
    instruction OpTypeBool (4 ∷ []) ∷ instruction OpTypeInt (5 ∷ 32 ∷ 0 ∷ []) ∷
    instruction OpTypeInt (55 ∷ 32 ∷ 0 ∷ []) ∷ instruction OpConstant (5 ∷ 6 ∷ 0 ∷ []) ∷
    instruction OpConstant (5 ∷ 7 ∷ 1 ∷ []) ∷ instruction OpConstant (5 ∷ 8 ∷ 2 ∷ []) ∷
    instruction OpConstant (5 ∷ 9 ∷ 3 ∷ []) ∷ instruction OpConstantTrue (4 ∷ 10 ∷ []) ∷
    instruction OpConstant (55 ∷ 56 ∷ 5 ∷ []) ∷
    instruction OpConstant (5 ∷ 52 ∷ (AcquireRelease + UniformMemory) ∷ []) ∷
    instruction OpConstant (5 ∷ 53 ∷ (AcquireRelease + UniformMemory + WorkgroupMemory) ∷ []) ∷
    instruction OpConstant (5 ∷ 54 ∷ AcquireRelease ∷ []) ∷  -- 16 to 27
    instruction OpTypeArray (11 ∷ 5 ∷ 8 ∷ []) ∷ instruction OpTypeStruct (12 ∷ 5 ∷ 11 ∷ 4 ∷ []) ∷
    instruction OpTypePointer (13 ∷ Function ∷ 12 ∷ []) ∷ instruction OpTypePointer (14 ∷ Function ∷ 5 ∷ []) ∷
    instruction OpTypePointer (57 ∷ Function ∷ 4 ∷ []) ∷ instruction OpTypePointer (15 ∷ Private ∷ 12 ∷ []) ∷
    instruction OpTypePointer (47 ∷ Private ∷ 5 ∷ []) ∷ instruction OpConstantComposite (11 ∷ 20 ∷ 7 ∷ 9 ∷ []) ∷
    instruction OpConstantComposite (12 ∷ 21 ∷ 8 ∷ 20 ∷ 10 ∷ []) ∷ instruction OpConstantNull (12 ∷ 22 ∷ []) ∷
    instruction OpVariable (15 ∷ 30 ∷ Private ∷ 21 ∷ []) ∷  -- 28 to 38
    instruction OpTypeArray (16 ∷ 5 ∷ 8 ∷ []) ∷ instruction OpTypeStruct (17 ∷ 5 ∷ 16 ∷ []) ∷
    instruction OpTypePointer (18 ∷ Uniform ∷ 17 ∷ []) ∷ instruction OpTypePointer (44 ∷ Uniform ∷ 5 ∷ []) ∷
    instruction OpVariable (18 ∷ 31 ∷ Uniform ∷ []) ∷ instruction OpTypeArray (19 ∷ 5 ∷ 9 ∷ []) ∷
    instruction OpTypeStruct (23 ∷ 19 ∷ []) ∷ instruction OpTypePointer (24 ∷ PushConstant ∷ 23 ∷ []) ∷
    instruction OpTypePointer (42 ∷ PushConstant ∷ 5 ∷ []) ∷ instruction OpVariable (24 ∷ 32 ∷ PushConstant ∷ []) ∷
    instruction OpTypeVector (25 ∷ 5 ∷ 3 ∷ []) ∷ instruction OpTypePointer (26 ∷ Input ∷ 25 ∷ []) ∷
    instruction OpTypePointer (43 ∷ Input ∷ 5 ∷ []) ∷ instruction OpVariable (26 ∷ 33 ∷ Input ∷ []) ∷  -- 39 to 52
    instruction OpTypeArray (27 ∷ 5 ∷ 9 ∷ []) ∷ instruction OpConstantNull (27 ∷ 46 ∷ []) ∷
    instruction OpTypePointer (28 ∷ Workgroup ∷ 27 ∷ []) ∷ instruction OpVariable (28 ∷ 34 ∷ Workgroup ∷ []) ∷
    instruction OpVariable (28 ∷ 35 ∷ Workgroup ∷ []) ∷ instruction OpTypeRuntimeArray (36 ∷ 5 ∷ []) ∷
    instruction OpTypeStruct (37 ∷ 36 ∷ []) ∷ instruction OpTypePointer (38 ∷ StorageBuffer ∷ 37 ∷ []) ∷
    instruction OpTypePointer (39 ∷ StorageBuffer ∷ 5 ∷ []) ∷ instruction OpTypePointer (48 ∷ Uniform ∷ 37 ∷ []) ∷
    instruction OpVariable (38 ∷ 40 ∷ StorageBuffer ∷ []) ∷ instruction OpVariable (38 ∷ 41 ∷ StorageBuffer ∷ []) ∷
    instruction OpVariable (48 ∷ 49 ∷ Uniform ∷ []) ∷ instruction OpFunction (2 ∷ 1 ∷ 0 ∷ 3 ∷ []) ∷
    instruction OpLabel (58 ∷ []) ∷  -- 53 to 67
    instruction OpVariable (13 ∷ 50 ∷ Function ∷ 22 ∷ []) ∷ instruction OpVariable (13 ∷ 51 ∷ Function ∷ []) ∷
    instruction OpLoad (12 ∷ 60 ∷ 30 ∷ []) ∷ instruction OpStore (50 ∷ 60 ∷ []) ∷
    instruction OpLoad (12 ∷ 61 ∷ 51 ∷ []) ∷ instruction OpAccessChain (57 ∷ 81 ∷ 50 ∷ 8 ∷ []) ∷
    instruction OpLoad (4 ∷ 82 ∷ 81 ∷ []) ∷ instruction OpAccessChain (14 ∷ 72 ∷ 50 ∷ 6 ∷ []) ∷  -- 68 to 75
    instruction OpStore (72 ∷ 56 ∷ []) ∷ instruction OpIAdd (5 ∷ 80 ∷ 56 ∷ 7 ∷ []) ∷
    instruction OpLoad (17 ∷ 62 ∷ 31 ∷ []) ∷ instruction OpLoad (23 ∷ 63 ∷ 32 ∷ []) ∷
    instruction OpLoad (25 ∷ 64 ∷ 33 ∷ []) ∷ instruction OpLoad (27 ∷ 65 ∷ 34 ∷ []) ∷
    instruction OpStore (34 ∷ 46 ∷ []) ∷ instruction OpAccessChain (43 ∷ 68 ∷ 33 ∷ 7 ∷ []) ∷  -- 76 to 83
    instruction OpStore (68 ∷ 7 ∷ []) ∷ instruction OpAccessChain (44 ∷ 69 ∷ 31 ∷ 6 ∷ []) ∷
    instruction OpStore (69 ∷ 7 ∷ []) ∷ instruction OpAccessChain (42 ∷ 70 ∷ 32 ∷ 6 ∷ 6 ∷ []) ∷
    instruction OpStore (70 ∷ 7 ∷ []) ∷ instruction OpAtomicIAdd (5 ∷ 73 ∷ 72 ∷ 7 ∷ 6 ∷ 7 ∷ []) ∷
    instruction OpAccessChain (47 ∷ 74 ∷ 30 ∷ 6 ∷ []) ∷ instruction OpAtomicIAdd (5 ∷ 73 ∷ 74 ∷ 7 ∷ 6 ∷ 7 ∷ []) ∷  -- 84 to 91
    instruction OpArrayLength (5 ∷ 76 ∷ 49 ∷ 0 ∷ []) ∷ instruction OpArrayLength (5 ∷ 75 ∷ 40 ∷ 0 ∷ []) ∷
    instruction OpAccessChain (39 ∷ 71 ∷ 41 ∷ 6 ∷ 7 ∷ []) ∷ instruction OpStore (71 ∷ 7 ∷ []) ∷
    instruction OpAccessChain (39 ∷ 77 ∷ 40 ∷ 6 ∷ 8 ∷ []) ∷ instruction OpAtomicUMax (5 ∷ 78 ∷ 77 ∷ 7 ∷ 6 ∷ 9 ∷ []) ∷
    instruction OpAtomicCompareExchange (5 ∷ 79 ∷ 77 ∷ 7 ∷ 52 ∷ 6 ∷ 9 ∷ 8 ∷ []) ∷
    instruction OpMemoryBarrier (7 ∷ 52 ∷ []) ∷  -- 92 to 99
    instruction OpControlBarrier (8 ∷ 8 ∷ 53 ∷ []) ∷ instruction OpMemoryBarrier (7 ∷ 54 ∷ []) ∷
    instruction OpAtomicExchange (5 ∷ 78 ∷ 77 ∷ 7 ∷ 6 ∷ 9 ∷ []) ∷
    instruction OpAtomicIAdd (5 ∷ 78 ∷ 77 ∷ 7 ∷ 6 ∷ 9 ∷ []) ∷
    instruction OpAtomicISub (5 ∷ 78 ∷ 77 ∷ 7 ∷ 6 ∷ 9 ∷ []) ∷
    instruction OpAtomicSMin (5 ∷ 78 ∷ 77 ∷ 7 ∷ 6 ∷ 9 ∷ []) ∷
    instruction OpAtomicUMin (5 ∷ 78 ∷ 77 ∷ 7 ∷ 6 ∷ 9 ∷ []) ∷
    instruction OpAtomicSMax (5 ∷ 78 ∷ 77 ∷ 7 ∷ 6 ∷ 9 ∷ []) ∷  -- 100 to 107
    instruction OpAtomicUMax (5 ∷ 78 ∷ 77 ∷ 7 ∷ 6 ∷ 9 ∷ []) ∷
    instruction OpAtomicAnd (5 ∷ 78 ∷ 77 ∷ 7 ∷ 6 ∷ 9 ∷ []) ∷ instruction OpAtomicOr (5 ∷ 78 ∷ 77 ∷ 7 ∷ 6 ∷ 9 ∷ []) ∷
    instruction OpAtomicXor (5 ∷ 78 ∷ 77 ∷ 7 ∷ 6 ∷ 9 ∷ []) ∷ []  -- 108 to 111

-- Slots 0 and 2 of shared memory have no words. Push constant words 1 and 2 are those of buffer 4.
abbrev pub extents : Room → ℕ
extents (Shared slot) = if nat_eq slot 1 then 3 else if nat_eq slot 3 then 3 else 0
extents (Resource slot) = 2
extents room = 4

abbrev pub mover : Ids → Machine
mover ids = record {
  code = moving;
  places = record {
    rooms = record { set = 1; binding = 0; room = Uav 5 } ∷ record { set = 1; binding = 1; room = Resource 2 } ∷ [];
    slots = record { set = 0; binding = 0; slot = 3 } ∷ record { set = 0; binding = 1; slot = 3 } ∷ [];
    pushes = record { first = 1; count = 2; slot = 4 } ∷ [];
    shared = 0 ∷ 1 ∷ 2 ∷ 3 ∷ [];
  };
  setting = record {
    ids = ids;
    constants = λ slot. if nat_eq slot 3 then 10 ∷ 11 ∷ 12 ∷ 13 ∷ 14 ∷ 15 ∷ 16 ∷ 17 ∷ [] else 7 ∷ 8 ∷ [];
    extent = extents;
  };
}

-- the lane at a place, with the values of global ids and of the function's variables, of which none was set
abbrev pub standing : Ids → ℕ → State
standing ids place = record {
  place = place;
  values = λ x. if nat_eq x 50 then Some (AtLocal 50 0) else if nat_eq x 51 then Some (AtLocal 51 0) else global (mover ids) x;
  memory = initial_memory (mover ids);
}

-- the same where an id has a value
abbrev pub knowing : Ids → ℕ → ℕ → Value → State
knowing ids place x v = goes_to (with_value (standing ids place) x v) place

-- WHOLE VALUES. A load takes the words of its type in order. Constant buffers are 0 past their words; a push constant word that no buffer has
-- is 0.
abbrev pub two_1_3_true : Value
two_1_3_true = of_parts (Word 2 ∷ of_words (1 ∷ 3 ∷ []) ∷ Truth true ∷ [])

pub load_of_private : (ids : Ids) → step (mover ids) (standing ids 70) ≡ sets (standing ids 70) 60 two_1_3_true
load_of_private ids = refl

pub load_with_layout : (ids : Ids) → step (mover ids) (standing ids 78) ≡
    sets (standing ids 78) 62 (of_parts (Word 10 ∷ of_words (14 ∷ 0 ∷ []) ∷ []))
load_with_layout ids = refl

pub load_of_push_constants : (ids : Ids) → step (mover ids) (standing ids 79) ≡
    sets (standing ids 79) 63 (of_parts (of_words (0 ∷ 7 ∷ 8 ∷ []) ∷ []))
load_of_push_constants ids = refl

pub load_of_input : (ids : Ids) → step (mover ids) (standing ids 80) ≡
    sets (standing ids 80) 64 (of_words (ids.thread_x ∷ ids.thread_y ∷ ids.thread_z ∷ []))
load_of_input ids = refl

-- A store writes the words in order, a truth as 1 or 0; what was never set is rule 2, as a whole and where a part of it is set.
abbrev pub memory_of : Turn State → ℕ → ℕ → Option ℕ
memory_of (Silent s) x w = s.memory x w
memory_of turn x w = None

abbrev pub stored : Ids → Turn State
stored ids = step (mover ids) (knowing ids 71 60 two_1_3_true)

pub store_of_whole : (ids : Ids) → map (memory_of (stored ids) 50) (0 ∷ 1 ∷ 2 ∷ 3 ∷ 4 ∷ []) ≡
    Some 2 ∷ Some 1 ∷ Some 3 ∷ Some 1 ∷ None ∷ []
store_of_whole ids = refl

abbrev pub with_stored : Ids → ℕ → ℕ → Value → State
with_stored ids place x v = record {
  place = place;
  values = (knowing ids place x v).values;
  memory =
      memory_of (stored ids);
}

pub truth_of_stored : (ids : Ids) → step (mover ids) (with_stored ids 74 81 (AtLocal 50 3)) ≡
    sets (with_stored ids 74 81 (AtLocal 50 3)) 82 (Truth true)
truth_of_stored ids = refl

pub never_set : (ids : Ids) → step (mover ids) (standing ids 72) ≡ Wrong 72 2
never_set ids = refl

-- Of shared memory and buffers one word moves.
pub load_of_shared : (ids : Ids) → step (mover ids) (standing ids 81) ≡ Wrong 81 1
load_of_shared ids = refl

pub store_of_shared : (ids : Ids) → step (mover ids) (standing ids 82) ≡ Wrong 82 1
store_of_shared ids = refl

-- The k-th variable is the k-th slot that has words.
pub behind_empty_slot : (ids : Ids) → map (global (mover ids)) (34 ∷ 35 ∷ []) ≡
    Some (AtRoom (Shared 1) 0) ∷ Some (AtRoom (Shared 3) 0) ∷ []
behind_empty_slot ids = refl

-- STORAGE CLASSES. Stores to an input, a constant buffer and push constants, atomics on the lane's own memory, and a length of a constant
-- buffer are rule 1; a store to a t# is rule 8.
pub classes_of_pointers : (ids : Ids) →
    map (λ place. rule_of (step (mover ids) (standing ids place))) (84 ∷ 86 ∷ 88 ∷ 89 ∷ 91 ∷ 92 ∷ []) ≡
    Some 1 ∷ Some 1 ∷ Some 1 ∷ Some 1 ∷ Some 1 ∷ Some 1 ∷ []
classes_of_pointers ids = refl

pub store_to_read_only : (ids : Ids) → step (mover ids) (knowing ids 95 71 (AtRoom (Resource 2) 1)) ≡ Wrong 95 8
store_to_read_only ids = refl

-- OpArrayLength: the words of the room.
pub length_of_room : (ids : Ids) → step (mover ids) (standing ids 93) ≡ sets (standing ids 93) 75 (Word 4)
length_of_room ids = refl

-- Words are one sort, whatever the id of their type: a sum of both, and a store of the one through a pointer to the other.
pub sum_of_both : (ids : Ids) → step (mover ids) (standing ids 77) ≡ sets (standing ids 77) 80 (Word 6)
sum_of_both ids = refl

pub store_of_other : (ids : Ids) → memory_of (step (mover ids) (knowing ids 76 72 (AtLocal 50 0))) 50 0 ≡ Some 5
store_of_other ids = refl

-- EVENTS. What each atomic with one value does, from OpAtomicExchange on, and one with its numbers. OpAtomicCompareExchange compares with its
-- last operand and writes the one before. Fences and barriers have a scope and semantics; AcquireRelease alone is none of these.
abbrev pub at_word_2 : Ids → ℕ → State
at_word_2 ids place = knowing ids place 77 (AtRoom (Uav 5) 2)

abbrev pub kind_of : Turn State → Option Act
kind_of (Asks (Atomic room word kind a b) after) = Some kind
kind_of turn = None

pub kinds : (ids : Ids) → map (λ k. kind_of (step (mover ids) (at_word_2 ids k)))
    (102 ∷ 103 ∷ 104 ∷ 105 ∷ 106 ∷ 107 ∷ 108 ∷ 109 ∷ 110 ∷ 111 ∷ []) ≡
    Some Exchange ∷ Some Add ∷ Some Sub ∷ Some SMin ∷ Some UMin ∷ Some SMax ∷ Some UMax ∷ Some And ∷ Some Or ∷
    Some Xor ∷ []
kinds ids = refl

abbrev pub answered : State → ℕ → ℕ → State
answered s r x = with_value s r (Word x)

pub greatest : (ids : Ids) → step (mover ids) (at_word_2 ids 97) ≡
    Asks (Atomic (Uav 5) 2 UMax 3 0) (answered (at_word_2 ids 97) 78)
greatest ids = refl

pub compared : (ids : Ids) → step (mover ids) (at_word_2 ids 98) ≡
    Asks (Atomic (Uav 5) 2 CompareExchange 2 3) (answered (at_word_2 ids 98) 79)
compared ids = refl

pub fence : (ids : Ids) → step (mover ids) (standing ids 99) ≡
    Asks (Fence Device (classes true false)) (λ _. goes_to (standing ids 99) 100)
fence ids = refl

pub barrier : (ids : Ids) → step (mover ids) (standing ids 100) ≡
    Asks (Barrier Group (classes true true)) (λ _. goes_to (standing ids 100) 101)
barrier ids = refl

pub unnamed : (ids : Ids) → step (mover ids) (standing ids 101) ≡ Wrong 101 8
unnamed ids = refl
