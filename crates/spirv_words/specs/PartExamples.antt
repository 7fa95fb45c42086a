-- Steps on composites, on layouts and by ids without a definition.
use Rattle.std.specs.Prelude.{◌≡◌, ℕ, true, false, List, [], ◌∷◌, replicate, map, Some, None, Ok, refl}
use Rattle.word_base.specs.Lanes.{Wrong}
use Rattle.word_base.specs.declared.event.Ids.{Ids}
use Rattle.spirv_words.specs.StorageClass.{Function, Private, Uniform}
use Rattle.spirv_words.specs.Decoration.{ArrayStride, Binding, DescriptorSet}
use Rattle.spirv_words.specs.Enumerants.{GLCompute, glsl_text, main_text}
use Rattle.spirv_words.specs.Operations.{OpAccessChain, OpCompositeConstruct, OpCompositeExtract, OpConstant, OpConstantComposite, OpConstantNull, OpConstantTrue, OpDecorate, OpEntryPoint, OpExtInstImport, OpFunction, OpFunctionEnd, OpIAdd, OpLabel, OpLoad, OpTypeArray, OpTypeBool, OpTypeFunction, OpTypeInt, OpTypePointer, OpTypeRuntimeArray, OpTypeStruct, OpTypeVector, OpTypeVoid, OpVariable}
use Rattle.spirv_words.specs.Text.{Instr, instruction}
use Rattle.spirv_words.specs.Ids.{declared}
use Rattle.spirv_words.specs.Sorts.{Pointer}
use Rattle.spirv_words.specs.Values.{Value, Word, Truth, AtLocal, AtConstants, of_parts}
use Rattle.spirv_words.specs.Globals.{Machine, global, initial_memory}
use Rattle.spirv_words.specs.Memory.{chained}
use Rattle.spirv_words.specs.Lane.{State, step, sets, begins, with_value, is_glsl}
use Rattle.spirv_words.specs.LaneExamples.{at}

-- Types: 4 truths, 5 words, 10 vectors of four words, 11 two of these, 12 a truth and a word. Constants: 6 to 9 the words 0, 1, 2 and 9,
-- 13 the true one, 20 and 21 vectors, 22 both of them, 23 and 24 nulls. Variables: 30 vectors without a length and 31 two vectors without a
-- stride, both in constant buffers; 41 and 45 private.
abbrev pub parts : List Instr
parts =
    instruction OpEntryPoint (GLCompute ∷ 1 ∷ main_text) ∷
    instruction OpDecorate (30 ∷ DescriptorSet ∷ 0 ∷ []) ∷ instruction OpDecorate (30 ∷ Binding ∷ 0 ∷ []) ∷
    instruction OpDecorate (31 ∷ DescriptorSet ∷ 0 ∷ []) ∷ instruction OpDecorate (31 ∷ Binding ∷ 1 ∷ []) ∷
    instruction OpDecorate (14 ∷ ArrayStride ∷ 16 ∷ []) ∷
    instruction OpTypeVoid (2 ∷ []) ∷ instruction OpTypeFunction (3 ∷ 2 ∷ []) ∷ instruction OpTypeBool (4 ∷ []) ∷
    instruction OpTypeInt (5 ∷ 32 ∷ 0 ∷ []) ∷  -- 6 to 9
    instruction OpConstant (5 ∷ 6 ∷ 0 ∷ []) ∷ instruction OpConstant (5 ∷ 7 ∷ 1 ∷ []) ∷
    instruction OpConstant (5 ∷ 8 ∷ 2 ∷ []) ∷ instruction OpConstant (5 ∷ 9 ∷ 9 ∷ []) ∷  -- 10 to 13
    instruction OpConstantTrue (4 ∷ 13 ∷ []) ∷
    instruction OpTypeVector (10 ∷ 5 ∷ 4 ∷ []) ∷ instruction OpTypeArray (11 ∷ 10 ∷ 8 ∷ []) ∷
    instruction OpTypeStruct (12 ∷ 4 ∷ 5 ∷ []) ∷ instruction OpTypeRuntimeArray (14 ∷ 10 ∷ []) ∷  -- 15 to 18
    instruction OpConstantComposite (10 ∷ 20 ∷ 6 ∷ 7 ∷ 8 ∷ 9 ∷ []) ∷
    instruction OpConstantComposite (10 ∷ 21 ∷ 9 ∷ 8 ∷ 7 ∷ 6 ∷ []) ∷
    instruction OpConstantComposite (11 ∷ 22 ∷ 20 ∷ 21 ∷ []) ∷
    instruction OpConstantNull (11 ∷ 23 ∷ []) ∷ instruction OpConstantNull (12 ∷ 24 ∷ []) ∷  -- 22, 23
    instruction OpTypePointer (16 ∷ Uniform ∷ 14 ∷ []) ∷ instruction OpTypePointer (17 ∷ Uniform ∷ 5 ∷ []) ∷
    instruction OpVariable (16 ∷ 30 ∷ Uniform ∷ []) ∷
    instruction OpTypePointer (19 ∷ Uniform ∷ 11 ∷ []) ∷ instruction OpVariable (19 ∷ 31 ∷ Uniform ∷ []) ∷  -- 27, 28
    instruction OpTypePointer (40 ∷ Private ∷ 11 ∷ []) ∷ instruction OpVariable (40 ∷ 41 ∷ Private ∷ 22 ∷ []) ∷
    instruction OpVariable (40 ∷ 45 ∷ Private ∷ 23 ∷ []) ∷ instruction OpTypePointer (43 ∷ Function ∷ 11 ∷ []) ∷
    instruction OpFunction (2 ∷ 1 ∷ 0 ∷ 3 ∷ []) ∷ instruction OpLabel (18 ∷ []) ∷  -- 33, 34
    instruction OpCompositeExtract (5 ∷ 50 ∷ 22 ∷ 1 ∷ 0 ∷ []) ∷
    instruction OpCompositeExtract (5 ∷ 51 ∷ 22 ∷ 2 ∷ 0 ∷ []) ∷  -- 35, 36
    instruction OpCompositeConstruct (12 ∷ 52 ∷ 13 ∷ 9 ∷ []) ∷ instruction OpCompositeExtract (4 ∷ 53 ∷ 52 ∷ 0 ∷ []) ∷  -- 37, 38
    instruction OpAccessChain (17 ∷ 54 ∷ 31 ∷ 7 ∷ 8 ∷ []) ∷ instruction OpAccessChain (17 ∷ 55 ∷ 31 ∷ 7 ∷ 9 ∷ []) ∷  -- 39, 40
    instruction OpAccessChain (17 ∷ 56 ∷ 30 ∷ 9 ∷ 8 ∷ []) ∷ instruction OpLoad (5 ∷ 57 ∷ 56 ∷ []) ∷
    instruction OpAccessChain (17 ∷ 58 ∷ 30 ∷ 9 ∷ 9 ∷ []) ∷  -- 41 to 43
    instruction OpVariable (43 ∷ 59 ∷ Function ∷ 23 ∷ []) ∷  -- 44
    instruction OpAccessChain (17 ∷ 60 ∷ 30 ∷ 99 ∷ 8 ∷ []) ∷
    instruction OpCompositeExtract (99 ∷ 61 ∷ 22 ∷ 1 ∷ 0 ∷ []) ∷ instruction OpLoad (99 ∷ 62 ∷ 31 ∷ []) ∷  -- 45 to 47
    instruction OpIAdd (70 ∷ 63 ∷ 7 ∷ 8 ∷ []) ∷ instruction OpIAdd (70 ∷ 64 ∷ 7 ∷ 13 ∷ []) ∷
    instruction OpTypeInt (70 ∷ 32 ∷ 0 ∷ []) ∷  -- 48 to 50
    instruction OpCompositeConstruct (99 ∷ 65 ∷ 13 ∷ 9 ∷ []) ∷ instruction OpAccessChain (17 ∷ 66 ∷ 99 ∷ 13 ∷ []) ∷ []  -- 51, 52

abbrev pub two_buffers : Ids → Machine
two_buffers ids = record {
  code = parts;
  places = record {
    rooms = [];
    slots = record { set = 0; binding = 0; slot = 3 } ∷ record { set = 0; binding = 1; slot = 4 } ∷ [];
    pushes = [];
    shared = [];
  };
  setting = record { ids = ids; constants = λ slot. 5 ∷ 6 ∷ []; extent = λ room. 0 };
}

abbrev pub here : Ids → ℕ → State
here ids place = at (two_buffers ids) place

-- one word of two vectors, one past them, and a struct of a truth and a word with its truth
abbrev pub a_truth_and_9 : Value
a_truth_and_9 = of_parts (Truth true ∷ Word 9 ∷ [])

pub word_of_two_vectors : (ids : Ids) → step (two_buffers ids) (here ids 35) ≡ sets (here ids 35) 50 (Word 9)
word_of_two_vectors ids = refl

pub past_two_vectors : (ids : Ids) → step (two_buffers ids) (here ids 36) ≡ Wrong 36 7
past_two_vectors ids = refl

pub struct_of_truth : (ids : Ids) → step (two_buffers ids) (here ids 37) ≡ sets (here ids 37) 52 a_truth_and_9
struct_of_truth ids = refl

pub truth_of_struct : (ids : Ids) → step (two_buffers ids) (with_value (here ids 37) 52 a_truth_and_9) ≡
    sets (with_value (here ids 37) 52 a_truth_and_9) 53 (Truth true)
truth_of_struct ids = refl

-- a missing stride, and one in front of an index past a vector
pub without_stride : (ids : Ids) → step (two_buffers ids) (here ids 39) ≡ Wrong 39 8
without_stride ids = refl

pub past_vector_without_stride : (ids : Ids) → step (two_buffers ids) (here ids 40) ≡ Wrong 40 7
past_vector_without_stride ids = refl

-- A constant buffer of two words: word 38 of its vectors is 0, and only the vector has an end.
abbrev pub at_word_38 : Ids → State
at_word_38 ids = with_value (here ids 41) 56 (AtConstants 3 38)

pub past_the_buffer : (ids : Ids) → step (two_buffers ids) (here ids 41) ≡ sets (here ids 41) 56 (AtConstants 3 38)
past_the_buffer ids = refl

pub zero_past_the_buffer : (ids : Ids) → step (two_buffers ids) (at_word_38 ids) ≡ sets (at_word_38 ids) 57 (Word 0)
zero_past_the_buffer ids = refl

pub past_a_vector : (ids : Ids) → step (two_buffers ids) (here ids 43) ≡ Wrong 43 7
past_a_vector ids = refl

-- variables that begin with two vectors and with nulls, private ones and one of the function
pub private_vectors : (ids : Ids) → map (initial_memory (two_buffers ids) 41) (0 ∷ 3 ∷ 4 ∷ 7 ∷ 8 ∷ []) ≡
    Some 0 ∷ Some 9 ∷ Some 9 ∷ Some 0 ∷ None ∷ []
private_vectors ids = refl

pub private_null : (ids : Ids) → map (initial_memory (two_buffers ids) 45) (0 ∷ 7 ∷ 8 ∷ []) ≡
    Some 0 ∷ Some 0 ∷ None ∷ []
private_null ids = refl

pub null_of_function : (ids : Ids) → step (two_buffers ids) (here ids 44) ≡ begins (here ids 44) 59 (replicate 8 0)
null_of_function ids = refl

pub word_of_private_vectors : (ids : Ids) → chained (two_buffers ids) (Pointer Private 11) (AtLocal 41 0) (1 ∷ 2 ∷ []) ≡
    Ok (AtLocal 41 6)
word_of_private_vectors ids = refl

pub word_behind_a_truth : (ids : Ids) → chained (two_buffers ids) (Pointer Function 12) (AtLocal 59 0) (1 ∷ []) ≡
    Ok (AtLocal 59 1)
word_behind_a_truth ids = refl

pub null_of_truth : (ids : Ids) → global (two_buffers ids) 24 ≡ Some (of_parts (Truth false ∷ Word 0 ∷ []))
null_of_truth ids = refl

-- Without a definition: an index, the types of an extract, a load and a composite, and a pointer whose index is a truth. Then a type that is
-- defined behind the function, of a sum of words and of a sum with a truth.
pub index_of_nothing : (ids : Ids) → step (two_buffers ids) (here ids 45) ≡ Wrong 45 2
index_of_nothing ids = refl

pub extract_of_no_type : (ids : Ids) → step (two_buffers ids) (here ids 46) ≡ Wrong 46 2
extract_of_no_type ids = refl

pub load_of_no_type : (ids : Ids) → step (two_buffers ids) (here ids 47) ≡ Wrong 47 2
load_of_no_type ids = refl

pub composite_of_no_type : (ids : Ids) → step (two_buffers ids) (here ids 51) ≡ Wrong 51 2
composite_of_no_type ids = refl

pub truth_as_index_of_nothing : (ids : Ids) → step (two_buffers ids) (here ids 52) ≡ Wrong 52 1
truth_as_index_of_nothing ids = refl

pub late_type : (ids : Ids) → step (two_buffers ids) (here ids 48) ≡ Wrong 48 2
late_type ids = refl

pub late_type_of_truth : (ids : Ids) → step (two_buffers ids) (here ids 49) ≡ Wrong 49 1
late_type_of_truth ids = refl

-- of two imports with one id the first counts
pub other_import_first : is_glsl (instruction OpExtInstImport (1 ∷ 0x4C534C47 ∷ 0 ∷ []) ∷
    instruction OpExtInstImport (1 ∷ glsl_text) ∷ []) 1 ≡ false
other_import_first = refl

-- what stands in a function in front of the one that the entry point names is declared
pub declared_behind_another :
    declared (instruction OpEntryPoint (GLCompute ∷ 1 ∷ main_text) ∷
    instruction OpFunction (2 ∷ 7 ∷ 0 ∷ 3 ∷ []) ∷ instruction OpFunctionEnd [] ∷
    instruction OpFunction (2 ∷ 1 ∷ 0 ∷ 3 ∷ []) ∷ instruction OpFunctionEnd [] ∷ [])
    ≡ instruction OpEntryPoint (GLCompute ∷ 1 ∷ main_text) ∷ instruction OpFunction (2 ∷ 7 ∷ 0 ∷ 3 ∷ []) ∷
    instruction OpFunctionEnd [] ∷ []
declared_behind_another = refl
