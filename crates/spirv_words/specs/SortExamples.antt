-- What sorts of operands refuse: pointers in composites, nulls and constants without values, functions as values; and what types are one.
use Rattle.std.specs.Prelude.{◌≡◌, true, false, List, [], ◌∷◌, ◌++◌, None, refl}
use Rattle.word_base.specs.Lanes.{Wrong}
use Rattle.word_base.specs.Settings.{Setting, axes}
use Rattle.spirv_words.specs.StorageClass.{Workgroup, Function}
use Rattle.spirv_words.specs.Enumerants.{Version13}
use Rattle.spirv_words.specs.Operations.{OpTypeInt, OpTypeVector, OpTypeArray, OpTypeRuntimeArray, OpTypeStruct, OpTypePointer, OpTypeFunction, OpConstant, OpConstantComposite, OpConstantNull, OpCompositeConstruct, OpCompositeExtract, OpFunction, OpVariable, OpLoad, OpStore, OpAccessChain, OpIAdd}
use Rattle.spirv_words.specs.Text.{Instr, Module, instruction}
use Rattle.spirv_words.specs.Operands.{is_sorted}
use Rattle.spirv_words.specs.Variables.{Wanted}
use Rattle.spirv_words.specs.Globals.{Places}
use Rattle.spirv_words.specs.Broken.{Sections, DistinctTypes, Sorts, broken_in, broken, shader_of, leave}
use Rattle.spirv_words.specs.Lane.{step, machine}
use Rattle.spirv_words.specs.LaneExamples.{at}

-- POINTERS IN COMPOSITES. Two stores to shared memory, the first one through a pointer that was put into a struct and taken out again.
abbrev pub one_shared_word : List Instr
one_shared_word =
    instruction OpTypeArray (50 ∷ 5 ∷ 7 ∷ []) ∷ instruction OpTypePointer (51 ∷ Workgroup ∷ 50 ∷ []) ∷
    instruction OpVariable (51 ∷ 52 ∷ Workgroup ∷ []) ∷ instruction OpTypePointer (53 ∷ Workgroup ∷ 5 ∷ []) ∷ []

abbrev pub two_stores : Module
two_stores =
    shader_of [] (one_shared_word ++ instruction OpTypeStruct (54 ∷ 53 ∷ []) ∷ []) []
    (instruction OpAccessChain (53 ∷ 60 ∷ 52 ∷ 6 ∷ []) ∷ instruction OpCompositeConstruct (54 ∷ 61 ∷ 60 ∷ []) ∷
    instruction OpCompositeExtract (53 ∷ 62 ∷ 61 ∷ 0 ∷ []) ∷
    instruction OpStore (62 ∷ 7 ∷ []) ∷ instruction OpStore (60 ∷ 7 ∷ []) ∷ leave ∷ [])

abbrev pub plain_stores : Module
plain_stores =
    shader_of [] one_shared_word []
    (instruction OpAccessChain (53 ∷ 60 ∷ 52 ∷ 6 ∷ []) ∷ instruction OpStore (60 ∷ 7 ∷ []) ∷
    instruction OpStore (60 ∷ 7 ∷ []) ∷ leave ∷ [])

abbrev pub shared_wanted : Wanted
shared_wanted = record { buffers = []; uniforms = []; push = None; shared = 1 ∷ []; inputs = [] }

pub two_stores_refused : broken_in Version13 (axes 8 4 1) shared_wanted two_stores ≡ Sorts ∷ []
two_stores_refused = refl

pub plain_stores_have_form : broken_in Version13 (axes 8 4 1) shared_wanted plain_stores ≡ []
plain_stores_have_form = refl

-- its lane breaks rule 1 where the pointer is put into the struct, and where it is taken out
pub two_stores_wrong : (places : Places) (setting : Setting) →
    step (machine two_stores places setting) (at (machine two_stores places setting) 20) ≡ Wrong 20 1
two_stores_wrong places setting = refl

pub taken_out_wrong : (places : Places) (setting : Setting) →
    step (machine two_stores places setting) (at (machine two_stores places setting) 21) ≡ Wrong 21 1
taken_out_wrong places setting = refl

-- A pointer does not pass through the function's memory either.
pub pointer_in_memory : broken (
    shader_of [] (instruction OpTypePointer (50 ∷ Function ∷ 9 ∷ []) ∷ [])
    (instruction OpVariable (9 ∷ 40 ∷ Function ∷ 6 ∷ []) ∷ [])
    (instruction OpLoad (9 ∷ 41 ∷ 40 ∷ []) ∷ leave ∷ [])) ≡ Sorts ∷ []
pointer_in_memory = refl

-- NULLS AND CONSTANTS. The null of a pointer, and of a struct with one deep inside; of words without an end; of an array of structs of words.
pub null_of_pointer : broken (shader_of [] (instruction OpConstantNull (9 ∷ 50 ∷ []) ∷ []) [] (leave ∷ [])) ≡ Sorts ∷ []
null_of_pointer = refl

pub null_with_pointer : broken (
    shader_of []
    (instruction OpTypeStruct (50 ∷ 5 ∷ 9 ∷ []) ∷ instruction OpTypeArray (51 ∷ 50 ∷ 7 ∷ []) ∷
    instruction OpConstantNull (51 ∷ 52 ∷ []) ∷ []) []
    (leave ∷ [])) ≡ Sorts ∷ []
null_with_pointer = refl

pub null_without_end : broken (
    shader_of [] (instruction OpTypeRuntimeArray (50 ∷ 5 ∷ []) ∷ instruction OpTypeStruct (51 ∷ 50 ∷ []) ∷
    instruction OpConstantNull (51 ∷ 52 ∷ []) ∷ []) []
    (leave ∷ [])) ≡ Sorts ∷ []
null_without_end = refl

pub null_of_void : broken (
    shader_of [] (instruction OpTypeStruct (50 ∷ 2 ∷ []) ∷ instruction OpConstantNull (50 ∷ 51 ∷ []) ∷ []) []
    (leave ∷ [])) ≡ Sorts ∷ []
null_of_void = refl

pub null_of_words : broken (
    shader_of []
    (instruction OpTypeStruct (50 ∷ 5 ∷ 4 ∷ []) ∷ instruction OpTypeArray (51 ∷ 50 ∷ 7 ∷ []) ∷
    instruction OpConstantNull (51 ∷ 52 ∷ []) ∷ []) []
    (leave ∷ [])) ≡ []
null_of_words = refl

-- A sum in front of the function has no place there, and as a part of a constant it has a wrong sort besides.
abbrev pub sum_in_front : List Instr
sum_in_front = instruction OpTypeVector (50 ∷ 5 ∷ 2 ∷ []) ∷ instruction OpIAdd (5 ∷ 51 ∷ 6 ∷ 7 ∷ []) ∷ []

pub no_place : broken (shader_of [] sum_in_front [] (leave ∷ [])) ≡ Sections ∷ []
no_place = refl

pub part_is_no_constant : broken (
    shader_of [] (sum_in_front ++ instruction OpConstantComposite (50 ∷ 52 ∷ 7 ∷ 51 ∷ []) ∷ []) [] (leave ∷ [])) ≡
    Sections ∷ Sorts ∷ []
part_is_no_constant = refl

pub parts_are_constants : broken (
    shader_of [] (instruction OpTypeVector (50 ∷ 5 ∷ 2 ∷ []) ∷
    instruction OpConstantComposite (50 ∷ 52 ∷ 7 ∷ 6 ∷ []) ∷ []) [] (leave ∷ [])) ≡ []
parts_are_constants = refl

-- FUNCTIONS. A function that returns a word is none.
abbrev pub returns_word : List Instr
returns_word =
    instruction OpTypeInt (5 ∷ 32 ∷ 0 ∷ []) ∷ instruction OpConstant (5 ∷ 6 ∷ 0 ∷ []) ∷
    instruction OpTypeFunction (3 ∷ 5 ∷ []) ∷
    instruction OpFunction (5 ∷ 1 ∷ 0 ∷ 3 ∷ []) ∷ []

pub function_is_no_value : is_sorted returns_word (instruction OpIAdd (5 ∷ 40 ∷ 6 ∷ 1 ∷ [])) ≡ false
function_is_no_value = refl

pub words_are_values : is_sorted returns_word (instruction OpIAdd (5 ∷ 40 ∷ 6 ∷ 6 ∷ [])) ≡ true
words_are_values = refl

-- TYPES. A second type of words is refused as such, and its words are words: in sums, in vectors and as what is stored.
abbrev pub words_twice : List Instr
words_twice =
    instruction OpTypeInt (50 ∷ 32 ∷ 0 ∷ []) ∷ instruction OpConstant (50 ∷ 51 ∷ 3 ∷ []) ∷
    instruction OpTypeVector (52 ∷ 5 ∷ 2 ∷ []) ∷ []

pub one_sort : broken (
    shader_of [] words_twice (instruction OpVariable (9 ∷ 40 ∷ Function ∷ 51 ∷ []) ∷ [])
    (instruction OpIAdd (5 ∷ 41 ∷ 51 ∷ 7 ∷ []) ∷ instruction OpCompositeConstruct (52 ∷ 42 ∷ 51 ∷ 7 ∷ []) ∷
    instruction OpCompositeExtract (50 ∷ 43 ∷ 42 ∷ 1 ∷ []) ∷ instruction OpStore (40 ∷ 43 ∷ []) ∷ leave ∷ [])) ≡
    DistinctTypes ∷ []
one_sort = refl

-- Two structs of the same words are two types, since each may have a layout of its own.
pub two_structs : broken (
    shader_of []
    (instruction OpTypeStruct (50 ∷ 5 ∷ []) ∷ instruction OpTypeStruct (51 ∷ 5 ∷ []) ∷
    instruction OpConstantNull (50 ∷ 52 ∷ []) ∷
    instruction OpTypePointer (53 ∷ Function ∷ 51 ∷ []) ∷ [])
    (instruction OpVariable (53 ∷ 40 ∷ Function ∷ 52 ∷ []) ∷ []) (leave ∷ [])) ≡ Sorts ∷ []
two_structs = refl

-- Whole values of the function's memory are loaded and stored.
pub whole_values : broken (
    shader_of []
    (instruction OpTypeStruct (50 ∷ 5 ∷ 4 ∷ []) ∷ instruction OpConstantNull (50 ∷ 51 ∷ []) ∷
    instruction OpTypePointer (52 ∷ Function ∷ 50 ∷ []) ∷ [])
    (instruction OpVariable (52 ∷ 40 ∷ Function ∷ 51 ∷ []) ∷ [])
    (instruction OpLoad (50 ∷ 41 ∷ 40 ∷ []) ∷ instruction OpStore (40 ∷ 41 ∷ []) ∷ leave ∷ [])) ≡ []
whole_values = refl
