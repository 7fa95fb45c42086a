-- A module with a variable of each kind, and modules whose variables or interface are not as wanted.
use Rattle.std.specs.Prelude.{◌≡◌, ℕ, Bool, true, false, List, [], ◌∷◌, ◌++◌, Option, Some, None, refl}
use Rattle.spirv_words.specs.StorageClass.{Input, PushConstant, StorageBuffer, Uniform, Workgroup}
use Rattle.spirv_words.specs.Decoration.{ArrayStride, Binding, Block, BuiltIn, Coherent, DescriptorSet, NonWritable, Offset}
use Rattle.spirv_words.specs.BuiltIn.{LocalInvocationId, GlobalInvocationId, LocalInvocationIndex}
use Rattle.spirv_words.specs.Enumerants.{GLCompute, GLSL450, LocalSize, Logical, Shader, Version13, Version14, main_text}
use Rattle.spirv_words.specs.Operations.{OpCapability, OpConstant, OpDecorate, OpEntryPoint, OpExecutionMode, OpFunction, OpFunctionEnd, OpLabel, OpMemberDecorate, OpMemoryModel, OpReturn, OpTypeArray, OpTypeFunction, OpTypeInt, OpTypePointer, OpTypeRuntimeArray, OpTypeStruct, OpTypeVector, OpTypeVoid, OpVariable}
use Rattle.spirv_words.specs.Text.{Instr, Module, instruction}
use Rattle.word_base.specs.Settings.{axes}
use Rattle.spirv_words.specs.Variables.{WantedBuffer, WantedUniform, Wanted, nothing_wanted}
use Rattle.spirv_words.specs.Broken.{Condition, Variables, Interface, broken_in}

-- The ids of the variables are 30 to 35: a read-only view, a coherent view, a constant buffer, push constants, shared memory, and the
-- thread's number in the dispatch.
abbrev pub bindings : List Instr
bindings =
    instruction OpDecorate (30 ∷ DescriptorSet ∷ 0 ∷ []) ∷ instruction OpDecorate (30 ∷ Binding ∷ 0 ∷ []) ∷
    instruction OpDecorate (31 ∷ DescriptorSet ∷ 0 ∷ []) ∷ instruction OpDecorate (31 ∷ Binding ∷ 1 ∷ []) ∷
    instruction OpDecorate (32 ∷ DescriptorSet ∷ 1 ∷ []) ∷ instruction OpDecorate (32 ∷ Binding ∷ 0 ∷ []) ∷
    instruction OpDecorate (35 ∷ BuiltIn ∷ GlobalInvocationId ∷ []) ∷ []

abbrev pub flags : List Instr
flags = instruction OpMemberDecorate (11 ∷ 0 ∷ NonWritable ∷ []) ∷
    instruction OpMemberDecorate (13 ∷ 0 ∷ Coherent ∷ []) ∷ []

abbrev pub layouts : List Instr
layouts =
    instruction OpDecorate (10 ∷ ArrayStride ∷ 4 ∷ []) ∷ instruction OpDecorate (11 ∷ Block ∷ []) ∷
    instruction OpMemberDecorate (11 ∷ 0 ∷ Offset ∷ 0 ∷ []) ∷
    instruction OpDecorate (13 ∷ Block ∷ []) ∷ instruction OpMemberDecorate (13 ∷ 0 ∷ Offset ∷ 0 ∷ []) ∷
    instruction OpDecorate (16 ∷ ArrayStride ∷ 16 ∷ []) ∷ instruction OpDecorate (17 ∷ Block ∷ []) ∷
    instruction OpMemberDecorate (17 ∷ 0 ∷ Offset ∷ 0 ∷ []) ∷
    instruction OpDecorate (19 ∷ ArrayStride ∷ 4 ∷ []) ∷ instruction OpDecorate (20 ∷ Block ∷ []) ∷
    instruction OpMemberDecorate (20 ∷ 0 ∷ Offset ∷ 0 ∷ []) ∷ []

-- 7 is the number 2, 8 the number 3
abbrev pub types : List Instr
types =
    instruction OpTypeVoid (2 ∷ []) ∷ instruction OpTypeFunction (3 ∷ 2 ∷ []) ∷
    instruction OpTypeInt (5 ∷ 32 ∷ 0 ∷ []) ∷ instruction OpConstant (5 ∷ 7 ∷ 2 ∷ []) ∷
    instruction OpConstant (5 ∷ 8 ∷ 3 ∷ []) ∷
    instruction OpTypeRuntimeArray (10 ∷ 5 ∷ []) ∷ instruction OpTypeStruct (11 ∷ 10 ∷ []) ∷
    instruction OpTypePointer (12 ∷ StorageBuffer ∷ 11 ∷ []) ∷
    instruction OpTypeStruct (13 ∷ 10 ∷ []) ∷ instruction OpTypePointer (14 ∷ StorageBuffer ∷ 13 ∷ []) ∷
    instruction OpTypeVector (15 ∷ 5 ∷ 4 ∷ []) ∷ instruction OpTypeArray (16 ∷ 15 ∷ 8 ∷ []) ∷
    instruction OpTypeStruct (17 ∷ 16 ∷ []) ∷ instruction OpTypePointer (18 ∷ Uniform ∷ 17 ∷ []) ∷
    instruction OpTypeArray (19 ∷ 5 ∷ 7 ∷ []) ∷ instruction OpTypeStruct (20 ∷ 19 ∷ []) ∷
    instruction OpTypePointer (21 ∷ PushConstant ∷ 20 ∷ []) ∷
    instruction OpTypeArray (22 ∷ 5 ∷ 8 ∷ []) ∷ instruction OpTypePointer (23 ∷ Workgroup ∷ 22 ∷ []) ∷
    instruction OpTypeVector (24 ∷ 5 ∷ 3 ∷ []) ∷ instruction OpTypePointer (25 ∷ Input ∷ 24 ∷ []) ∷ []

abbrev pub variables : List Instr
variables =
    instruction OpVariable (12 ∷ 30 ∷ StorageBuffer ∷ []) ∷ instruction OpVariable (14 ∷ 31 ∷ StorageBuffer ∷ []) ∷
    instruction OpVariable (18 ∷ 32 ∷ Uniform ∷ []) ∷ instruction OpVariable (21 ∷ 33 ∷ PushConstant ∷ []) ∷
    instruction OpVariable (23 ∷ 34 ∷ Workgroup ∷ []) ∷ instruction OpVariable (25 ∷ 35 ∷ Input ∷ []) ∷ []

abbrev pub bound : ℕ → List ℕ → List Instr → List Instr → Module
bound version listed decorations declarations = record {
  version = version;
  bound = 60;
  code =
      instruction OpCapability (Shader ∷ []) ∷ instruction OpMemoryModel (Logical ∷ GLSL450 ∷ []) ∷
      instruction OpEntryPoint (GLCompute ∷ 1 ∷ (main_text ++ listed)) ∷
      instruction OpExecutionMode (1 ∷ LocalSize ∷ 8 ∷ 4 ∷ 1 ∷ []) ∷
      (decorations ++ (types ++ (declarations ++
      (instruction OpFunction (2 ∷ 1 ∷ 0 ∷ 3 ∷ []) ∷ instruction OpLabel (50 ∷ []) ∷ instruction OpReturn [] ∷
      instruction OpFunctionEnd [] ∷ []))));
}

abbrev pub decorations : List Instr
decorations = bindings ++ (flags ++ layouts)

abbrev pub buffer : ℕ → ℕ → Bool → Bool → WantedBuffer
buffer set binding is_read_only is_coherent = record {
  set = set;
  binding = binding;
  is_read_only = is_read_only;
  is_coherent = is_coherent;
}

abbrev pub uniform : ℕ → ℕ → ℕ → WantedUniform
uniform set binding vectors = record { set = set; binding = binding; vectors = vectors }

abbrev pub wanted_with : List WantedBuffer → List WantedUniform → Option ℕ → List ℕ → List ℕ → Wanted
wanted_with buffers uniforms push shared inputs = record {
  buffers = buffers;
  uniforms = uniforms;
  push = push;
  shared = shared;
  inputs = inputs;
}

abbrev pub views : List WantedBuffer
views = buffer 0 0 true false ∷ buffer 0 1 false true ∷ []

abbrev pub constants : List WantedUniform
constants = uniform 1 0 3 ∷ []

abbrev pub all_wanted : Wanted
all_wanted = wanted_with views constants (Some 2) (3 ∷ []) (GlobalInvocationId ∷ [])

-- the module against what is wanted
abbrev pub broken_for : Wanted → List Condition
broken_for wanted = broken_in Version13 (axes 8 4 1) wanted (bound Version13 (35 ∷ []) decorations variables)

pub all_are_there : broken_for all_wanted ≡ []
all_are_there = refl

-- In version 1.4 all global variables are listed.
pub all_are_listed :
    broken_in Version14 (axes 8 4 1) all_wanted
    (bound Version14 (30 ∷ 31 ∷ 32 ∷ 33 ∷ 34 ∷ 35 ∷ []) decorations variables) ≡ []
all_are_listed = refl

-- Interface: only the Input variable in 1.4, all in 1.3, none, one twice, and what is no variable.
pub too_few_listed : broken_in Version14 (axes 8 4 1) all_wanted (bound Version14 (35 ∷ []) decorations variables) ≡
    Interface ∷ []
too_few_listed = refl

pub too_many_listed :
    broken_in Version13 (axes 8 4 1) all_wanted (bound Version13 (34 ∷ 35 ∷ []) decorations variables) ≡
    Interface ∷ []
too_many_listed = refl

pub none_listed : broken_in Version13 (axes 8 4 1) all_wanted (bound Version13 [] decorations variables) ≡
    Interface ∷ []
none_listed = refl

pub listed_twice :
    broken_in Version13 (axes 8 4 1) all_wanted (bound Version13 (35 ∷ 35 ∷ []) decorations variables) ≡
    Interface ∷ []
listed_twice = refl

-- Variables: a view at another binding, one more view, a view that is not read only or not coherent, a missing view.
pub other_binding :
    broken_for
    (wanted_with (buffer 0 0 true false ∷ buffer 0 2 false true ∷ []) constants (Some 2) (3 ∷ []) (GlobalInvocationId ∷ [])) ≡
    Variables ∷ []
other_binding = refl

pub one_view_more :
    broken_for (wanted_with (buffer 0 0 true false ∷ []) constants (Some 2) (3 ∷ []) (GlobalInvocationId ∷ [])) ≡
    Variables ∷ []
one_view_more = refl

pub read_only_view :
    broken_for
    (wanted_with (buffer 0 0 false false ∷ buffer 0 1 false true ∷ []) constants (Some 2) (3 ∷ []) (GlobalInvocationId ∷ [])) ≡
    Variables ∷ []
read_only_view = refl

pub no_flags :
    broken_in Version13 (axes 8 4 1) all_wanted (bound Version13 (35 ∷ []) (bindings ++ layouts) variables) ≡
    Variables ∷ []
no_flags = refl

pub no_layouts :
    broken_in Version13 (axes 8 4 1) all_wanted (bound Version13 (35 ∷ []) (bindings ++ flags) variables) ≡
    Variables ∷ []
no_layouts = refl

-- Constant buffers, push constants and shared memory of another size, or none.
pub larger_buffer : broken_for (wanted_with views (uniform 1 0 4 ∷ []) (Some 2) (3 ∷ []) (GlobalInvocationId ∷ [])) ≡
    Variables ∷ []
larger_buffer = refl

pub more_push_words : broken_for (wanted_with views constants (Some 3) (3 ∷ []) (GlobalInvocationId ∷ [])) ≡
    Variables ∷ []
more_push_words = refl

pub no_push_words : broken_for (wanted_with views constants None (3 ∷ []) (GlobalInvocationId ∷ [])) ≡ Variables ∷ []
no_push_words = refl

pub two_shared : broken_for (wanted_with views constants (Some 2) (3 ∷ 3 ∷ []) (GlobalInvocationId ∷ [])) ≡
    Variables ∷ []
two_shared = refl

pub larger_shared : broken_for (wanted_with views constants (Some 2) (4 ∷ []) (GlobalInvocationId ∷ [])) ≡
    Variables ∷ []
larger_shared = refl

-- another built-in, one that is a word, one more
pub other_built_in : broken_for (wanted_with views constants (Some 2) (3 ∷ []) (LocalInvocationId ∷ [])) ≡
    Variables ∷ []
other_built_in = refl

pub missing_built_in : broken_for (wanted_with views constants (Some 2) (3 ∷ [])
    (GlobalInvocationId ∷ LocalInvocationIndex ∷ [])) ≡ Variables ∷ []
missing_built_in = refl

pub nothing_is_wanted : broken_for nothing_wanted ≡ Variables ∷ []
nothing_is_wanted = refl
