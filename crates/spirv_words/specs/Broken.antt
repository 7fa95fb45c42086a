-- Which conditions of the form a module breaks, as a list: none where it has the form.
use Rattle.std.specs.Prelude.{ℕ, Bool, if◌then◌else◌, List, [], ◌∷◌, ◌++◌}
use Rattle.word_base.specs.Settings.{Axes, axes}
use Rattle.spirv_words.specs.StorageClass.{Function}
use Rattle.spirv_words.specs.Enumerants.{GLCompute, GLSL450, LocalSize, Logical, Shader, Version13, main_text}
use Rattle.spirv_words.specs.Operations.{OpBranch, OpBranchConditional, OpCapability, OpConstant, OpConstantTrue, OpEntryPoint, OpExecutionMode, OpFunction, OpFunctionEnd, OpLabel, OpLoopMerge, OpMemoryModel, OpReturn, OpSelectionMerge, OpSwitch, OpTypeBool, OpTypeFunction, OpTypeInt, OpTypePointer, OpTypeVoid}
use Rattle.spirv_words.specs.Text.{Instr, Module, instruction}
use Rattle.spirv_words.specs.Definitions.{has_single_definitions, has_distinct_types, has_sorts, has_local_results}
use Rattle.spirv_words.specs.Sections.{has_header, has_sections, has_interface}
use Rattle.spirv_words.specs.Structure.{has_blocks, has_merges, has_branches, has_switch_order}
use Rattle.spirv_words.specs.Variables.{Wanted, nothing_wanted, has_variables}

pub data Condition : Type 0 where
  Header : Condition
  Sections : Condition
  SingleDefinition : Condition
  DistinctTypes : Condition
  Sorts : Condition
  LocalResults : Condition
  Blocks : Condition
  Merges : Condition
  Branches : Condition
  Variables : Condition
  SwitchOrder : Condition
  Interface : Condition

abbrev pub unless : Bool → Condition → List Condition → List Condition
unless test condition rest = if test then rest else condition ∷ rest

abbrev pub broken_in : ℕ → Axes → Wanted → Module → List Condition
broken_in version threads wanted m =
    unless (has_header version m) Header (
    unless (has_sections threads m.code) Sections (
    unless (has_single_definitions m.bound m.code) SingleDefinition (
    unless (has_distinct_types m.code) DistinctTypes (
    unless (has_sorts m.code) Sorts (
    unless (has_local_results m.code) LocalResults (
    unless (has_blocks m.code) Blocks (
    unless (has_merges m.code) Merges (
    unless (has_branches m.code) Branches (
    unless (has_variables wanted m.code) Variables (
    unless (has_switch_order m.code) SwitchOrder (
    unless (has_interface version m.code) Interface [])))))))))))

-- A shader of version 1.3 and of groups of 8 by 4 threads, with declarations of its own and the body of its function. Its ids are 1 main,
-- 2 void, 3 the function's type, 4 truths, 5 words, 6 and 7 the words 0 and 1, 8 the true one and 9 pointers to words.
abbrev pub shader_of : List Instr → List Instr → List Instr → List Instr → Module
shader_of decorations declarations variables body = record {
  version = Version13;
  bound = 100;
  code =
      instruction OpCapability (Shader ∷ []) ∷ instruction OpMemoryModel (Logical ∷ GLSL450 ∷ []) ∷
      instruction OpEntryPoint (GLCompute ∷ 1 ∷ main_text) ∷
      instruction OpExecutionMode (1 ∷ LocalSize ∷ 8 ∷ 4 ∷ 1 ∷ []) ∷
      (decorations ++ (instruction OpTypeVoid (2 ∷ []) ∷ instruction OpTypeFunction (3 ∷ 2 ∷ []) ∷
      instruction OpTypeBool (4 ∷ []) ∷ instruction OpTypeInt (5 ∷ 32 ∷ 0 ∷ []) ∷
      instruction OpConstant (5 ∷ 6 ∷ 0 ∷ []) ∷ instruction OpConstant (5 ∷ 7 ∷ 1 ∷ []) ∷
      instruction OpConstantTrue (4 ∷ 8 ∷ []) ∷
      instruction OpTypePointer (9 ∷ Function ∷ 5 ∷ []) ∷
      (declarations ++
      (instruction OpFunction (2 ∷ 1 ∷ 0 ∷ 3 ∷ []) ∷ instruction OpLabel (20 ∷ []) ∷
      (variables ++ (body ++ (instruction OpFunctionEnd [] ∷ [])))))));
}

abbrev pub shader : List Instr → Module
shader body = shader_of [] [] [] body

abbrev pub broken : Module → List Condition
broken m = broken_in Version13 (axes 8 4 1) nothing_wanted m

-- instructions of bodies
abbrev pub label : ℕ → Instr
label l = instruction OpLabel (l ∷ [])

abbrev pub goto : ℕ → Instr
goto l = instruction OpBranch (l ∷ [])

abbrev pub choose : ℕ → ℕ → Instr
choose l k = instruction OpBranchConditional (8 ∷ l ∷ k ∷ [])

abbrev pub select_to : ℕ → Instr
select_to m = instruction OpSelectionMerge (m ∷ 0 ∷ [])

abbrev pub loop_to : ℕ → ℕ → Instr
loop_to m c = instruction OpLoopMerge (m ∷ c ∷ 0 ∷ [])

abbrev pub switch_to : ℕ → List ℕ → Instr
switch_to other cases = instruction OpSwitch (6 ∷ other ∷ cases)

abbrev pub leave : Instr
leave = instruction OpReturn []
