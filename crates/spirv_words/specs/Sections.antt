-- The conditions on the header, the order of a module's sections and the interface of its entry point (SPIR-V specification, unified1,
-- sections 2.3 and 2.4, Logical Layout of a Module).
use Rattle.std.specs.Prelude.{ℕ, nat_eq, if◌then◌else◌, Bool, true, false, ◌&&◌, ◌||◌, List, [], ◌∷◌, ◌++◌, map, filter, Option, Some, None, slice_index}
use Rattle.std.specs.Cmp.Lexicographic.{pointwise}
use Rattle.std.specs.List.{list_any, list_all}
pub use Rattle.spirv_words.specs.Roles.{Section, Decoration, Declaration, Body}
use Rattle.word_base.specs.Settings.{Axes}
use Rattle.spirv_words.specs.StorageClass.{Input}
use Rattle.spirv_words.specs.Enumerants.{Version14, Shader, Logical, GLSL450, GLCompute, LocalSize, glsl_text, main_text}
use Rattle.spirv_words.specs.Operations.{Op, OpCapability, OpExtInstImport, OpMemoryModel, OpEntryPoint, OpExecutionMode, OpTypeVoid, OpTypeFunction, OpFunction, OpFunctionEnd, OpVariable, OpLabel, row_of, op_of}
use Rattle.spirv_words.specs.Text.{Instr, Module, is_op, is_version}
use Rattle.spirv_words.specs.Ids.{contains, behind_text, declared}
use Rattle.spirv_words.specs.Definitions.{are_distinct}

-- HEADER. The version is the one that is asked for, 1.3 or 1.4; the other words of the header are always the same.
abbrev pub has_header : ℕ → Module → Bool
has_header version m = is_version version && nat_eq m.version version

-- SECTIONS. Where an instruction may stand.
abbrev pub section_of_op : Option Op → List ℕ → Section
section_of_op None os = Body
section_of_op (Some op) os = (row_of op).section os

abbrev pub section_of : Instr → Section
section_of i = section_of_op (op_of i.op) i.operands

abbrev pub is_decoration : Section → Bool
is_decoration Decoration = true
is_decoration s = false

abbrev pub is_declaration : Section → Bool
is_declaration Declaration = true
is_declaration s = false

abbrev pub is_body : Section → Bool
is_body Body = true
is_body s = false

-- this very instruction
abbrev pub is_instr : Op → List ℕ → Instr → Bool
is_instr op operands i = is_op op i && pointwise nat_eq i.operands operands

-- the first instruction and those behind it meet a test; and what is left behind some at the front
abbrev pub at_front : (Instr → List Instr → Bool) → List Instr → Bool
at_front test [] = false
at_front test (i ∷ is) = test i is

abbrev pub behind_one : (Instr → Bool) → List Instr → List Instr
behind_one test [] = []
behind_one test (i ∷ is) = if test i then is else i ∷ is

abbrev pub behind_all : (Instr → Bool) → List Instr → List Instr
behind_all test [] = []
behind_all test (i ∷ is) = if test i then behind_all test is else i ∷ is

abbrev pub is_import : Instr → Bool
is_import i = is_instr OpExtInstImport (slice_index i.operands 0 ∷ glsl_text) i

abbrev pub is_main : List ℕ → Bool
is_main (model ∷ f ∷ a ∷ b ∷ variables) = nat_eq model GLCompute && pointwise nat_eq (a ∷ b ∷ []) main_text
is_main os = false

-- the threads of a group along its axes
abbrev pub is_mode : Axes → ℕ → Instr → Bool
is_mode threads f i = is_instr OpExecutionMode (f ∷ LocalSize ∷ threads.x ∷ threads.y ∷ threads.z ∷ []) i

-- a function f of type void without parameters
abbrev pub is_void_function : List Instr → ℕ → List ℕ → Bool
is_void_function declarations f (void ∷ r ∷ control ∷ type ∷ []) =
    nat_eq r f && (list_any (is_instr OpTypeVoid (void ∷ [])) declarations && list_any (is_instr OpTypeFunction (type ∷ void ∷ [])) declarations)
is_void_function declarations f os = false

-- instructions of a body, and OpFunctionEnd as the last
abbrev pub ends_function : List Instr → Bool
ends_function [] = false
ends_function (i ∷ []) = is_instr OpFunctionEnd [] i
ends_function (i ∷ j ∷ rest) = is_body (section_of i) && ends_function (j ∷ rest)

abbrev pub is_label : Instr → Bool
is_label i = is_op OpLabel i

abbrev pub is_function : List Instr → ℕ → List Instr → Bool
is_function declarations f code =
    at_front (λ i body. is_op OpFunction i && (is_void_function declarations f i.operands && (list_any is_label body && ends_function body))) code

-- decorations, then declarations, then the function
abbrev pub has_rest : List Instr → ℕ → List Instr → Bool
has_rest declarations f code =
    is_function declarations f (behind_all (λ i. is_declaration (section_of i)) (behind_all (λ i. is_decoration (section_of i)) code))

abbrev pub has_sections : Axes → List Instr → Bool
has_sections threads code =
    at_front (λ capability a. is_instr OpCapability (Shader ∷ []) capability &&
    at_front (λ model b. is_instr OpMemoryModel (Logical ∷ GLSL450 ∷ []) model &&
    at_front (λ entry c. (is_op OpEntryPoint entry && is_main entry.operands) &&
    at_front (λ mode d. is_mode threads (slice_index entry.operands 1) mode && has_rest (declared code) (slice_index entry.operands 1) d) c) b)
    (behind_one is_import a)) code

-- INTERFACE. The entry point lists each Input variable once and nothing else; from version 1.4 on each global variable.
abbrev pub listed : Instr → List ℕ
listed i = if is_op OpEntryPoint i then behind_text (behind_two i.operands) else [] where
  behind_two : List ℕ → List ℕ
  behind_two (model ∷ f ∷ rest) = rest
  behind_two os = []

abbrev pub interface_of : List Instr → List ℕ
interface_of [] = []
interface_of (i ∷ is) = listed i ++ interface_of is

abbrev pub is_variable_of : (ℕ → Bool) → Instr → Bool
is_variable_of classes i = is_op OpVariable i && classes (slice_index i.operands 2)

abbrev pub variables_of : (ℕ → Bool) → List Instr → List ℕ
variables_of classes code = map (λ i. slice_index i.operands 1) (filter (is_variable_of classes) (declared code))

abbrev pub listed_classes : ℕ → ℕ → Bool
listed_classes version class = nat_eq class Input || nat_eq version Version14

abbrev pub is_once_each : List ℕ → List ℕ → Bool
is_once_each xs ys = are_distinct xs && (list_all (contains ys) xs && list_all (contains xs) ys)

abbrev pub has_interface : ℕ → List Instr → Bool
has_interface version code = is_once_each (interface_of code) (variables_of (listed_classes version) code)
