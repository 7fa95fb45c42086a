-- Instructions that stand in a function's body and are nothing to its blocks define values alone.
use Rattle.std.proofs.Common.{◌≡◌, ℕ, List, [], ◌∷◌, ◌++◌, map, Option, Some, None, Bool, true, false, refl, ap, ◌∙◌, arith}
use Rattle.std.specs.Prelude.{nat_eq, nat_lt, cond, length, IsTrue}
use Rattle.std.specs.List.{list_all}
use Rattle.spirv_words.specs.Roles.{Part, ResultType, Result, Use, Name, Literal, Text, OptionalUse, OptionalLiteral, Uses, Names, Literals, Targets, Plain, Local, Body, Declaration, labels, variable_flow, variable_section, AValue}
use Rattle.spirv_words.specs.Operations.{Op, OpCapability, OpExtInstImport, OpMemoryModel, OpEntryPoint, OpExecutionMode, OpDecorate, OpMemberDecorate, OpTypeVoid, OpTypeBool, OpTypeInt, OpTypeVector, OpTypeArray, OpTypeRuntimeArray, OpTypeStruct, OpTypePointer, OpTypeFunction, OpConstantTrue, OpConstantFalse, OpConstant, OpConstantComposite, OpConstantNull, OpCompositeConstruct, OpCompositeExtract, OpFunction, OpFunctionEnd, OpVariable, OpLoad, OpStore, OpAccessChain, OpArrayLength, OpExtInst, OpIAdd, OpISub, OpIMul, OpUDiv, OpUMod, OpIAddCarry, OpISubBorrow, OpUMulExtended, OpSMulExtended, OpLogicalOr, OpLogicalAnd, OpLogicalNot, OpSelect, OpIEqual, OpINotEqual, OpUGreaterThanEqual, OpSGreaterThanEqual, OpULessThan, OpSLessThan, OpShiftRightLogical, OpShiftRightArithmetic, OpShiftLeftLogical, OpBitwiseOr, OpBitwiseXor, OpBitwiseAnd, OpNot, OpBitFieldInsert, OpBitFieldSExtract, OpBitFieldUExtract, OpBitReverse, OpBitCount, OpControlBarrier, OpMemoryBarrier, OpAtomicExchange, OpAtomicCompareExchange, OpAtomicIAdd, OpAtomicISub, OpAtomicSMin, OpAtomicUMin, OpAtomicSMax, OpAtomicUMax, OpAtomicAnd, OpAtomicOr, OpAtomicXor, OpLoopMerge, OpSelectionMerge, OpLabel, OpBranch, OpBranchConditional, OpSwitch, OpReturn, OpUnreachable, row_of, layout_of, op_of}
use Rattle.spirv_words.specs.Blocks.{flow_of_op}
use Rattle.spirv_words.specs.Sections.{section_of_op}
use Rattle.spirv_words.specs.Ids.{ids_in, parts_of, behind_text, defined_by}
use Rattle.spirv_words.specs.Definitions.{results}
use Rattle.spirv_words.specs.Layouts.{fits}
use Rattle.spirv_words.specs.Text.{Instr, is_instr, fits_op}
use Rattle.spirv_emit.specs.Code.{values, typed_result, typed_by}
use Rattle.spirv_flow.specs.Layout.{ArePlain}
use Rattle.spirv_flow.proofs.Members.{first_holds, second_holds}

abbrev no_result : List Part → Bool
no_result [] = true
no_result (ResultType ∷ parts) = no_result parts
no_result (Result ∷ parts) = false
no_result (Use ∷ parts) = no_result parts
no_result (Name ∷ parts) = no_result parts
no_result (Literal ∷ parts) = no_result parts
no_result (Text ∷ parts) = no_result parts
no_result (OptionalUse ∷ parts) = no_result parts
no_result (OptionalLiteral ∷ parts) = no_result parts
no_result (Uses ∷ parts) = true
no_result (Names ∷ parts) = true
no_result (Literals ∷ parts) = true
no_result (Targets ∷ parts) = true

nothing : (parts : List Part) (words : List ℕ) → IsTrue (no_result parts) → (ids_in parts words).results ≡ []
nothing [] words h = refl
nothing (ResultType ∷ parts) [] h = refl
nothing (ResultType ∷ parts) (w ∷ ws) h = nothing parts ws h
nothing (Result ∷ parts) words h = absurd (grind arith)
nothing (Use ∷ parts) [] h = refl
nothing (Use ∷ parts) (w ∷ ws) h = nothing parts ws h
nothing (Name ∷ parts) [] h = refl
nothing (Name ∷ parts) (w ∷ ws) h = nothing parts ws h
nothing (Literal ∷ parts) [] h = refl
nothing (Literal ∷ parts) (w ∷ ws) h = nothing parts ws h
nothing (Text ∷ parts) words h = nothing parts (behind_text words) h
nothing (OptionalUse ∷ parts) [] h = refl
nothing (OptionalUse ∷ parts) (w ∷ ws) h = nothing parts ws h
nothing (OptionalLiteral ∷ parts) [] h = refl
nothing (OptionalLiteral ∷ parts) (w ∷ ws) h = nothing parts ws h
nothing (Uses ∷ parts) words h = refl
nothing (Names ∷ parts) words h = refl
nothing (Literals ∷ parts) words h = refl
nothing (Targets ∷ parts) words h = refl

-- the results of a value, whose type and id stand in front
of_value : (parts : List Part) (os : List ℕ) → IsTrue (no_result parts)
    → (ids_in (ResultType ∷ Result ∷ parts) os).results ≡ map (λ x. x.id) (typed_by AValue os)
of_value parts [] h = refl
of_value parts (t ∷ []) h = refl
of_value parts (t ∷ r ∷ os) h = ap (λ l. r ∷ l) (nothing parts os h)

abbrev pub behind_two : List Part → List Part
behind_two (a ∷ b ∷ parts) = parts
behind_two parts = []

in_no_body : (b : Bool) → cond b Local Plain ≡ Plain → cond b Body Declaration ≡ Body → ⊥
in_no_body true p q = absurd (cc)
in_no_body false p q = absurd (cc)

pub no_variable : (os : List ℕ) → variable_flow os ≡ Plain → variable_section os ≡ Body → ⊥
no_variable [] p q = absurd (cc)
no_variable (t ∷ []) p q = absurd (cc)
no_variable (t ∷ r ∷ []) p q = absurd (cc)
no_variable (t ∷ r ∷ class ∷ rest) p q = in_no_body (nat_eq class 7) p q

label_results : (os : List ℕ) → labels os ≡ Plain → IsTrue (fits (Result ∷ []) os) → (ids_in (Result ∷ []) os).results ≡ []
label_results [] p h = refl
label_results (l ∷ []) p h = absurd (cc)
label_results (l ∷ k ∷ os) p h = absurd (grind arith)

results_by : (op : Op) (os : List ℕ) → (row_of op).flow os ≡ Plain → (row_of op).section os ≡ Body → IsTrue (fits (layout_of op) os)
    → (ids_in (parts_of (Some op)) os).results ≡ map (λ x. x.id) (typed_by (defined_by (Some op)) os)
results_by OpCapability os p q f = absurd (cc)
results_by OpExtInstImport os p q f = absurd (cc)
results_by OpMemoryModel os p q f = absurd (cc)
results_by OpEntryPoint os p q f = absurd (cc)
results_by OpExecutionMode os p q f = absurd (cc)
results_by OpDecorate os p q f = absurd (cc)
results_by OpMemberDecorate os p q f = absurd (cc)
results_by OpTypeVoid os p q f = absurd (cc)
results_by OpTypeBool os p q f = absurd (cc)
results_by OpTypeInt os p q f = absurd (cc)
results_by OpTypeVector os p q f = absurd (cc)
results_by OpTypeArray os p q f = absurd (cc)
results_by OpTypeRuntimeArray os p q f = absurd (cc)
results_by OpTypeStruct os p q f = absurd (cc)
results_by OpTypePointer os p q f = absurd (cc)
results_by OpTypeFunction os p q f = absurd (cc)
results_by OpConstantTrue os p q f = absurd (cc)
results_by OpConstantFalse os p q f = absurd (cc)
results_by OpConstant os p q f = absurd (cc)
results_by OpConstantComposite os p q f = absurd (cc)
results_by OpConstantNull os p q f = absurd (cc)
results_by OpCompositeConstruct os p q f = of_value (behind_two (layout_of OpCompositeConstruct)) os refl
results_by OpCompositeExtract os p q f = of_value (behind_two (layout_of OpCompositeExtract)) os refl
results_by OpFunction os p q f = absurd (cc)
results_by OpFunctionEnd os p q f = absurd (cc)
results_by OpVariable os p q f = absurd (no_variable os p q)
results_by OpLoad os p q f = of_value (behind_two (layout_of OpLoad)) os refl
results_by OpStore os p q f = nothing (layout_of OpStore) os refl
results_by OpAccessChain os p q f = of_value (behind_two (layout_of OpAccessChain)) os refl
results_by OpArrayLength os p q f = of_value (behind_two (layout_of OpArrayLength)) os refl
results_by OpExtInst os p q f = of_value (behind_two (layout_of OpExtInst)) os refl
results_by OpIAdd os p q f = of_value (behind_two (layout_of OpIAdd)) os refl
results_by OpISub os p q f = of_value (behind_two (layout_of OpISub)) os refl
results_by OpIMul os p q f = of_value (behind_two (layout_of OpIMul)) os refl
results_by OpUDiv os p q f = of_value (behind_two (layout_of OpUDiv)) os refl
results_by OpUMod os p q f = of_value (behind_two (layout_of OpUMod)) os refl
results_by OpIAddCarry os p q f = of_value (behind_two (layout_of OpIAddCarry)) os refl
results_by OpISubBorrow os p q f = of_value (behind_two (layout_of OpISubBorrow)) os refl
results_by OpUMulExtended os p q f = of_value (behind_two (layout_of OpUMulExtended)) os refl
results_by OpSMulExtended os p q f = of_value (behind_two (layout_of OpSMulExtended)) os refl
results_by OpLogicalOr os p q f = of_value (behind_two (layout_of OpLogicalOr)) os refl
results_by OpLogicalAnd os p q f = of_value (behind_two (layout_of OpLogicalAnd)) os refl
results_by OpLogicalNot os p q f = of_value (behind_two (layout_of OpLogicalNot)) os refl
results_by OpSelect os p q f = of_value (behind_two (layout_of OpSelect)) os refl
results_by OpIEqual os p q f = of_value (behind_two (layout_of OpIEqual)) os refl
results_by OpINotEqual os p q f = of_value (behind_two (layout_of OpINotEqual)) os refl
results_by OpUGreaterThanEqual os p q f = of_value (behind_two (layout_of OpUGreaterThanEqual)) os refl
results_by OpSGreaterThanEqual os p q f = of_value (behind_two (layout_of OpSGreaterThanEqual)) os refl
results_by OpULessThan os p q f = of_value (behind_two (layout_of OpULessThan)) os refl
results_by OpSLessThan os p q f = of_value (behind_two (layout_of OpSLessThan)) os refl
results_by OpShiftRightLogical os p q f = of_value (behind_two (layout_of OpShiftRightLogical)) os refl
results_by OpShiftRightArithmetic os p q f = of_value (behind_two (layout_of OpShiftRightArithmetic)) os refl
results_by OpShiftLeftLogical os p q f = of_value (behind_two (layout_of OpShiftLeftLogical)) os refl
results_by OpBitwiseOr os p q f = of_value (behind_two (layout_of OpBitwiseOr)) os refl
results_by OpBitwiseXor os p q f = of_value (behind_two (layout_of OpBitwiseXor)) os refl
results_by OpBitwiseAnd os p q f = of_value (behind_two (layout_of OpBitwiseAnd)) os refl
results_by OpNot os p q f = of_value (behind_two (layout_of OpNot)) os refl
results_by OpBitFieldInsert os p q f = of_value (behind_two (layout_of OpBitFieldInsert)) os refl
results_by OpBitFieldSExtract os p q f = of_value (behind_two (layout_of OpBitFieldSExtract)) os refl
results_by OpBitFieldUExtract os p q f = of_value (behind_two (layout_of OpBitFieldUExtract)) os refl
results_by OpBitReverse os p q f = of_value (behind_two (layout_of OpBitReverse)) os refl
results_by OpBitCount os p q f = of_value (behind_two (layout_of OpBitCount)) os refl
results_by OpControlBarrier os p q f = nothing (layout_of OpControlBarrier) os refl
results_by OpMemoryBarrier os p q f = nothing (layout_of OpMemoryBarrier) os refl
results_by OpAtomicExchange os p q f = of_value (behind_two (layout_of OpAtomicExchange)) os refl
results_by OpAtomicCompareExchange os p q f = of_value (behind_two (layout_of OpAtomicCompareExchange)) os refl
results_by OpAtomicIAdd os p q f = of_value (behind_two (layout_of OpAtomicIAdd)) os refl
results_by OpAtomicISub os p q f = of_value (behind_two (layout_of OpAtomicISub)) os refl
results_by OpAtomicSMin os p q f = of_value (behind_two (layout_of OpAtomicSMin)) os refl
results_by OpAtomicUMin os p q f = of_value (behind_two (layout_of OpAtomicUMin)) os refl
results_by OpAtomicSMax os p q f = of_value (behind_two (layout_of OpAtomicSMax)) os refl
results_by OpAtomicUMax os p q f = of_value (behind_two (layout_of OpAtomicUMax)) os refl
results_by OpAtomicAnd os p q f = of_value (behind_two (layout_of OpAtomicAnd)) os refl
results_by OpAtomicOr os p q f = of_value (behind_two (layout_of OpAtomicOr)) os refl
results_by OpAtomicXor os p q f = of_value (behind_two (layout_of OpAtomicXor)) os refl
results_by OpLoopMerge os p q f = nothing (layout_of OpLoopMerge) os refl
results_by OpSelectionMerge os p q f = nothing (layout_of OpSelectionMerge) os refl
results_by OpLabel os p q f = label_results os p f
results_by OpBranch os p q f = nothing (layout_of OpBranch) os refl
results_by OpBranchConditional os p q f = nothing (layout_of OpBranchConditional) os refl
results_by OpSwitch os p q f = nothing (layout_of OpSwitch) os refl
results_by OpReturn os p q f = absurd (cc)
results_by OpUnreachable os p q f = absurd (cc)

results_of_op : (o : Option Op) (os : List ℕ) → flow_of_op o os ≡ Plain → section_of_op o os ≡ Body → IsTrue (fits_op o os)
    → (ids_in (parts_of o) os).results ≡ map (λ x. x.id) (typed_by (defined_by o) os)
results_of_op None os p q f = absurd (grind arith)
results_of_op (Some op) os p q f = results_by op os p q f

pub results_are_values : (code : List Instr) → ArePlain code → IsTrue (list_all is_instr code) → results code ≡ values code
results_are_values [] p f = refl
results_are_values (i ∷ is) p f =
    let here = first_holds (is_instr i) (list_all is_instr is) f in
    let later = second_holds (is_instr i) (list_all is_instr is) f in
    let fit = first_holds (fits_op (op_of i.op) i.operands) (nat_lt (length i.operands) 65535) here in
    ap (λ l. l ++ results is) (results_of_op (op_of i.op) i.operands p.0.0 p.0.1 fit) ∙ ap (λ l. map (λ x. x.id) (typed_result i) ++ l)
    (results_are_values is p.1 later)
