-- The instructions that a module may have, one row each (SPIR-V specification, unified1, section 3, Instructions): its number, its operands,
-- the sorts that it asks of them, what its result is, where it may stand and what it is to the blocks. What it computes or does stands
-- in `Meanings` and `Lane`.
use Rattle.std.specs.Prelude.{◌≡◌, ℕ, nat_eq, if◌then◌else◌, List, [], ◌∷◌, Option, Some, None, refl}
use Rattle.spirv_words.specs.Roles.{Part, ResultType, Result, Use, Name, Literal, Text, OptionalUse, OptionalLiteral, Uses, Names, Literals, Targets, ValueSort, AWord, ATruth, APair, Asks, Makes, Takes, Selects, Loads, Stores, Chains, Lengths, Extracts, Composes, Gathers, Constants, Nulls, Extends, Atomics, Variables, Functions, Types, Integers, Arrays, Pointers, Free, Defined, Nothing, AnImport, AType, ATypeOnce, AConstant, AValue, AFunction, ALabel, Section, Capability, Import, Model, Entry, Mode, Decoration, Declaration, Function, Closing, Body, Flow, Plain, Begins, Closes, Leave, labels, merges, merges_loop, branches, chooses, switches, variable_flow, variable_section}

pub data Op : Type 0 where
  OpCapability : Op
  OpExtInstImport : Op
  OpMemoryModel : Op
  OpEntryPoint : Op
  OpExecutionMode : Op
  OpDecorate : Op
  OpMemberDecorate : Op
  OpTypeVoid : Op
  OpTypeBool : Op
  OpTypeInt : Op
  OpTypeVector : Op
  OpTypeArray : Op
  OpTypeRuntimeArray : Op
  OpTypeStruct : Op
  OpTypePointer : Op
  OpTypeFunction : Op
  OpConstantTrue : Op
  OpConstantFalse : Op
  OpConstant : Op
  OpConstantComposite : Op
  OpConstantNull : Op
  OpCompositeConstruct : Op
  OpCompositeExtract : Op
  OpFunction : Op
  OpFunctionEnd : Op
  OpVariable : Op
  OpLoad : Op
  OpStore : Op
  OpAccessChain : Op
  OpArrayLength : Op
  OpExtInst : Op
  OpIAdd : Op
  OpISub : Op
  OpIMul : Op
  OpUDiv : Op
  OpUMod : Op
  OpIAddCarry : Op
  OpISubBorrow : Op
  OpUMulExtended : Op
  OpSMulExtended : Op
  OpLogicalOr : Op
  OpLogicalAnd : Op
  OpLogicalNot : Op
  OpSelect : Op
  OpIEqual : Op
  OpINotEqual : Op
  OpUGreaterThanEqual : Op
  OpSGreaterThanEqual : Op
  OpULessThan : Op
  OpSLessThan : Op
  OpShiftRightLogical : Op
  OpShiftRightArithmetic : Op
  OpShiftLeftLogical : Op
  OpBitwiseOr : Op
  OpBitwiseXor : Op
  OpBitwiseAnd : Op
  OpNot : Op
  OpBitFieldInsert : Op
  OpBitFieldSExtract : Op
  OpBitFieldUExtract : Op
  OpBitReverse : Op
  OpBitCount : Op
  OpControlBarrier : Op
  OpMemoryBarrier : Op
  OpAtomicExchange : Op
  OpAtomicCompareExchange : Op
  OpAtomicIAdd : Op
  OpAtomicISub : Op
  OpAtomicSMin : Op
  OpAtomicUMin : Op
  OpAtomicSMax : Op
  OpAtomicUMax : Op
  OpAtomicAnd : Op
  OpAtomicOr : Op
  OpAtomicXor : Op
  OpLoopMerge : Op
  OpSelectionMerge : Op
  OpLabel : Op
  OpBranch : Op
  OpBranchConditional : Op
  OpSwitch : Op
  OpReturn : Op
  OpUnreachable : Op

-- An instruction's row. Its number is the low half of its first word; where it may stand and what it is to the blocks may depend on its
-- operands.
pub record Row : Type 0 where
  pub number : ℕ
  pub layout : List Part
  pub asks : Asks
  pub defines : Defined
  pub section : List ℕ → Section
  pub flow : List ℕ → Flow

-- rows of instructions that are nothing to the blocks, and of those that are
abbrev pub row : ℕ → Defined → Section → List Part → Asks → Row
row number defines section layout asks =
    record { number = number; layout = layout; asks = asks; defines = defines; section = λ os. section; flow = λ os. Plain }

abbrev pub blocks_row : ℕ → Defined → Section → (List ℕ → Flow) → List Part → Asks → Row
blocks_row number defines section flow layout asks =
    record { number = number; layout = layout; asks = asks; defines = defines; section = λ os. section; flow = flow }

-- types, constants and values; a value's operands stand behind its type and its id
abbrev pub type_row : ℕ → Defined → List Part → Asks → Row
type_row number defines layout asks = row number defines Declaration layout asks

abbrev pub value_from : List Part → List Part
value_from parts = ResultType ∷ Result ∷ parts

abbrev pub constant_row : ℕ → List Part → Asks → Row
constant_row number operands asks = row number AConstant Declaration (value_from operands) asks

abbrev pub value_row : ℕ → List Part → Asks → Row
value_row number operands asks = row number AValue Body (value_from operands) asks

abbrev pub variable_row : ℕ → Row
variable_row number = record {
  number = number;
  layout = value_from (Literal ∷ OptionalUse ∷ []);
  asks = Variables;
  defines = AValue;
  section = variable_section;
  flow = variable_flow;
}

-- a value that is computed from one to four others
abbrev pub one : List Part
one = Use ∷ []

abbrev pub two : List Part
two = Use ∷ Use ∷ []

abbrev pub three : List Part
three = Use ∷ Use ∷ Use ∷ []

abbrev pub four : List Part
four = Use ∷ Use ∷ Use ∷ Use ∷ []

abbrev pub computes : ℕ → List Part → ValueSort → ValueSort → Row
computes number operands result wanted = value_row number operands (Makes result wanted)

abbrev pub row_of : Op → Row
row_of OpCapability = row 17 Nothing Capability (Literal ∷ []) Free
row_of OpExtInstImport = row 11 AnImport Import (Result ∷ Text ∷ []) Free
row_of OpMemoryModel = row 14 Nothing Model (Literal ∷ Literal ∷ []) Free
row_of OpEntryPoint = row 15 Nothing Entry (Literal ∷ Name ∷ Text ∷ Names ∷ []) Free
row_of OpExecutionMode = row 16 Nothing Mode (Name ∷ Literal ∷ Literals ∷ []) Free
row_of OpDecorate = row 71 Nothing Decoration (Name ∷ Literal ∷ Literals ∷ []) Free
row_of OpMemberDecorate = row 72 Nothing Decoration (Name ∷ Literal ∷ Literal ∷ Literals ∷ []) Free
row_of OpTypeVoid = type_row 19 ATypeOnce (Result ∷ []) Free
row_of OpTypeBool = type_row 20 ATypeOnce (Result ∷ []) Free
row_of OpTypeInt = type_row 21 ATypeOnce (Result ∷ Literal ∷ Literal ∷ []) Integers
row_of OpTypeVector = type_row 23 ATypeOnce (Result ∷ Use ∷ Literal ∷ []) Types
row_of OpTypeArray = type_row 28 AType (Result ∷ Use ∷ Use ∷ []) Arrays
row_of OpTypeRuntimeArray = type_row 29 AType (Result ∷ Use ∷ []) Types
row_of OpTypeStruct = type_row 30 AType (Result ∷ Uses ∷ []) Types
row_of OpTypePointer = type_row 32 ATypeOnce (Result ∷ Literal ∷ Use ∷ []) Pointers
row_of OpTypeFunction = type_row 33 ATypeOnce (Result ∷ Use ∷ Uses ∷ []) Types
row_of OpConstantTrue = constant_row 41 [] (Makes ATruth ATruth)
row_of OpConstantFalse = constant_row 42 [] (Makes ATruth ATruth)
row_of OpConstant = constant_row 43 (Literal ∷ []) Constants
row_of OpConstantComposite = constant_row 44 (Uses ∷ []) Gathers
row_of OpConstantNull = constant_row 46 [] Nulls
row_of OpCompositeConstruct = value_row 80 (Uses ∷ []) Composes
row_of OpCompositeExtract = value_row 81 (Use ∷ Literals ∷ []) Extracts
row_of OpFunction = blocks_row 54 AFunction Function (λ os. Begins) (value_from (Literal ∷ Use ∷ [])) Functions
row_of OpFunctionEnd = blocks_row 56 Nothing Closing (λ os. Closes) [] Free
row_of OpVariable = variable_row 59
row_of OpLoad = value_row 61 (Use ∷ OptionalLiteral ∷ []) Loads
row_of OpStore = row 62 Nothing Body (Use ∷ Use ∷ OptionalLiteral ∷ []) Stores
row_of OpAccessChain = value_row 65 (Use ∷ Uses ∷ []) Chains
row_of OpArrayLength = value_row 68 (Use ∷ Literal ∷ []) Lengths
row_of OpExtInst = value_row 12 (Use ∷ Literal ∷ Uses ∷ []) Extends
row_of OpIAdd = computes 128 two AWord AWord
row_of OpISub = computes 130 two AWord AWord
row_of OpIMul = computes 132 two AWord AWord
row_of OpUDiv = computes 134 two AWord AWord
row_of OpUMod = computes 137 two AWord AWord
row_of OpIAddCarry = computes 149 two APair AWord
row_of OpISubBorrow = computes 150 two APair AWord
row_of OpUMulExtended = computes 151 two APair AWord
row_of OpSMulExtended = computes 152 two APair AWord
row_of OpLogicalOr = computes 166 two ATruth ATruth
row_of OpLogicalAnd = computes 167 two ATruth ATruth
row_of OpLogicalNot = computes 168 one ATruth ATruth
row_of OpSelect = value_row 169 three Selects
row_of OpIEqual = computes 170 two ATruth AWord
row_of OpINotEqual = computes 171 two ATruth AWord
row_of OpUGreaterThanEqual = computes 174 two ATruth AWord
row_of OpSGreaterThanEqual = computes 175 two ATruth AWord
row_of OpULessThan = computes 176 two ATruth AWord
row_of OpSLessThan = computes 177 two ATruth AWord
row_of OpShiftRightLogical = computes 194 two AWord AWord
row_of OpShiftRightArithmetic = computes 195 two AWord AWord
row_of OpShiftLeftLogical = computes 196 two AWord AWord
row_of OpBitwiseOr = computes 197 two AWord AWord
row_of OpBitwiseXor = computes 198 two AWord AWord
row_of OpBitwiseAnd = computes 199 two AWord AWord
row_of OpNot = computes 200 one AWord AWord
row_of OpBitFieldInsert = computes 201 four AWord AWord
row_of OpBitFieldSExtract = computes 202 three AWord AWord
row_of OpBitFieldUExtract = computes 203 three AWord AWord
row_of OpBitReverse = computes 204 one AWord AWord
row_of OpBitCount = computes 205 one AWord AWord
row_of OpControlBarrier = row 224 Nothing Body three (Takes AWord)
row_of OpMemoryBarrier = row 225 Nothing Body two (Takes AWord)
row_of OpAtomicExchange = value_row 229 four Atomics
row_of OpAtomicCompareExchange = value_row 230 (Use ∷ Use ∷ four) Atomics
row_of OpAtomicIAdd = value_row 234 four Atomics
row_of OpAtomicISub = value_row 235 four Atomics
row_of OpAtomicSMin = value_row 236 four Atomics
row_of OpAtomicUMin = value_row 237 four Atomics
row_of OpAtomicSMax = value_row 238 four Atomics
row_of OpAtomicUMax = value_row 239 four Atomics
row_of OpAtomicAnd = value_row 240 four Atomics
row_of OpAtomicOr = value_row 241 four Atomics
row_of OpAtomicXor = value_row 242 four Atomics
row_of OpLoopMerge = blocks_row 246 Nothing Body merges_loop (Name ∷ Name ∷ Literal ∷ []) Free
row_of OpSelectionMerge = blocks_row 247 Nothing Body merges (Name ∷ Literal ∷ []) Free
row_of OpLabel = blocks_row 248 ALabel Body labels (Result ∷ []) Free
row_of OpBranch = blocks_row 249 Nothing Body branches (Name ∷ []) Free
row_of OpBranchConditional = blocks_row 250 Nothing Body chooses (Use ∷ Name ∷ Name ∷ []) (Takes ATruth)
row_of OpSwitch = blocks_row 251 Nothing Body switches (Use ∷ Name ∷ Targets ∷ []) (Takes AWord)
row_of OpReturn = blocks_row 253 Nothing Body (λ os. Leave) [] Free
row_of OpUnreachable = blocks_row 255 Nothing Body (λ os. Leave) [] Free

abbrev pub number_of : Op → ℕ
number_of op = (row_of op).number

abbrev pub layout_of : Op → List Part
layout_of op = (row_of op).layout

abbrev pub all_ops : List Op
all_ops =
    OpCapability ∷ OpExtInstImport ∷ OpMemoryModel ∷ OpEntryPoint ∷ OpExecutionMode ∷ OpDecorate ∷ OpMemberDecorate ∷
    OpTypeVoid ∷ OpTypeBool ∷ OpTypeInt ∷ OpTypeVector ∷ OpTypeArray ∷ OpTypeRuntimeArray ∷ OpTypeStruct ∷
    OpTypePointer ∷ OpTypeFunction ∷ OpConstantTrue ∷ OpConstantFalse ∷ OpConstant ∷ OpConstantComposite ∷
    OpConstantNull ∷ OpCompositeConstruct ∷ OpCompositeExtract ∷ OpFunction ∷ OpFunctionEnd ∷ OpVariable ∷ OpLoad ∷
    OpStore ∷ OpAccessChain ∷ OpArrayLength ∷ OpExtInst ∷ OpIAdd ∷ OpISub ∷ OpIMul ∷ OpUDiv ∷ OpUMod ∷ OpIAddCarry ∷
    OpISubBorrow ∷ OpUMulExtended ∷ OpSMulExtended ∷ OpLogicalOr ∷ OpLogicalAnd ∷ OpLogicalNot ∷ OpSelect ∷
    OpIEqual ∷ OpINotEqual ∷ OpUGreaterThanEqual ∷ OpSGreaterThanEqual ∷ OpULessThan ∷ OpSLessThan ∷
    OpShiftRightLogical ∷ OpShiftRightArithmetic ∷ OpShiftLeftLogical ∷ OpBitwiseOr ∷ OpBitwiseXor ∷ OpBitwiseAnd ∷
    OpNot ∷ OpBitFieldInsert ∷ OpBitFieldSExtract ∷ OpBitFieldUExtract ∷ OpBitReverse ∷ OpBitCount ∷
    OpControlBarrier ∷ OpMemoryBarrier ∷ OpAtomicExchange ∷ OpAtomicCompareExchange ∷ OpAtomicIAdd ∷ OpAtomicISub ∷
    OpAtomicSMin ∷ OpAtomicUMin ∷ OpAtomicSMax ∷ OpAtomicUMax ∷ OpAtomicAnd ∷ OpAtomicOr ∷ OpAtomicXor ∷
    OpLoopMerge ∷ OpSelectionMerge ∷ OpLabel ∷ OpBranch ∷ OpBranchConditional ∷ OpSwitch ∷ OpReturn ∷ OpUnreachable ∷ []

-- the instruction of that number among those of a list, and among all
abbrev pub op_among : List Op → ℕ → Option Op
op_among [] n = None
op_among (op ∷ rest) n = if nat_eq (number_of op) n then Some op else op_among rest n

abbrev pub op_of : ℕ → Option Op
op_of n = op_among all_ops n

-- Examples: OpIAdd, the number of no instruction, and an instruction that no module here has (OpPhi).
pub sum : op_of 128 ≡ Some OpIAdd
sum = refl

pub none : op_of 0 ≡ None
none = refl

pub no_phi : op_of 245 ≡ None
no_phi = refl
