-- What instructions on words and truths give, by the texts of their specifications (SPIR-V, unified1, sections 3.52.13 to 3.52.16, and the
-- extended instructions of GLSL.std.450).
use Rattle.std.specs.Prelude.{◌≡◌, ℕ, true, false, List, [], ◌∷◌, map, Option, Some, None, refl}
use Rattle.word_base.specs.Bits.{bit_by_bit, ones_among, reversed, zeros_above, zeros_below}
use Rattle.word_base.specs.Lanes.{Turn, Silent, Wrong}
use Rattle.word_base.specs.declared.event.Ids.{Ids}
use Rattle.spirv_words.specs.Enumerants.{FindILsb, FindSMsb, FindUMsb, glsl_text}
use Rattle.spirv_words.specs.Operations.{OpBitCount, OpBitFieldInsert, OpBitFieldSExtract, OpBitFieldUExtract, OpBitReverse, OpBitwiseAnd, OpBitwiseOr, OpBitwiseXor, OpConstant, OpConstantFalse, OpConstantTrue, OpExtInst, OpExtInstImport, OpFunction, OpIAdd, OpIAddCarry, OpIEqual, OpIMul, OpINotEqual, OpISub, OpISubBorrow, OpLabel, OpLogicalAnd, OpLogicalNot, OpLogicalOr, OpNot, OpSGreaterThanEqual, OpSLessThan, OpSMulExtended, OpSelect, OpShiftLeftLogical, OpShiftRightArithmetic, OpShiftRightLogical, OpTypeBool, OpTypeInt, OpTypeStruct, OpUDiv, OpUGreaterThanEqual, OpULessThan, OpUMod, OpUMulExtended}
use Rattle.spirv_words.specs.Text.{Instr, instruction}
use Rattle.spirv_words.specs.Values.{Value, Word, Truth, of_words}
use Rattle.spirv_words.specs.Globals.{Machine}
use Rattle.spirv_words.specs.Lane.{State, step}
use Rattle.spirv_words.specs.LaneExamples.{at}

-- Types: 4 truths, 5 words, 10 pairs of words. Constants: 6 the true one, 7 the false one, 20 the word 0xF0, 21 the word of -2, 22 the word
-- 3, 23 the word 0, 24 the word of -1, 25 the word 4. Each instruction of the body has the result 40.
abbrev pub computing : List Instr
computing =
    instruction OpExtInstImport (1 ∷ glsl_text) ∷ instruction OpTypeBool (4 ∷ []) ∷
    instruction OpTypeInt (5 ∷ 32 ∷ 0 ∷ []) ∷ instruction OpTypeStruct (10 ∷ 5 ∷ 5 ∷ []) ∷
    instruction OpConstantTrue (4 ∷ 6 ∷ []) ∷ instruction OpConstantFalse (4 ∷ 7 ∷ []) ∷
    instruction OpConstant (5 ∷ 20 ∷ 0xF0 ∷ []) ∷ instruction OpConstant (5 ∷ 21 ∷ 0xFFFFFFFE ∷ []) ∷
    instruction OpConstant (5 ∷ 22 ∷ 3 ∷ []) ∷ instruction OpConstant (5 ∷ 23 ∷ 0 ∷ []) ∷
    instruction OpConstant (5 ∷ 24 ∷ 0xFFFFFFFF ∷ []) ∷ instruction OpConstant (5 ∷ 25 ∷ 4 ∷ []) ∷
    instruction OpFunction (2 ∷ 100 ∷ 0 ∷ 3 ∷ []) ∷ instruction OpLabel (101 ∷ []) ∷  -- 0 to 13
    instruction OpExtInst (5 ∷ 40 ∷ 1 ∷ FindILsb ∷ 20 ∷ []) ∷
    instruction OpExtInst (5 ∷ 40 ∷ 1 ∷ FindILsb ∷ 23 ∷ []) ∷  -- 14 to 15
    instruction OpExtInst (5 ∷ 40 ∷ 1 ∷ FindUMsb ∷ 20 ∷ []) ∷
    instruction OpExtInst (5 ∷ 40 ∷ 1 ∷ FindUMsb ∷ 21 ∷ []) ∷
    instruction OpExtInst (5 ∷ 40 ∷ 1 ∷ FindUMsb ∷ 23 ∷ []) ∷  -- 16 to 18
    instruction OpExtInst (5 ∷ 40 ∷ 1 ∷ FindSMsb ∷ 20 ∷ []) ∷
    instruction OpExtInst (5 ∷ 40 ∷ 1 ∷ FindSMsb ∷ 21 ∷ []) ∷
    instruction OpExtInst (5 ∷ 40 ∷ 1 ∷ FindSMsb ∷ 23 ∷ []) ∷
    instruction OpExtInst (5 ∷ 40 ∷ 1 ∷ FindSMsb ∷ 24 ∷ []) ∷  -- 19 to 22
    instruction OpSelect (5 ∷ 40 ∷ 6 ∷ 20 ∷ 22 ∷ []) ∷ instruction OpSelect (5 ∷ 40 ∷ 7 ∷ 20 ∷ 22 ∷ []) ∷  -- 23 to 24
    instruction OpIAddCarry (10 ∷ 40 ∷ 21 ∷ 22 ∷ []) ∷ instruction OpIAddCarry (10 ∷ 40 ∷ 20 ∷ 22 ∷ []) ∷
    instruction OpISubBorrow (10 ∷ 40 ∷ 22 ∷ 21 ∷ []) ∷ instruction OpISubBorrow (10 ∷ 40 ∷ 21 ∷ 22 ∷ []) ∷
    instruction OpUMulExtended (10 ∷ 40 ∷ 21 ∷ 22 ∷ []) ∷ instruction OpSMulExtended (10 ∷ 40 ∷ 21 ∷ 22 ∷ []) ∷  -- 25 to 30
    instruction OpLogicalAnd (4 ∷ 40 ∷ 6 ∷ 7 ∷ []) ∷ instruction OpLogicalAnd (4 ∷ 40 ∷ 6 ∷ 6 ∷ []) ∷
    instruction OpLogicalOr (4 ∷ 40 ∷ 6 ∷ 7 ∷ []) ∷ instruction OpLogicalOr (4 ∷ 40 ∷ 7 ∷ 7 ∷ []) ∷
    instruction OpLogicalNot (4 ∷ 40 ∷ 6 ∷ []) ∷  -- 31 to 35
    instruction OpNot (5 ∷ 40 ∷ 20 ∷ []) ∷ instruction OpBitReverse (5 ∷ 40 ∷ 22 ∷ []) ∷
    instruction OpBitCount (5 ∷ 40 ∷ 20 ∷ []) ∷ instruction OpBitwiseAnd (5 ∷ 40 ∷ 20 ∷ 21 ∷ []) ∷
    instruction OpBitwiseOr (5 ∷ 40 ∷ 20 ∷ 22 ∷ []) ∷ instruction OpBitwiseXor (5 ∷ 40 ∷ 20 ∷ 24 ∷ []) ∷  -- 36 to 41
    instruction OpBitFieldUExtract (5 ∷ 40 ∷ 20 ∷ 25 ∷ 25 ∷ []) ∷
    instruction OpBitFieldSExtract (5 ∷ 40 ∷ 20 ∷ 25 ∷ 25 ∷ []) ∷
    instruction OpBitFieldSExtract (5 ∷ 40 ∷ 20 ∷ 25 ∷ 23 ∷ []) ∷
    instruction OpBitFieldInsert (5 ∷ 40 ∷ 20 ∷ 22 ∷ 25 ∷ 25 ∷ []) ∷  -- 42 to 45
    instruction OpSLessThan (4 ∷ 40 ∷ 21 ∷ 22 ∷ []) ∷ instruction OpULessThan (4 ∷ 40 ∷ 21 ∷ 22 ∷ []) ∷
    instruction OpSGreaterThanEqual (4 ∷ 40 ∷ 21 ∷ 22 ∷ []) ∷
    instruction OpUGreaterThanEqual (4 ∷ 40 ∷ 21 ∷ 22 ∷ []) ∷ instruction OpIEqual (4 ∷ 40 ∷ 21 ∷ 21 ∷ []) ∷
    instruction OpINotEqual (4 ∷ 40 ∷ 21 ∷ 21 ∷ []) ∷  -- 46 to 51
    instruction OpShiftRightLogical (5 ∷ 40 ∷ 20 ∷ 22 ∷ []) ∷
    instruction OpShiftRightArithmetic (5 ∷ 40 ∷ 21 ∷ 22 ∷ []) ∷
    instruction OpShiftLeftLogical (5 ∷ 40 ∷ 21 ∷ 22 ∷ []) ∷ instruction OpUDiv (5 ∷ 40 ∷ 20 ∷ 25 ∷ []) ∷
    instruction OpUMod (5 ∷ 40 ∷ 24 ∷ 25 ∷ []) ∷ instruction OpIAdd (5 ∷ 40 ∷ 21 ∷ 22 ∷ []) ∷
    instruction OpISub (5 ∷ 40 ∷ 22 ∷ 25 ∷ []) ∷ instruction OpIMul (5 ∷ 40 ∷ 21 ∷ 22 ∷ []) ∷  -- 52 to 59
    instruction OpShiftLeftLogical (5 ∷ 40 ∷ 22 ∷ 20 ∷ []) ∷ instruction OpUDiv (5 ∷ 40 ∷ 22 ∷ 23 ∷ []) ∷
    instruction OpUMod (5 ∷ 40 ∷ 22 ∷ 23 ∷ []) ∷ instruction OpBitFieldUExtract (5 ∷ 40 ∷ 22 ∷ 20 ∷ 25 ∷ []) ∷ []  -- 60 to 63

abbrev pub computer : Ids → Machine
computer ids = record {
  code = computing;
  places = record { rooms = []; slots = []; pushes = []; shared = [] };
  setting = record { ids = ids; constants = λ slot. []; extent = λ room. 0 };
}

-- what the instruction at a place gives, and the rule that it breaks
abbrev pub result_of : Turn State → Option Value
result_of (Silent s) = s.values 40
result_of turn = None

abbrev pub rule_of : Turn State → Option ℕ
rule_of (Wrong place rule) = Some rule
rule_of turn = None

abbrev pub results : Ids → List ℕ → List (Option Value)
results ids places = map (λ k. result_of (step (computer ids) (at (computer ids) k))) places

-- FindILsb: the number of the lowest bit that is 1, and -1 where there is none.
pub lowest_bits : (ids : Ids) → results ids (14 ∷ 15 ∷ []) ≡
    Some (Word 4) ∷ Some (Word 0xFFFFFFFF) ∷ []
unfolding zeros_below
lowest_bits ids = refl

-- FindUMsb: the number of the highest bit that is 1, and -1 where there is none.
pub highest_bits : (ids : Ids) → results ids (16 ∷ 17 ∷ 18 ∷ []) ≡
    Some (Word 7) ∷ Some (Word 31) ∷ Some (Word 0xFFFFFFFF) ∷ []
unfolding zeros_above
highest_bits ids = refl

-- FindSMsb: of a positive number the highest bit that is 1, of a negative one the highest bit that is 0, and -1 of 0 and of -1.
pub signed_bits : (ids : Ids) → results ids (19 ∷ 20 ∷ 21 ∷ 22 ∷ []) ≡
    Some (Word 7) ∷ Some (Word 0) ∷ Some (Word 0xFFFFFFFF) ∷ Some (Word 0xFFFFFFFF) ∷ []
unfolding zeros_above
signed_bits ids = refl

-- OpSelect: its second object where the condition is true, else its third.
pub selected : (ids : Ids) → results ids (23 ∷ 24 ∷ []) ≡ Some (Word 0xF0) ∷ Some (Word 3) ∷ []
selected ids = refl

-- The low word of the sum and its carry; the difference and its borrow; the low and the high word of the product, without and with sign.
pub pairs :
    (ids : Ids) → results ids (25 ∷ 26 ∷ 27 ∷ 28 ∷ 29 ∷ 30 ∷ []) ≡
    Some (of_words (1 ∷ 1 ∷ [])) ∷ Some (of_words (0xF3 ∷ 0 ∷ [])) ∷ Some (of_words (5 ∷ 1 ∷ [])) ∷ Some (of_words (0xFFFFFFFB ∷ 0 ∷ [])) ∷ Some (of_words (0xFFFFFFFA ∷ 2 ∷ [])) ∷ Some (of_words (0xFFFFFFFA ∷ 0xFFFFFFFF ∷ [])) ∷ []
pairs ids = refl

-- OpLogicalAnd, OpLogicalOr and OpLogicalNot.
pub truths : (ids : Ids) → results ids (31 ∷ 32 ∷ 33 ∷ 34 ∷ 35 ∷ []) ≡
    Some (Truth false) ∷ Some (Truth true) ∷ Some (Truth true) ∷ Some (Truth false) ∷ Some (Truth false) ∷ []
truths ids = refl

-- OpNot, OpBitReverse, OpBitCount; OpBitwiseAnd, OpBitwiseOr and OpBitwiseXor.
pub bits : (ids : Ids) → results ids (36 ∷ 37 ∷ 38 ∷ 39 ∷ 40 ∷ 41 ∷ []) ≡
    Some (Word 0xFFFFFF0F) ∷ Some (Word 0xC0000000) ∷ Some (Word 4) ∷ Some (Word 0xF0) ∷ Some (Word 0xF3) ∷
    Some (Word 0xFFFFFF0F) ∷ []
unfolding reversed ones_among bit_by_bit
bits ids = refl

-- OpBitFieldUExtract and OpBitFieldSExtract of four bits from bit 4 on, and of none; OpBitFieldInsert of the word 3 there.
pub fields : (ids : Ids) → results ids (42 ∷ 43 ∷ 44 ∷ 45 ∷ []) ≡
    Some (Word 0xF) ∷ Some (Word 0xFFFFFFFF) ∷ Some (Word 0) ∷ Some (Word 0x30) ∷ []
fields ids = refl

-- Orders with and without sign: -2 and 3.
pub orders :
    (ids : Ids) → results ids (46 ∷ 47 ∷ 48 ∷ 49 ∷ 50 ∷ 51 ∷ []) ≡
    Some (Truth true) ∷ Some (Truth false) ∷ Some (Truth false) ∷ Some (Truth true) ∷ Some (Truth true) ∷ Some (Truth false) ∷ []
orders ids = refl

-- Shifts of 0xF0 and of -2 by 3, with zeros and with the sign; OpUDiv and OpUMod by 4; sums, differences and products modulo 2 ^ 32.
pub shifts :
    (ids : Ids) → results ids (52 ∷ 53 ∷ 54 ∷ 55 ∷ 56 ∷ 57 ∷ 58 ∷ 59 ∷ []) ≡
    Some (Word 0x1E) ∷ Some (Word 0xFFFFFFFF) ∷ Some (Word 0xFFFFFFF0) ∷ Some (Word 0x3C) ∷ Some (Word 3) ∷ Some (Word 1) ∷ Some (Word 0xFFFFFFFF) ∷ Some (Word 0xFFFFFFFA) ∷ []
shifts ids = refl

-- A shift by 32 or more (rule 4), a quotient and a rest by 0 (rule 5), a field past bit 31 (rule 6).
pub wrongs : (ids : Ids) → map (λ k. rule_of (step (computer ids) (at (computer ids) k))) (60 ∷ 61 ∷ 62 ∷ 63 ∷ []) ≡
    Some 4 ∷ Some 5 ∷ Some 5 ∷ Some 6 ∷ []
wrongs ids = refl
