-- What the instructions on words and truths compute, modulo 2 ^ 32, in the arithmetic words of the base crate (SPIR-V specification, unified1, sections 3.52.13 to 3.52.15, and
-- the extended instructions GLSL.std.450).
use Rattle.std.specs.Prelude.{ℕ, ◌+◌, ◌-◌, ◌*◌, ◌/◌, ◌%◌, ◌^◌, nat_eq, nat_lt, nat_le, if◌then◌else◌, Bool, ◌&&◌, ◌||◌, not, [], ◌∷◌, Ok, Err}
use Rattle.word_base.specs.Bits.{ones_among, reversed, zeros_above, zeros_below}
use Rattle.word_base.specs.Alu.{all_ones, complement, difference, lifted, widened, shifted_with_sign, and_of, or_of, xor_of, with_sign, with_bits}
use Rattle.spirv_words.specs.Enumerants.{FindILsb, FindSMsb, FindUMsb}
use Rattle.spirv_words.specs.Operations.{Op, OpIAdd, OpISub, OpIMul, OpUDiv, OpUMod, OpIAddCarry, OpISubBorrow, OpUMulExtended, OpSMulExtended, OpLogicalOr, OpLogicalAnd, OpLogicalNot, OpIEqual, OpINotEqual, OpUGreaterThanEqual, OpSGreaterThanEqual, OpULessThan, OpSLessThan, OpShiftRightLogical, OpShiftRightArithmetic, OpShiftLeftLogical, OpBitwiseOr, OpBitwiseXor, OpBitwiseAnd, OpNot, OpBitFieldInsert, OpBitFieldSExtract, OpBitFieldUExtract, OpBitReverse, OpBitCount}
use Rattle.spirv_words.specs.Values.{Value, Word, Truth, Got, of_words}

abbrev pub low_and_high : ℕ → Value
low_and_high x = of_words (x % 2 ^ 32 ∷ x / 2 ^ 32 % 2 ^ 32 ∷ [])

-- so many bits from that one on, with zeros or with the highest of them above
abbrev pub bits_from : ℕ → ℕ → ℕ → ℕ
bits_from x from count = x / 2 ^ from % 2 ^ count

abbrev pub signed_bits_from : ℕ → ℕ → ℕ → ℕ
signed_bits_from x from count = if nat_eq count 0 then 0 else with_sign count (bits_from x from count)

-- the number of the lowest or highest bit that is 1, or 0xFFFFFFFF
abbrev pub lowest_one : ℕ → ℕ
lowest_one x = if nat_eq x 0 then all_ones else zeros_below 32 x

abbrev pub highest_one : ℕ → ℕ
highest_one x = if nat_eq x 0 then all_ones else 31 - zeros_above 32 x

-- a negative word's highest bit that is 0, any other's highest bit that is 1
abbrev pub highest_by_sign : ℕ → ℕ
highest_by_sign x = if nat_lt x (2 ^ 31) then highest_one x else highest_one (complement x)

abbrev pub one_bit : Bool → ℕ
one_bit b = if b then 1 else 0

-- the instructions by what they take
pub data Class : Type 0 where
  Unary : (f : ℕ → Got Value) → Class
  Binary : (f : ℕ → ℕ → Got Value) → Class
  Ternary : (f : ℕ → ℕ → ℕ → Got Value) → Class
  Quaternary : (f : ℕ → ℕ → ℕ → ℕ → Got Value) → Class
  OfTruth : (f : Bool → Bool) → Class
  OfTruths : (f : Bool → Bool → Bool) → Class
  Other : (op : Op) → Class

abbrev pub on_word : (ℕ → ℕ) → Class
on_word f = Unary (λ x. Ok (Word (f x)))

abbrev pub on_words : (ℕ → ℕ → ℕ) → Class
on_words f = Binary (λ x y. Ok (Word (f x y)))

abbrev pub compares : (ℕ → ℕ → Bool) → Class
compares f = Binary (λ x y. Ok (Truth (f x y)))

abbrev pub makes_pair : (ℕ → ℕ → Value) → Class
makes_pair f = Binary (λ x y. Ok (f x y))

-- where the test does not hold, the rule is broken
abbrev pub unless : ℕ → Bool → ℕ → Got Value
unless rule test x = if test then Ok (Word x) else Err rule

abbrev pub class_of : Op → Class
class_of OpIAdd = on_words (λ x y. (x + y) % 2 ^ 32)
class_of OpISub = on_words difference
class_of OpIMul = on_words (λ x y. x * y % 2 ^ 32)
class_of OpUDiv = Binary (λ x y. unless 5 (nat_lt 0 y) (x / y))
class_of OpUMod = Binary (λ x y. unless 5 (nat_lt 0 y) (x % y))
class_of OpIAddCarry = makes_pair (λ x y. low_and_high (x + y))
class_of OpISubBorrow = makes_pair (λ x y. of_words (difference x y ∷ one_bit (nat_lt x y) ∷ []))
class_of OpUMulExtended = makes_pair (λ x y. low_and_high (x * y))
class_of OpSMulExtended = makes_pair (λ x y. low_and_high (widened x * widened y % 2 ^ 64))
class_of OpLogicalOr = OfTruths (λ a b. a || b)
class_of OpLogicalAnd = OfTruths (λ a b. a && b)
class_of OpLogicalNot = OfTruth not
class_of OpIEqual = compares nat_eq
class_of OpINotEqual = compares (λ x y. not (nat_eq x y))
class_of OpUGreaterThanEqual = compares (λ x y. nat_le y x)
class_of OpSGreaterThanEqual = compares (λ x y. nat_le (lifted y) (lifted x))
class_of OpULessThan = compares nat_lt
class_of OpSLessThan = compares (λ x y. nat_lt (lifted x) (lifted y))
class_of OpShiftRightLogical = Binary (λ x n. unless 4 (nat_lt n 32) (x / 2 ^ n))
class_of OpShiftRightArithmetic = Binary (λ x n. unless 4 (nat_lt n 32) (shifted_with_sign x n))
class_of OpShiftLeftLogical = Binary (λ x n. unless 4 (nat_lt n 32) (x * 2 ^ n % 2 ^ 32))
class_of OpBitwiseOr = on_words or_of
class_of OpBitwiseXor = on_words xor_of
class_of OpBitwiseAnd = on_words and_of
class_of OpNot = on_word complement
class_of OpBitReverse = on_word (reversed 32)
class_of OpBitCount = on_word (ones_among 32)
class_of OpBitFieldUExtract = Ternary (λ x from count. unless 6 (nat_le (from + count) 32) (bits_from x from count))
class_of OpBitFieldSExtract = Ternary (λ x from count. unless 6 (nat_le (from + count) 32) (signed_bits_from x from count))
class_of OpBitFieldInsert = Quaternary (λ x insert from count. unless 6 (nat_le (from + count) 32) (with_bits from (from + count) insert x))
class_of op = Other op

-- FindILsb, FindSMsb and FindUMsb of GLSL.std.450, by their numbers
abbrev pub extended : ℕ → ℕ → Got Value
extended n x =
    if nat_eq n FindILsb then Ok (Word (lowest_one x)) else
    if nat_eq n FindSMsb then Ok (Word (highest_by_sign x)) else
    if nat_eq n FindUMsb then Ok (Word (highest_one x)) else
    Err 8
