-- The arithmetic of instructions, on words as numbers below 2 ^ 32. (Shader Model 5 assembly: the instructions of each name.)
use Rattle.std.specs.Prelude.{◌≡◌, ℕ, ◌+◌, ◌-◌, ◌*◌, ◌/◌, ◌%◌, ◌^◌, nat_eq, nat_lt, nat_le, min, max, if◌then◌else◌, Bool, refl}
use Rattle.word_base.specs.Bits.{bit_by_bit, single_bit, ones_among, reversed, zeros_above, zeros_below}
use Rattle.word_base.specs.declared.arithmetic.Unary.{Unary}
use Rattle.word_base.specs.declared.arithmetic.Unary.TheVariants as one
use Rattle.word_base.specs.declared.arithmetic.Binary.{Binary}
use Rattle.word_base.specs.declared.arithmetic.Binary.TheVariants as two
use Rattle.word_base.specs.declared.arithmetic.Ternary.{Ternary}
use Rattle.word_base.specs.declared.arithmetic.Ternary.TheVariants as three
use Rattle.word_base.specs.declared.arithmetic.Paired.{Paired}
use Rattle.word_base.specs.declared.arithmetic.Paired.TheVariants as paired
use Rattle.word_base.specs.declared.event.Act.{Act}
use Rattle.word_base.specs.declared.event.Act.TheVariants as act'

-- 0xFFFFFFFF, all bits 1: the truth of comparisons, and what is found where there is nothing to find
abbrev pub all_ones : ℕ
all_ones = 2 ^ 32 - 1

abbrev pub truth_word : Bool → ℕ
truth_word b = if b then all_ones else 0

abbrev pub complement : ℕ → ℕ
complement a = 2 ^ 32 - 1 - a

abbrev pub difference : ℕ → ℕ → ℕ
difference a b = (a + (2 ^ 32 - b)) % 2 ^ 32

-- A word in the order of the signed values: with the highest bit turned.
abbrev pub lifted : ℕ → ℕ
lifted a = (a + 2 ^ 31) % 2 ^ 32

-- the word as a signed number, in two's complement of 64 bits
abbrev pub widened : ℕ → ℕ
widened a = if nat_lt a (2 ^ 31) then a else a + (2 ^ 64 - 2 ^ 32)

-- to the right by n bits, with the sign from above: of a negative word the zeros of its complement are shifted
abbrev pub shifted_with_sign : ℕ → ℕ → ℕ
shifted_with_sign a n = if nat_lt a (2 ^ 31) then a / 2 ^ n else complement (complement a / 2 ^ n)

abbrev pub greater_signed : ℕ → ℕ → ℕ
greater_signed a b = if nat_lt (lifted a) (lifted b) then b else a

abbrev pub smaller_signed : ℕ → ℕ → ℕ
smaller_signed a b = if nat_lt (lifted b) (lifted a) then b else a

-- And gives 1 where the smaller bit is 1, or where the greater one is.
abbrev pub and_of : ℕ → ℕ → ℕ
and_of a b = bit_by_bit min 32 a b

abbrev pub or_of : ℕ → ℕ → ℕ
or_of a b = bit_by_bit max 32 a b

abbrev pub xor_of : ℕ → ℕ → ℕ
xor_of a b = bit_by_bit single_bit 32 a b

-- the highest one bit counted from above, and the lowest counted from below
abbrev pub first_high : ℕ → ℕ
first_high a = if nat_eq a 0 then all_ones else zeros_above 32 a

abbrev pub first_low : ℕ → ℕ
first_low a = if nat_eq a 0 then all_ones else zeros_below 32 a

-- of a negative word the highest zero bit
abbrev pub first_signed : ℕ → ℕ
first_signed a = if nat_lt a (2 ^ 31) then first_high a else first_high (complement a)

abbrev pub unary : Unary → ℕ → ℕ
unary one.Mov a = a
unary one.Not a = complement a
unary one.Ineg a = difference 0 a
unary one.Bfrev a = reversed 32 a
unary one.Countbits a = ones_among 32 a
unary one.FirstbitHi a = first_high a
unary one.FirstbitLo a = first_low a
unary one.FirstbitShi a = first_signed a

-- shifts look at the lowest five bits of the amount
abbrev pub binary : Binary → ℕ → ℕ → ℕ
binary two.Iadd a b = (a + b) % 2 ^ 32
binary two.And a b = and_of a b
binary two.Or a b = or_of a b
binary two.Xor a b = xor_of a b
binary two.Ishl a b = a * 2 ^ (b % 32) % 2 ^ 32
binary two.Ishr a b = shifted_with_sign a (b % 32)
binary two.Ushr a b = a / 2 ^ (b % 32)
binary two.Ieq a b = truth_word (nat_eq a b)
binary two.Ine a b = if nat_eq a b then 0 else all_ones
binary two.Ige a b = truth_word (nat_le (lifted b) (lifted a))
binary two.Ilt a b = truth_word (nat_lt (lifted a) (lifted b))
binary two.Uge a b = truth_word (nat_le b a)
binary two.Ult a b = truth_word (nat_lt a b)
binary two.Imax a b = greater_signed a b
binary two.Imin a b = smaller_signed a b
binary two.Umax a b = max a b
binary two.Umin a b = min a b

-- A field of w bits from bit o on, w and o below 32: what of it lies in the word, and with its highest bit as sign.
abbrev pub field_value : ℕ → ℕ → ℕ → ℕ
field_value w o v = if nat_eq w 0 then 0 else if nat_lt (w + o) 32 then v / 2 ^ o % 2 ^ w else v / 2 ^ o

abbrev pub with_sign : ℕ → ℕ → ℕ
with_sign w f = if nat_lt f (2 ^ (w - 1)) then f else f + (2 ^ 32 - 2 ^ w)

abbrev pub signed_field_value : ℕ → ℕ → ℕ → ℕ
signed_field_value w o v =
    if nat_eq w 0 then 0 else if nat_lt (w + o) 32 then with_sign w (v / 2 ^ o % 2 ^ w) else shifted_with_sign v o

abbrev pub ternary : Ternary → ℕ → ℕ → ℕ → ℕ
ternary three.Imad a b c = (a * b + c) % 2 ^ 32
ternary three.Umad a b c = (a * b + c) % 2 ^ 32
ternary three.Movc c a b = if nat_eq c 0 then b else a
ternary three.Ubfe w o v = field_value (w % 32) (o % 32) v
ternary three.Ibfe w o v = signed_field_value (w % 32) (o % 32) v

-- A word with the bits from one on up to another taken from the lowest bits of a second word.
abbrev pub with_bits : ℕ → ℕ → ℕ → ℕ → ℕ
with_bits from to inserted base = base % 2 ^ from + inserted % 2 ^ (to - from) * 2 ^ from + base / 2 ^ to * 2 ^ to

-- the bits from o on, w of them, those past bit 31 cut
abbrev pub inserted_field : ℕ → ℕ → ℕ → ℕ → ℕ
inserted_field w o inserted base = with_bits (o % 32) (min (o % 32 + w % 32) 32) inserted base

-- Two words, for two destinations in their order.
pub record Two : Type 0 where
  pub first : ℕ
  pub second : ℕ

abbrev pub both : ℕ → ℕ → Two
both first second = record { first = first; second = second }

abbrev pub high_and_low : ℕ → Two
high_and_low n = both (n / 2 ^ 32) (n % 2 ^ 32)

abbrev pub pair : Paired → ℕ → ℕ → Two
pair paired.Imul a b = high_and_low (widened a * widened b % 2 ^ 64)
pair paired.Umul a b = high_and_low (a * b)
pair paired.Udiv a b = if nat_eq b 0 then both all_ones all_ones else both (a / b) (a % b)
pair paired.Uaddc a b = both ((a + b) % 2 ^ 32) ((a + b) / 2 ^ 32)
pair paired.Usubb a b = both (difference a b) (if nat_lt a b then 1 else 0)

-- The word that an atomic leaves. (Shader Model 5 assembly: the atomic instructions.)
abbrev pub act : Act → ℕ → ℕ → ℕ → ℕ
act act'.Add old a b = (old + a) % 2 ^ 32
act act'.Sub old a b = difference old a
act act'.And old a b = and_of old a
act act'.Or old a b = or_of old a
act act'.Xor old a b = xor_of old a
act act'.SMax old a b = greater_signed old a
act act'.SMin old a b = smaller_signed old a
act act'.UMax old a b = max old a
act act'.UMin old a b = min old a
act act'.Exchange old a b = a
act act'.CompareExchange old a b = if nat_eq old a then b else old

-- Examples: fields at the edge of a word; quotients; products and differences that leave it; the first bits of negative words.
pub signed_edge : ternary three.Ibfe 31 31 0x80000000 ≡ 0xFFFFFFFF
signed_edge = refl

pub no_width : ternary three.Ubfe 32 4 0xFFFFFFFF ≡ 0
no_width = refl

pub cut_field : inserted_field 8 28 0xAB 0x12345678 ≡ 0xB2345678
cut_field = refl

pub quotient_by_zero : pair paired.Udiv 7 0 ≡ both 0xFFFFFFFF 0xFFFFFFFF
quotient_by_zero = refl

pub quotient : pair paired.Udiv 7 3 ≡ both 2 1
quotient = refl

pub signed_product : pair paired.Imul 0xFFFFFFFF 2 ≡ both 0xFFFFFFFF 0xFFFFFFFE
signed_product = refl

pub carry : pair paired.Uaddc 0xFFFFFFFF 1 ≡ both 0 1
carry = refl

pub borrow : pair paired.Usubb 0 1 ≡ both 0xFFFFFFFF 1
borrow = refl

pub first_zero : unary one.FirstbitShi 0xFFFFFFF0 ≡ 28
unfolding zeros_above
first_zero = refl

pub no_zero : unary one.FirstbitShi 0xFFFFFFFF ≡ 0xFFFFFFFF
no_zero = refl

-- Shifts of a negative word; comparisons by sign and by value; an exchange on the expected word and on another.
pub shift_with_sign : binary two.Ishr 0xFFFFFFF0 34 ≡ 0xFFFFFFFC
shift_with_sign = refl

pub shift_with_zeros : binary two.Ushr 0xFFFFFFF0 34 ≡ 0x3FFFFFFC
shift_with_zeros = refl

pub below_by_sign : binary two.Ilt 0xFFFFFFFF 0 ≡ 0xFFFFFFFF
below_by_sign = refl

pub not_below_by_value : binary two.Ult 0xFFFFFFFF 0 ≡ 0
not_below_by_value = refl

pub exchanged : act act'.CompareExchange 5 5 9 ≡ 9
exchanged = refl

pub kept : act act'.CompareExchange 6 5 9 ≡ 6
kept = refl

pub greatest : act act'.SMax 0xFFFFFFFF 3 0 ≡ 3
greatest = refl
