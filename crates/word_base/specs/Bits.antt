-- The bits of words, one after the other from the lowest: the lowest is the rest by 2, and the others are those of the half.
-- (Shader Model 5 assembly: and, or, xor, bfrev, countbits, firstbit.)
use Rattle.std.specs.Prelude.{◌≡◌, ℕ, zero, suc, ◌+◌, ◌*◌, ◌/◌, ◌%◌, ◌^◌, nat_eq, nat_lt, min, max, if◌then◌else◌, refl}

-- an operation on bits, on each of that many bits of two words
unfoldable pub bit_by_bit : (ℕ → ℕ → ℕ) → ℕ → ℕ → ℕ → ℕ
bit_by_bit f zero a b = 0
bit_by_bit f (suc n) a b = bit_by_bit f n (a / 2) (b / 2) * 2 + f (a % 2) (b % 2)

-- 1 where exactly one of two bits is 1
abbrev pub single_bit : ℕ → ℕ → ℕ
single_bit x y = (x + y) % 2

-- the number of one bits among that many
unfoldable pub ones_among : ℕ → ℕ → ℕ
ones_among zero a = 0
ones_among (suc n) a = a % 2 + ones_among n (a / 2)

-- that many bits in reverse order
unfoldable pub reversed : ℕ → ℕ → ℕ
reversed zero a = 0
reversed (suc n) a = a % 2 * 2 ^ n + reversed n (a / 2)

-- the zero bits above the highest one bit, and below the lowest one bit, of that many
unfoldable pub zeros_above : ℕ → ℕ → ℕ
zeros_above zero a = 0
zeros_above (suc n) a = if nat_lt a (2 ^ n) then zeros_above n a + 1 else 0

unfoldable pub zeros_below : ℕ → ℕ → ℕ
zeros_below zero a = 0
zeros_below (suc n) a = if nat_eq (a % 2) 0 then zeros_below n (a / 2) + 1 else 0

-- Examples: 1100 and 1010 bit by bit; the bits of 22, which is 10110.
pub both : bit_by_bit min 32 12 10 ≡ 8
unfolding bit_by_bit
both = refl

pub either : bit_by_bit max 32 12 10 ≡ 14
unfolding bit_by_bit
either = refl

pub single : bit_by_bit single_bit 32 12 10 ≡ 6
unfolding bit_by_bit
single = refl

pub ones : ones_among 32 22 ≡ 3
unfolding ones_among
ones = refl

pub turned : reversed 32 22 ≡ 0x68000000
unfolding reversed
turned = refl

pub above : zeros_above 32 22 ≡ 27
unfolding zeros_above
above = refl

pub below : zeros_below 32 22 ≡ 1
unfolding zeros_below
below = refl
