-- The operations on bits are those of the standard library.
use Rattle.std.proofs.Common.{◌≡◌, ℕ, zero, suc, ◌+◌, ◌*◌, ◌/◌, ◌%◌, ◌<◌, ◌≤◌, ◌^◌, min, max, pow_mono, inl, inr, refl, sym, ap, ◌∙◌, arith}
use Rattle.std.specs.Prelude.{bit_and, bit_or, bit_xor, count_ones, nat_eq, nat_lt, if◌then◌else◌}
use Rattle.std.specs.Int.{w32, reverse_bits, reverse_bits_onto, leading_zeros, trailing_zeros}
use Rattle.std.specs.Int.Count.{ones, ones_step, count_trailing_zeros, under}
use Rattle.std.specs.Int.Bits.{and_step, or_step, xor_step, differ}
use Rattle.std.proofs.lemmas.Nat.{leading_top}
use Rattle.std.proofs.lemmas.Bool.{cases_lt}
use Rattle.std.proofs.Math.Nat.{pow-suc}
use Rattle.word_base.specs.Bits.{bit_by_bit, single_bit, ones_among, reversed, zeros_above, zeros_below}
use Rattle.word_base.specs.Alu.{and_of, or_of, xor_of}

double : (n : ℕ) → 2 ^ suc n ≡ 2 ^ n * 2
double n = pow-suc 2 n

below_power : (a j n : ℕ) → 2 ^ j ≤ a → a < 2 ^ n → j < n
below_power a j n l h = elim (cases_lt j n) [ inl b ↦ b | inr b ↦ absurd (let m : 2 ^ n ≤ 2 ^ j = pow_mono b in omega (arith, m)) ]

half : (n a : ℕ) → a < 2 ^ suc n → a / 2 < 2 ^ n
half n a h = omega (arith, double n)

nothing : (a : ℕ) → a < 2 ^ 0 → 0 ≡ a
nothing a h = omega arith

pub and_among : (n a b : ℕ) → a < 2 ^ n → bit_by_bit min n a b ≡ bit_and a b
unfolding bit_by_bit
and_among zero a b h = ap (λ x. bit_and x b) (nothing a h)
and_among (suc n) a b h = ap (λ x. x * 2 + min (a % 2) (b % 2)) (and_among n (a / 2) (b / 2) (half n a h)) ∙ sym (and_step a b)

pub or_among : (n a b : ℕ) → a < 2 ^ n → b < 2 ^ n → bit_by_bit max n a b ≡ bit_or a b
unfolding bit_by_bit
or_among zero a b h k = nothing b k ∙ ap (λ x. bit_or x b) (nothing a h)
or_among (suc n) a b h k = ap (λ x. x * 2 + max (a % 2) (b % 2)) (or_among n (a / 2) (b / 2) (half n a h) (half n b k)) ∙ sym (or_step a b)

differs : (x y : ℕ) → x < 2 → y < 2 → single_bit x y ≡ differ x y
differs zero zero h k = refl
differs zero (suc zero) h k = refl
differs zero (suc (suc y)) h k = absurd (omega arith)
differs (suc zero) zero h k = refl
differs (suc (suc x)) zero h k = absurd (omega arith)
differs (suc zero) (suc zero) h k = refl
differs (suc zero) (suc (suc y)) h k = absurd (omega arith)
differs (suc (suc x)) (suc y) h k = absurd (omega arith)

pub xor_among : (n a b : ℕ) → a < 2 ^ n → b < 2 ^ n → bit_by_bit single_bit n a b ≡ bit_xor a b
unfolding bit_by_bit
xor_among zero a b h k = nothing b k ∙ ap (λ x. bit_xor x b) (nothing a h)
xor_among (suc n) a b h k =
    ap (λ x. x * 2 + (a % 2 + b % 2) % 2) (xor_among n (a / 2) (b / 2) (half n a h) (half n b k))
    ∙ ap (λ x. bit_xor (a / 2) (b / 2) * 2 + x) (differs (a % 2) (b % 2) (omega arith) (omega arith)) ∙ sym (xor_step a b)

pub ones_are : (n a : ℕ) → a < 2 ^ n → ones_among n a ≡ count_ones a
unfolding ones_among ones
ones_are zero a h = ap count_ones (nothing a h)
ones_are (suc n) a h = ap (λ x. a % 2 + x) (ones_are n (a / 2) (half n a h)) ∙ sym (ones_step a)

shifted : (b r p q t : ℕ) → p ≡ q * 2 → (b * 2 + r) * q + t ≡ b * p + (r * q + t)
shifted b r p q t e = grind arith

onto : (n a b : ℕ) → reverse_bits_onto n a b ≡ b * 2 ^ n + reversed n a
unfolding reversed reverse_bits_onto
onto zero a b = omega arith
onto (suc n) a b = onto n (a / 2) (b * 2 + a % 2) ∙ shifted b (a % 2) (2 ^ suc n) (2 ^ n) (reversed n (a / 2)) (double n)

pub reversed_is : (a : ℕ) → reversed 32 a ≡ reverse_bits w32 a
reversed_is a = let e = onto 32 a 0 in omega (arith, e)

under_is : (d t u : ℕ) → t ≡ u → (if nat_eq d 0 then t + 1 else 0) ≡ under d u
under_is zero t u e = omega arith
under_is (suc d) t u e = grind arith

pub below_among : (n a : ℕ) → zeros_below n a ≡ count_trailing_zeros n a
unfolding zeros_below count_trailing_zeros
below_among zero a = refl
below_among (suc n) a = under_is (a % 2) _ _ (below_among n (a / 2))

choice : (a p z j n : ℕ) → (a < p → z + suc j ≡ n) → (p ≤ a → j ≡ n) → (if nat_lt a p then z + 1 else 0) + suc j ≡ suc n
choice a p z j n f g = grind arith

pub above_among : (n a j : ℕ) → 2 ^ j ≤ a → a < 2 ^ suc j → j < n → zeros_above n a + suc j ≡ n
unfolding zeros_above
above_among zero a j l h k = absurd (omega arith)
above_among (suc n) a j l h k =
    choice a (2 ^ n) (zeros_above n a) j n
    (λ b. above_among n a j l h (below_power a j n l b))
    (λ b. let m = below_power a n (suc j) b h in omega arith)

-- the words
pub and_is : (a b : ℕ) → a < 2 ^ 32 → and_of a b ≡ bit_and a b
and_is a b h = and_among 32 a b h

pub or_is : (a b : ℕ) → a < 2 ^ 32 → b < 2 ^ 32 → or_of a b ≡ bit_or a b
or_is a b h k = or_among 32 a b h k

pub xor_is : (a b : ℕ) → a < 2 ^ 32 → b < 2 ^ 32 → xor_of a b ≡ bit_xor a b
xor_is a b h k = xor_among 32 a b h k

pub ones_is : (a : ℕ) → a < 2 ^ 32 → ones_among 32 a ≡ count_ones a
ones_is a h = ones_are 32 a h

pub above_is : (a : ℕ) → 0 < a → a < 2 ^ 32 → zeros_above 32 a ≡ leading_zeros w32 a
above_is a p h =
    let t = leading_top 32 a p h in
    let e = above_among 32 a t.0 t.2 t.3 (omega (arith, t.1)) in
    omega (arith, e, t.1)

pub below_is : (a : ℕ) → 0 < a → a < 2 ^ 32 → zeros_below 32 a ≡ trailing_zeros w32 a
below_is a p h = below_among 32 a
