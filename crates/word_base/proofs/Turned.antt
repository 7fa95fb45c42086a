-- Bits in reverse order twice, the first bit by sign, and quotients with their rests.
use Rattle.std.proofs.Common.{◌≡◌, ◌≢◌, ℕ, zero, suc, ◌+◌, ◌*◌, ◌/◌, ◌%◌, ◌<◌, ◌≤◌, ◌^◌, true, false, ◌⊎◌, inl, inr, refl, sym, ap, ◌∙◌, subst, arith}
use Rattle.std.specs.Prelude.{nat_eq, nat_lt}
use Rattle.std.proofs.lemmas.Bool.{cases_lt, lt-ltb, le-ltb, ne_eqb}
use Rattle.std.proofs.lemmas.Nat.{div-add-mod', mod_below}
use Rattle.std.proofs.Math.Nat.{pow-suc}
use Rattle.word_base.specs.Bits.{reversed}
use Rattle.word_base.specs.Alu.{complement, first_high, first_signed, unary, both, pair}
use Rattle.word_base.specs.declared.arithmetic.Unary.TheVariants as one
use Rattle.word_base.specs.declared.arithmetic.Paired.TheVariants as paired

double : (n : ℕ) → 2 ^ suc n ≡ 2 ^ n * 2
double n = pow-suc 2 n

low : (d : ℕ) → d < 2 → (d ≡ 0) ⊎ (d ≡ 1)
low d h = grind arith

-- a bit above n others
bit_below : (d p r : ℕ) → d < 2 → r < p → d * p + r < p * 2
bit_below d p r h k = elim (low d h) [ inl e ↦ subst (λ x. x * p + r < p * 2) (sym e) (omega (arith, k)) | inr e ↦ subst (λ x. x * p + r < p * 2) (sym e) (omega (arith, k)) ]

within : (n a : ℕ) → reversed n a < 2 ^ n
unfolding reversed
within zero a = omega arith
within (suc n) a =
    subst (λ x. a % 2 * 2 ^ n + reversed n (a / 2) < x) (sym (double n)) (bit_below (a % 2) (2 ^ n) (reversed n (a / 2)) (omega arith) (within n (a / 2)))

-- the lowest bit and the half of a number with a bit above n + 1 others
lowest : (d p r : ℕ) → (d * (p * 2) + r) % 2 ≡ r % 2
lowest d p r = omega arith

halved : (d p r : ℕ) → (d * (p * 2) + r) / 2 ≡ d * p + r / 2
halved d p r = omega arith

-- the bit above n others comes to the lowest place
lowered : (n d r : ℕ) → d < 2 → r < 2 ^ n → reversed (suc n) (d * 2 ^ n + r) ≡ reversed n r * 2 + d
unfolding reversed
lowered zero d r h k = omega (arith, h, k)
lowered (suc n) d r h k =
    let e : d * 2 ^ suc n + r ≡ d * (2 ^ n * 2) + r = ap (λ x. d * x + r) (double n) in
    let tail = lowered n d (r / 2) h (omega (arith, k, double n)) in
    ap (reversed (suc (suc n))) e
    ∙ (ap (λ x. x * 2 ^ suc n + reversed (suc n) ((d * (2 ^ n * 2) + r) / 2)) (lowest d (2 ^ n) r)
    ∙ (ap (λ x. r % 2 * 2 ^ suc n + reversed (suc n) x) (halved d (2 ^ n) r)
    ∙ (ap (λ x. r % 2 * 2 ^ suc n + x) tail ∙ (ap (λ x. r % 2 * x + (reversed n (r / 2) * 2 + d)) (double n) ∙ (omega arith)))))

turned_twice : (n a : ℕ) → a < 2 ^ n → reversed n (reversed n a) ≡ a
unfolding reversed
turned_twice zero a h = omega (arith, h)
turned_twice (suc n) a h =
    lowered n (a % 2) (reversed n (a / 2)) (omega arith) (within n (a / 2))
    ∙ (ap (λ x. x * 2 + a % 2) (turned_twice n (a / 2) (omega (arith, h, double n))) ∙ (omega arith))

pub reversed_twice : (a : ℕ) → a < 2 ^ 32 → unary one.Bfrev (unary one.Bfrev a) ≡ a
reversed_twice a h = turned_twice 32 a h

-- the first bit by sign
pub first_of_positive : (a : ℕ) → a < 2 ^ 31 → unary one.FirstbitShi a ≡ unary one.FirstbitHi a
first_of_positive a h = let e : nat_lt a (2 ^ 31) ≡ true = lt-ltb a (2 ^ 31) h in rw e refl

of_negative : (a : ℕ) → 2 ^ 31 ≤ a → first_signed a ≡ first_high (complement a)
of_negative a h = let e : nat_lt a (2 ^ 31) ≡ false = le-ltb a (2 ^ 31) h in rw e refl

back : (a : ℕ) → a < 2 ^ 32 → complement (complement a) ≡ a
back a h = omega (arith, h)

pub first_of_complement : (a : ℕ) → a < 2 ^ 32 → unary one.FirstbitShi (unary one.Not a) ≡ unary one.FirstbitShi a
first_of_complement a h = elim (cases_lt a (2 ^ 31)) [
  | inl b ↦ of_negative (complement a) (omega (arith, b)) ∙ (ap first_high (back a h) ∙ sym (first_of_positive a b))
  | inr b ↦ first_of_positive (complement a) (omega (arith, b, h)) ∙ sym (of_negative a b)
]

-- quotient and rest
by_nonzero : (a b : ℕ) → b ≢ 0 → pair paired.Udiv a b ≡ both (a / b) (a % b)
by_nonzero a b h = let e : nat_eq b 0 ≡ false = ne_eqb b 0 h in rw e refl

pub dividend : (a b : ℕ) → b ≢ 0 → (pair paired.Udiv a b).first * b + (pair paired.Udiv a b).second ≡ a
dividend a b h = ap (λ t. t.first * b + t.second) (by_nonzero a b h) ∙ div-add-mod' a b

pub rest_below : (a b : ℕ) → b ≢ 0 → (pair paired.Udiv a b).second < b
rest_below a b h = subst (λ t. t.second < b) (sym (by_nonzero a b h)) (mod_below a b (omega (arith, h)))
