-- The results of the arithmetic are words.
use Rattle.std.proofs.Common.{ℕ, zero, suc, ◌+◌, ◌-◌, ◌*◌, ◌/◌, ◌%◌, ◌<◌, ◌≤◌, ◌^◌, min, max, Bool, true, false, pow_mono, sym, subst, arith}
use Rattle.std.specs.Prelude.{nat_eq, nat_lt, if◌then◌else◌}
use Rattle.std.proofs.lemmas.Nat.{mul-lt, mod_below, pow_pos}
use Rattle.std.proofs.Math.Nat.{pow-suc, div-le_self, mod-le}
use Rattle.word_base.specs.Bits.{bit_by_bit, single_bit, ones_among, reversed, zeros_above, zeros_below}
use Rattle.word_base.specs.Alu.{all_ones, truth_word, complement, difference, shifted_with_sign, and_of, or_of, xor_of, first_high, first_low, unary, binary, field_value, signed_field_value, with_sign, ternary, inserted_field, Two, both, pair, act}
use Rattle.word_base.specs.declared.arithmetic.Unary.{Unary}
use Rattle.word_base.specs.declared.arithmetic.Unary.TheVariants as one
use Rattle.word_base.specs.declared.arithmetic.Binary.{Binary}
use Rattle.word_base.specs.declared.arithmetic.Binary.TheVariants as two
use Rattle.word_base.specs.declared.arithmetic.Ternary.{Ternary}
use Rattle.word_base.specs.declared.arithmetic.Ternary.TheVariants as three
use Rattle.word_base.specs.declared.arithmetic.Paired.{Paired}
use Rattle.word_base.specs.declared.arithmetic.Paired.TheVariants as paired
use Rattle.word_base.specs.declared.event.Act.{Act}
use Rattle.word_base.specs.declared.event.Act.TheVariants as act'
use Rattle.word_base.proofs.Fields.{fits}

-- one of two words
either : (b : Bool) (x y : ℕ) → x < 2 ^ 32 → y < 2 ^ 32 → (if b then x else y) < 2 ^ 32
either true x y h k = h
either false x y h k = k

ones_word : all_ones < 2 ^ 32
ones_word = omega arith

quotient : (a b : ℕ) → a < 2 ^ 32 → a / b < 2 ^ 32
quotient a b h = let e = div-le_self a b in omega (arith, e)

rest : (a b : ℕ) → a < 2 ^ 32 → a % b < 2 ^ 32
rest a b h = let e = mod-le a b in omega (arith, e)

complement_word : (a : ℕ) → complement a < 2 ^ 32
complement_word a = omega arith

difference_word : (a b : ℕ) → difference a b < 2 ^ 32
difference_word a b = omega arith

signed_shift : (a n : ℕ) → a < 2 ^ 32 → shifted_with_sign a n < 2 ^ 32
signed_shift a n h = either (nat_lt a (2 ^ 31)) _ _ (quotient a (2 ^ n) h) (complement_word _)

-- bits
digit : (d p r : ℕ) → d < 2 → r < p → d * p + r < p * 2
digit zero p r h k = omega arith
digit (suc zero) p r h k = omega arith
digit (suc (suc d)) p r h k = absurd (omega arith)

reversed_below : (n a : ℕ) → reversed n a < 2 ^ n
unfolding reversed
reversed_below zero a = omega arith
reversed_below (suc n) a = subst (λ x. a % 2 * 2 ^ n + reversed n (a / 2) < x) (sym (pow-suc 2 n)) (digit (a % 2) (2 ^ n) (reversed n (a / 2)) (omega arith) (reversed_below n (a / 2)))

ones_below : (n a : ℕ) → ones_among n a ≤ n
unfolding ones_among
ones_below zero a = omega arith
ones_below (suc n) a = let e = ones_below n (a / 2) in omega (arith, e)

counted : (b : Bool) (z n : ℕ) → z ≤ n → (if b then z + 1 else 0) ≤ suc n
counted true z n h = omega arith
counted false z n h = omega arith

above_below : (n a : ℕ) → zeros_above n a ≤ n
unfolding zeros_above
above_below zero a = omega arith
above_below (suc n) a = counted (nat_lt a (2 ^ n)) (zeros_above n a) n (above_below n a)

below_below : (n a : ℕ) → zeros_below n a ≤ n
unfolding zeros_below
below_below zero a = omega arith
below_below (suc n) a = counted (nat_eq (a % 2) 0) (zeros_below n (a / 2)) n (below_below n (a / 2))

bits_below : (f : ℕ → ℕ → ℕ) → ((x y : ℕ) → x < 2 → y < 2 → f x y < 2) → (n a b : ℕ) → bit_by_bit f n a b < 2 ^ n
unfolding bit_by_bit
bits_below f h zero a b = omega arith
bits_below f h (suc n) a b =
    let e = bits_below f h n (a / 2) (b / 2) in
    let d = h (a % 2) (b % 2) (omega arith) (omega arith) in
    subst (λ x. bit_by_bit f n (a / 2) (b / 2) * 2 + f (a % 2) (b % 2) < x) (sym (pow-suc 2 n)) (omega (arith, e, d))

and_word : (a b : ℕ) → and_of a b < 2 ^ 32
and_word a b = bits_below min (λ x y h k. omega arith) 32 a b

or_word : (a b : ℕ) → or_of a b < 2 ^ 32
or_word a b = bits_below max (λ x y h k. omega arith) 32 a b

xor_word : (a b : ℕ) → xor_of a b < 2 ^ 32
xor_word a b = bits_below single_bit (λ x y h k. omega arith) 32 a b

high_word : (a : ℕ) → first_high a < 2 ^ 32
high_word a = either (nat_eq a 0) _ _ ones_word (let e = above_below 32 a in omega (arith, e))

low_word : (a : ℕ) → first_low a < 2 ^ 32
low_word a = either (nat_eq a 0) _ _ ones_word (let e = below_below 32 a in omega (arith, e))

pub unary_word : (op : Unary) (a : ℕ) → a < 2 ^ 32 → unary op a < 2 ^ 32
unary_word one.Mov a h = h
unary_word one.Not a h = complement_word a
unary_word one.Ineg a h = difference_word 0 a
unary_word one.Bfrev a h = reversed_below 32 a
unary_word one.Countbits a h = let e = ones_below 32 a in omega (arith, e)
unary_word one.FirstbitHi a h = high_word a
unary_word one.FirstbitLo a h = low_word a
unary_word one.FirstbitShi a h = either (nat_lt a (2 ^ 31)) _ _ (high_word a) (high_word (complement a))

truth_below : (b : Bool) → truth_word b < 2 ^ 32
truth_below b = either b _ _ ones_word (omega arith)

pub binary_word : (op : Binary) (a b : ℕ) → a < 2 ^ 32 → b < 2 ^ 32 → binary op a b < 2 ^ 32
binary_word two.Iadd a b h k = omega arith
binary_word two.And a b h k = and_word a b
binary_word two.Or a b h k = or_word a b
binary_word two.Xor a b h k = xor_word a b
binary_word two.Ishl a b h k = mod_below _ _ (omega arith)
binary_word two.Ishr a b h k = signed_shift a (b % 32) h
binary_word two.Ushr a b h k = quotient a (2 ^ (b % 32)) h
binary_word two.Ieq a b h k = truth_below _
binary_word two.Ine a b h k = either (nat_eq a b) _ _ (omega arith) ones_word
binary_word two.Ige a b h k = truth_below _
binary_word two.Ilt a b h k = truth_below _
binary_word two.Uge a b h k = truth_below _
binary_word two.Ult a b h k = truth_below _
binary_word two.Imax a b h k = either _ b a k h
binary_word two.Imin a b h k = either _ b a k h
binary_word two.Umax a b h k = omega arith
binary_word two.Umin a b h k = omega arith

sign_word : (w f : ℕ) → w ≤ 32 → f < 2 ^ w → f < 2 ^ 32 → with_sign w f < 2 ^ 32
sign_word w f h k l = either (nat_lt f (2 ^ (w - 1))) _ _ l (let e : 2 ^ w ≤ 2 ^ 32 = pow_mono h in omega (arith, e))

field_word : (w o v : ℕ) → v < 2 ^ 32 → field_value w o v < 2 ^ 32
field_word w o v h =
    either (nat_eq w 0) _ _ (omega arith) (either (nat_lt (w + o) 32) _ _ (rest _ (2 ^ w) (quotient v (2 ^ o) h)) (quotient v (2 ^ o) h))

signed_field_word : (w o v : ℕ) → w ≤ 32 → v < 2 ^ 32 → signed_field_value w o v < 2 ^ 32
signed_field_word w o v k h =
    either (nat_eq w 0) _ _ (omega arith)
    (either (nat_lt (w + o) 32) _ _ (sign_word w _ k (mod_below _ _ (pow_pos w)) (rest _ (2 ^ w) (quotient v (2 ^ o) h))) (signed_shift v o h))

pub ternary_word : (op : Ternary) (a b c : ℕ) → a < 2 ^ 32 → b < 2 ^ 32 → c < 2 ^ 32 → ternary op a b c < 2 ^ 32
ternary_word three.Imad a b c h k l = mod_below _ _ (omega arith)
ternary_word three.Umad a b c h k l = mod_below _ _ (omega arith)
ternary_word three.Movc a b c h k l = either (nat_eq a 0) c b l k
ternary_word three.Ubfe a b c h k l = field_word (a % 32) (b % 32) c l
ternary_word three.Ibfe a b c h k l = signed_field_word (a % 32) (b % 32) c (omega arith) l

pub insert_word : (w o inserted base : ℕ) → base < 2 ^ 32 → inserted_field w o inserted base < 2 ^ 32
insert_word w o inserted base h = fits (o % 32) (min (o % 32 + w % 32) 32) inserted base (omega arith) (omega arith) h

either_first : (b : Bool) (x y : Two) → x.first < 2 ^ 32 → y.first < 2 ^ 32 → (if b then x else y).first < 2 ^ 32
either_first true x y h k = h
either_first false x y h k = k

either_second : (b : Bool) (x y : Two) → x.second < 2 ^ 32 → y.second < 2 ^ 32 → (if b then x else y).second < 2 ^ 32
either_second true x y h k = h
either_second false x y h k = k

upper : (n : ℕ) → n < 2 ^ 64 → n / 2 ^ 32 < 2 ^ 32
upper n h = omega arith

pub first_word : (op : Paired) (a b : ℕ) → a < 2 ^ 32 → b < 2 ^ 32 → (pair op a b).first < 2 ^ 32
first_word paired.Imul a b h k = upper _ (mod_below _ _ (omega arith))
first_word paired.Umul a b h k = upper _ (mul-lt a b (2 ^ 32) (2 ^ 32) h k)
first_word paired.Udiv a b h k = either_first (nat_eq b 0) (both all_ones all_ones) (both (a / b) (a % b)) ones_word (quotient a b h)
first_word paired.Uaddc a b h k = omega arith
first_word paired.Usubb a b h k = difference_word a b

pub second_word : (op : Paired) (a b : ℕ) → a < 2 ^ 32 → b < 2 ^ 32 → (pair op a b).second < 2 ^ 32
second_word paired.Imul a b h k = mod_below _ _ (omega arith)
second_word paired.Umul a b h k = mod_below _ _ (omega arith)
second_word paired.Udiv a b h k = either_second (nat_eq b 0) (both all_ones all_ones) (both (a / b) (a % b)) ones_word (rest a b h)
second_word paired.Uaddc a b h k = omega arith
second_word paired.Usubb a b h k = either (nat_lt a b) 1 0 (omega arith) (omega arith)

pub act_word : (kind : Act) (old a b : ℕ) → old < 2 ^ 32 → a < 2 ^ 32 → b < 2 ^ 32 → act kind old a b < 2 ^ 32
act_word act'.Add old a b h k l = omega arith
act_word act'.Sub old a b h k l = difference_word old a
act_word act'.And old a b h k l = and_word old a
act_word act'.Or old a b h k l = or_word old a
act_word act'.Xor old a b h k l = xor_word old a
act_word act'.SMax old a b h k l = either _ a old k h
act_word act'.SMin old a b h k l = either _ a old k h
act_word act'.UMax old a b h k l = omega arith
act_word act'.UMin old a b h k l = omega arith
act_word act'.Exchange old a b h k l = k
act_word act'.CompareExchange old a b h k l = either (nat_eq old a) b old l h
