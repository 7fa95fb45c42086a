-- A field of a word is what two shifts leave of it.
use Rattle.std.proofs.Common.{◌≡◌, ℕ, ◌+◌, ◌-◌, ◌*◌, ◌/◌, ◌%◌, ◌<◌, ◌≤◌, ◌^◌, true, false, pow_mono, inl, inr, refl, sym, ap, ◌∙◌, subst, arith}
use Rattle.std.specs.Prelude.{nat_eq, nat_lt, if◌then◌else◌}
use Rattle.std.proofs.lemmas.Bool.{cases_lt, lt-ltb, le-ltb}
use Rattle.std.proofs.lemmas.Nat.{pow_pos, pow-add, shl-shr, shr-shr, shr_split, mod-pow-add, field_of, div-mul-add, div_below, le-div, mod_below, shr_below}
use Rattle.std.proofs.Math.Nat.{mod-eq_of_lt}
use Rattle.word_base.specs.Alu.{complement, shifted_with_sign, binary, field_value, signed_field_value, with_sign, ternary}
use Rattle.word_base.specs.declared.arithmetic.Binary.TheVariants as two
use Rattle.word_base.specs.declared.arithmetic.Ternary.TheVariants as three

no_rest : (v k : ℕ) → v * 2 ^ k % 2 ^ k ≡ 0
no_rest v k =
    let s = shr_split (v * 2 ^ k) k in
    let e : v * 2 ^ k / 2 ^ k * 2 ^ k ≡ v * 2 ^ k = ap (λ x. x * 2 ^ k) (shl-shr v k) in
    omega (arith, s, e)

-- to the left until only the field is left, and to the right until it is low
between : (v w o k : ℕ) → v * 2 ^ k % 2 ^ (w + o + k) / 2 ^ (k + o) ≡ v / 2 ^ o % 2 ^ w
between v w o k =
    let n = v * 2 ^ k in
    let e : n % 2 ^ (w + o + k) ≡ v % 2 ^ (w + o) * 2 ^ k =
    mod-pow-add n (w + o) k ∙ (ap (λ x. n / 2 ^ k % 2 ^ (w + o) * 2 ^ k + x) (no_rest v k) ∙ ap (λ x. x % 2 ^ (w + o) * 2 ^ k + 0) (shl-shr v k) ∙ (omega arith)) in
    sym (shr-shr (n % 2 ^ (w + o + k)) k o) ∙ (ap (λ x. x / 2 ^ k / 2 ^ o) e ∙ (ap (λ x. x / 2 ^ o) (shl-shr (v % 2 ^ (w + o)) k) ∙ field_of v w o))

-- the same with the amounts that the instructions have
shifted : (v w o : ℕ) → w + o ≤ 32 → v * 2 ^ (32 - w - o) % 2 ^ 32 / 2 ^ (32 - w) ≡ v / 2 ^ o % 2 ^ w
shifted v w o h =
    let whole : w + o + (32 - w - o) ≡ 32 = omega (arith, h) in
    let down : 32 - w - o + o ≡ 32 - w = omega (arith, h) in
    subst (λ x. v * 2 ^ (32 - w - o) % 2 ^ 32 / 2 ^ x ≡ v / 2 ^ o % 2 ^ w) down
    (subst (λ x. v * 2 ^ (32 - w - o) % 2 ^ x / 2 ^ (32 - w - o + o) ≡ v / 2 ^ o % 2 ^ w) whole (between v w o (32 - w - o)))

-- one of two words by a test
below_is : {X : Type 0} (a b : ℕ) (x y : X) → a < b → (if nat_lt a b then x else y) ≡ x
below_is a b x y h = let e : nat_lt a b ≡ true = lt-ltb a b h in rw e refl

above_is : {X : Type 0} (a b : ℕ) (x y : X) → b ≤ a → (if nat_lt a b then x else y) ≡ y
above_is a b x y h = let e : nat_lt a b ≡ false = le-ltb a b h in rw e refl

positive : {X : Type 0} (w : ℕ) (x y : X) → 0 < w → (if nat_eq w 0 then x else y) ≡ y
positive w x y h = let e : nat_eq w 0 ≡ false = grind arith in rw e refl

-- a field that ends with the word needs no cut
whole_field : (v w o : ℕ) → w + o ≡ 32 → v < 2 ^ 32 → v / 2 ^ o % 2 ^ w ≡ v / 2 ^ o
whole_field v w o e h = mod-eq_of_lt (shr_below v w o (subst (λ n. v < 2 ^ n) (sym e) h))

field_is : (w o v : ℕ) → 0 < w → w + o ≤ 32 → v < 2 ^ 32 → field_value w o v ≡ v / 2 ^ o % 2 ^ w
field_is w o v p h l =
    positive w 0 (if nat_lt (w + o) 32 then v / 2 ^ o % 2 ^ w else v / 2 ^ o) p
    ∙ elim (cases_lt (w + o) 32) [
      | inl b ↦ below_is (w + o) 32 _ _ b
      | inr b ↦ above_is (w + o) 32 (v / 2 ^ o % 2 ^ w) (v / 2 ^ o) b ∙ sym (whole_field v w o (omega arith) l)
    ]

low_five : (n : ℕ) → n < 32 → n % 32 ≡ n
low_five n h = omega arith

pub unsigned_shifts : (w o x : ℕ) → 0 < w → w < 32 → w + o ≤ 32 → x < 2 ^ 32
    → ternary three.Ubfe w o x ≡ x * 2 ^ (32 - w - o) % 2 ^ 32 / 2 ^ (32 - w)
unsigned_shifts w o x p k h l =
    ap (λ n. field_value n (o % 32) x) (low_five w k) ∙ (ap (λ n. field_value w n x) (low_five o (omega arith)) ∙ (field_is w o x p h l ∙ sym (shifted x w o h)))

-- the complement of a number in two parts, without the lower one
complement_part : (P Q f r : ℕ) → f < P → r < Q → P * Q ≡ 2 ^ 32 → complement (f * Q + r) / Q ≡ P - 1 - f
complement_part P Q f r h k e =
    let a = P - 1 - f in
    let p : a + 1 + f ≡ P = omega (arith, h) in
    let product : (a + 1 + f) * Q ≡ 2 ^ 32 = subst (λ x. x * Q ≡ 2 ^ 32) (sym p) e in
    let parts : complement (f * Q + r) ≡ a * Q + (Q - 1 - r) = omega (arith, product, k) in
    ap (λ x. x / Q) parts ∙ div-mul-add a Q (Q - 1 - r) (omega (arith, k))

-- A word shifted to the right with its sign is its upper field with its sign.
signs : (y w s : ℕ) → 0 < w → w + s ≡ 32 → y < 2 ^ 32 → shifted_with_sign y s ≡ with_sign w (y / 2 ^ s)
signs y w s p e h =
    let half : 2 ^ 31 ≡ 2 ^ (w - 1) * 2 ^ s = subst (λ n. 2 ^ n ≡ 2 ^ (w - 1) * 2 ^ s) (let i : w - 1 + s ≡ 31 = omega (arith, p, e) in i) (pow-add 2 (w - 1) s) in
    let whole : 2 ^ w * 2 ^ s ≡ 2 ^ 32 = subst (λ n. 2 ^ w * 2 ^ s ≡ 2 ^ n) e (sym (pow-add 2 w s)) in
    let f = y / 2 ^ s in
    let field : f < 2 ^ w = shr_below y w s (subst (λ n. y < 2 ^ n) (sym e) h) in
    let word : 2 ^ w ≤ 2 ^ 32 = pow_mono (let i : w ≤ 32 = omega (arith, e) in i) in
    elim (cases_lt y (2 ^ 31)) [
      | inl b ↦ below_is y (2 ^ 31) f (complement (complement y / 2 ^ s)) b
          ∙ sym (below_is f (2 ^ (w - 1)) f (f + (2 ^ 32 - 2 ^ w)) (div_below y (2 ^ s) (2 ^ (w - 1)) (pow_pos s) (subst (λ n. y < n) half b)))
      | inr b ↦ above_is y (2 ^ 31) f (complement (complement y / 2 ^ s)) b
          ∙ (ap complement (ap (λ x. complement x / 2 ^ s) (sym (shr_split y s)) ∙ complement_part (2 ^ w) (2 ^ s) f (y % 2 ^ s) field (mod_below y (2 ^ s) (pow_pos s)) whole)
          ∙ ((omega (arith, field, word))
          ∙ sym (above_is f (2 ^ (w - 1)) f (f + (2 ^ 32 - 2 ^ w)) (le-div (2 ^ (w - 1)) y (2 ^ s) (pow_pos s) (subst (λ n. n ≤ y) half b)))))
    ]

signed_field_is : (w o v : ℕ) → 0 < w → w + o ≤ 32 → v < 2 ^ 32
    → signed_field_value w o v ≡ shifted_with_sign (v * 2 ^ (32 - w - o) % 2 ^ 32) (32 - w)
signed_field_is w o v p h l =
    let y = v * 2 ^ (32 - w - o) % 2 ^ 32 in
    positive w 0 (if nat_lt (w + o) 32 then with_sign w (v / 2 ^ o % 2 ^ w) else shifted_with_sign v o) p
    ∙ elim (cases_lt (w + o) 32) [
      | inl b ↦ below_is (w + o) 32 (with_sign w (v / 2 ^ o % 2 ^ w)) (shifted_with_sign v o) b
          ∙ (ap (with_sign w) (sym (shifted v w o h)) ∙ sym (signs y w (32 - w) p (omega (arith, h)) (mod_below _ _ (omega arith))))
      | inr b ↦ above_is (w + o) 32 (with_sign w (v / 2 ^ o % 2 ^ w)) (shifted_with_sign v o) b
          ∙ (let still : v ≡ y =
          let none : 32 - w - o ≡ 0 = omega (arith, b) in
          subst (λ n. v ≡ v * 2 ^ n % 2 ^ 32) (sym none) (omega (arith, l)) in
          let amount : o ≡ 32 - w = omega (arith, b, h) in
          ap (λ x. shifted_with_sign x o) still ∙ ap (shifted_with_sign y) amount)
    ]

pub signed_shifts : (w o x : ℕ) → 0 < w → w < 32 → w + o ≤ 32 → x < 2 ^ 32
    → ternary three.Ibfe w o x ≡ binary two.Ishr (x * 2 ^ (32 - w - o) % 2 ^ 32) (32 - w)
signed_shifts w o x p k h l =
    ap (λ n. signed_field_value n (o % 32) x) (low_five w k)
    ∙ (ap (λ n. signed_field_value w n x) (low_five o (omega arith))
    ∙ (signed_field_is w o x p h l ∙ ap (shifted_with_sign (x * 2 ^ (32 - w - o) % 2 ^ 32)) (sym (low_five (32 - w) (omega arith)))))

-- no bits, and bits past the end of the word
pub no_bits : (w o x : ℕ) → w % 32 ≡ 0 → ternary three.Ubfe w o x ≡ 0
no_bits w o x h = rw h refl

pub no_signed_bits : (w o x : ℕ) → w % 32 ≡ 0 → ternary three.Ibfe w o x ≡ 0
no_signed_bits w o x h = rw h refl

past_end : {X : Type 0} (w o : ℕ) (x y z : X) → o < 32 → 32 ≤ w + o → (if nat_eq w 0 then x else if nat_lt (w + o) 32 then y else z) ≡ z
past_end w o x y z h k = positive w x (if nat_lt (w + o) 32 then y else z) (omega arith) ∙ above_is (w + o) 32 y z k

pub bits_past_end : (w o x : ℕ) → w < 32 → o < 32 → 32 ≤ w + o → ternary three.Ubfe w o x ≡ x / 2 ^ o
bits_past_end w o x h k l =
    ap (λ n. field_value n (o % 32) x) (low_five w h) ∙ (ap (λ n. field_value w n x) (low_five o k) ∙ past_end w o 0 (x / 2 ^ o % 2 ^ w) (x / 2 ^ o) k l)

pub signed_bits_past_end : (w o x : ℕ) → w < 32 → o < 32 → 32 ≤ w + o → ternary three.Ibfe w o x ≡ binary two.Ishr x o
signed_bits_past_end w o x h k l =
    ap (λ n. signed_field_value n (o % 32) x) (low_five w h)
    ∙ (ap (λ n. signed_field_value w n x) (low_five o k)
    ∙ (past_end w o 0 (with_sign w (x / 2 ^ o % 2 ^ w)) (shifted_with_sign x o) k l ∙ ap (shifted_with_sign x) (sym (low_five o k))))
