-- Fields of a word by a shift and the lowest bits of what it leaves.
use Rattle.std.proofs.Common.{◌≡◌, ℕ, ◌+◌, ◌-◌, ◌*◌, ◌/◌, ◌%◌, ◌<◌, ◌≤◌, ◌^◌, pow_mono, inl, inr, refl, sym, ap, ◌∙◌, subst, arith, true, false}
use Rattle.std.specs.Prelude.{nat_eq, nat_lt, if◌then◌else◌}
use Rattle.std.proofs.lemmas.Bool.{cases_lt, lt-ltb, le-ltb}
use Rattle.std.proofs.lemmas.Nat.{pow_pos, pow-add, shr_split, div-mul-add, div_below, le-div, mod_below, shr_below}
use Rattle.std.proofs.Math.Nat.{mod-eq_of_lt, add-mul-mod_self_left, mul_comm, mul-sub}
use Rattle.word_base.specs.Alu.{complement, shifted_with_sign, field_value, signed_field_value, with_sign}
use Rattle.spirv_words.specs.Meanings.{bits_from, signed_bits_from}

lower : {X : Type 0} (a b : ℕ) (x y : X) → a < b → (if nat_lt a b then x else y) ≡ x
lower a b x y h = let e : nat_lt a b ≡ true = lt-ltb a b h in rw e refl

upper : {X : Type 0} (a b : ℕ) (x y : X) → b ≤ a → (if nat_lt a b then x else y) ≡ y
upper a b x y h = let e : nat_lt a b ≡ false = le-ltb a b h in rw e refl

some_bits : {X : Type 0} (w : ℕ) (x y : X) → 0 < w → (if nat_eq w 0 then x else y) ≡ y
some_bits w x y h = let e : nat_eq w 0 ≡ false = grind arith in rw e refl

-- what is left of a word by a shift is short
left_short : (x w o : ℕ) → 32 ≤ w + o → x < 2 ^ 32 → x / 2 ^ o < 2 ^ w
left_short x w o h l =
    let p : 2 ^ 32 ≤ 2 ^ (w + o) = pow_mono h in
    shr_below x w o (omega (arith, p, l))

pub unsigned : (w o x : ℕ) → x < 2 ^ 32 → bits_from (x / 2 ^ o) 0 w ≡ field_value w o x
unsigned w o x l = elim (cases_lt 0 w) [
  | inl p ↦ elim (cases_lt (w + o) 32) [
    | inl b ↦ (ap (λ n. n % 2 ^ w) (let e : x / 2 ^ o / 1 ≡ x / 2 ^ o = omega arith in e))
        ∙ (sym (lower (w + o) 32 (x / 2 ^ o % 2 ^ w) (x / 2 ^ o) b) ∙ sym (some_bits w 0 _ p))
    | inr b ↦ (ap (λ n. n % 2 ^ w) (let e : x / 2 ^ o / 1 ≡ x / 2 ^ o = omega arith in e))
        ∙ (mod-eq_of_lt (left_short x w o b l) ∙ (sym (upper (w + o) 32 (x / 2 ^ o % 2 ^ w) (x / 2 ^ o) b) ∙ sym (some_bits w 0 _ p)))
  ]
  | inr n ↦ let e : w ≡ 0 = omega (arith, n) in subst (λ w. bits_from (x / 2 ^ o) 0 w ≡ field_value w o x) (sym e) (omega arith)
]

-- the complement of a number in two parts, without the lower one
complement_part : (P Q f r : ℕ) → f < P → r < Q → P * Q ≡ 2 ^ 32 → complement (f * Q + r) / Q ≡ P - 1 - f
complement_part P Q f r h k e =
    let a = P - 1 - f in
    let p : a + 1 + f ≡ P = omega (arith, h) in
    let product : (a + 1 + f) * Q ≡ 2 ^ 32 = subst (λ x. x * Q ≡ 2 ^ 32) (sym p) e in
    let parts : complement (f * Q + r) ≡ a * Q + (Q - 1 - r) = omega (arith, product, k) in
    ap (λ x. x / Q) parts ∙ div-mul-add a Q (Q - 1 - r) (omega (arith, k))

-- a word shifted to the right with its sign is its upper field with its sign
signs : (y w s : ℕ) → 0 < w → w + s ≡ 32 → y < 2 ^ 32 → shifted_with_sign y s ≡ with_sign w (y / 2 ^ s)
signs y w s p e h =
    let half : 2 ^ 31 ≡ 2 ^ (w - 1) * 2 ^ s =
    subst (λ n. 2 ^ n ≡ 2 ^ (w - 1) * 2 ^ s) (let i : w - 1 + s ≡ 31 = omega (arith, p, e) in i) (pow-add 2 (w - 1) s) in
    let whole : 2 ^ w * 2 ^ s ≡ 2 ^ 32 = subst (λ n. 2 ^ w * 2 ^ s ≡ 2 ^ n) e (sym (pow-add 2 w s)) in
    let f = y / 2 ^ s in
    let field : f < 2 ^ w = shr_below y w s (subst (λ n. y < 2 ^ n) (sym e) h) in
    let word : 2 ^ w ≤ 2 ^ 32 = pow_mono (let i : w ≤ 32 = omega (arith, e) in i) in
    elim (cases_lt y (2 ^ 31)) [
      | inl b ↦ lower y (2 ^ 31) f (complement (complement y / 2 ^ s)) b
          ∙ sym (lower f (2 ^ (w - 1)) f (f + (2 ^ 32 - 2 ^ w)) (div_below y (2 ^ s) (2 ^ (w - 1)) (pow_pos s) (subst (λ n. y < n) half b)))
      | inr b ↦ upper y (2 ^ 31) f (complement (complement y / 2 ^ s)) b
          ∙ (ap complement (ap (λ x. complement x / 2 ^ s) (sym (shr_split y s)) ∙ complement_part (2 ^ w) (2 ^ s) f (y % 2 ^ s) field
          (mod_below y (2 ^ s) (pow_pos s)) whole)
          ∙ ((omega (arith, field, word))
          ∙ sym (upper f (2 ^ (w - 1)) f (f + (2 ^ 32 - 2 ^ w)) (le-div (2 ^ (w - 1)) y (2 ^ s) (pow_pos s) (subst (λ n. n ≤ y) half b)))))
    ]

-- a multiple of a power more leaves the same rest
same_rest : (n k P : ℕ) → (n + k * P) % P ≡ n % P
same_rest n k P = ap (λ m. (n + m) % P) (mul_comm k P) ∙ add-mul-mod_self_left n P k

sub-mul : (a b c : ℕ) → (a - b) * c ≡ a * c - b * c
sub-mul a b c = mul_comm (a - b) c ∙ (mul-sub c a b ∙ (ap (λ n. n - c * b) (mul_comm c a) ∙ ap (λ n. a * c - n) (mul_comm c b)))

-- 2 ^ 32 without 2 ^ h is a multiple of 2 ^ w
multiple : (w h : ℕ) → w ≤ h → h ≤ 32 → 2 ^ 32 - 2 ^ h ≡ (2 ^ (32 - w) - 2 ^ (h - w)) * 2 ^ w
multiple w h k l =
    let a : 2 ^ 32 ≡ 2 ^ (32 - w) * 2 ^ w = ap (λ n. 2 ^ n) (let i : 32 ≡ 32 - w + w = omega (arith, k, l) in i) ∙ pow-add 2 (32 - w) w in
    let b : 2 ^ h ≡ 2 ^ (h - w) * 2 ^ w = ap (λ n. 2 ^ n) (let i : h ≡ h - w + w = omega (arith, k) in i) ∙ pow-add 2 (h - w) w in
    ap (λ n. n - 2 ^ h) a ∙ (ap (λ n. 2 ^ (32 - w) * 2 ^ w - n) b ∙ sym (sub-mul (2 ^ (32 - w)) (2 ^ (h - w)) (2 ^ w)))

-- THE LOWEST BITS of a field with its sign.
low : (h w f : ℕ) → 0 < w → w ≤ h → h ≤ 32 → with_sign h f % 2 ^ w ≡ f % 2 ^ w
low h w f p k l = elim (cases_lt f (2 ^ (h - 1))) [
  | inl b ↦ ap (λ n. n % 2 ^ w) (lower f (2 ^ (h - 1)) f _ b)
  | inr b ↦ ap (λ n. n % 2 ^ w) (upper f (2 ^ (h - 1)) f (f + (2 ^ 32 - 2 ^ h)) b ∙ ap (λ n. f + n) (multiple w h k l)) ∙ same_rest f
      (2 ^ (32 - w) - 2 ^ (h - w)) (2 ^ w)
]

wide : (h w f : ℕ) → 0 < h → h ≤ w → w ≤ 32 → f < 2 ^ h → with_sign w (with_sign h f % 2 ^ w) ≡ with_sign h f
wide h w f p k l lt =
    let more : 2 ^ h ≤ 2 ^ w = pow_mono k in
    let word : 2 ^ w ≤ 2 ^ 32 = pow_mono l in
    let halves : 2 ^ (h - 1) ≤ 2 ^ (w - 1) = pow_mono (let i : h - 1 ≤ w - 1 = omega (arith, k) in i) in
    let whole : 2 ^ w ≡ 2 * 2 ^ (w - 1) = ap (λ n. 2 ^ n) (let i : w ≡ 1 + (w - 1) = omega (arith, p, k) in i) ∙ pow-add 2 1 (w - 1) in
    let part : 2 ^ h ≡ 2 * 2 ^ (h - 1) = ap (λ n. 2 ^ n) (let i : h ≡ 1 + (h - 1) = omega (arith, p) in i) ∙ pow-add 2 1 (h - 1) in
    elim (cases_lt f (2 ^ (h - 1))) [
      | inl b ↦
          let e : with_sign h f ≡ f = lower f (2 ^ (h - 1)) f _ b in
          let r : f % 2 ^ w ≡ f = mod-eq_of_lt (omega (arith, lt, more)) in
          ap (λ n. with_sign w (n % 2 ^ w)) e ∙ (ap (with_sign w) r ∙ (lower f (2 ^ (w - 1)) f _ (omega (arith, b, halves)) ∙ sym e))
      | inr b ↦
          let e : with_sign h f ≡ f + (2 ^ 32 - 2 ^ h) = upper f (2 ^ (h - 1)) f (f + (2 ^ 32 - 2 ^ h)) b in
          let n = f + (2 ^ w - 2 ^ h) in
          let split : f + (2 ^ 32 - 2 ^ h) ≡ n + (2 ^ 32 - 2 ^ w) = omega (arith, more, word) in
          let rest : (f + (2 ^ 32 - 2 ^ h)) % 2 ^ w ≡ n =
          ap (λ x. x % 2 ^ w) (split ∙ ap (λ x. n + x) (multiple w w (omega arith) l)) ∙
          (same_rest n (2 ^ (32 - w) - 2 ^ (w - w)) (2 ^ w) ∙ mod-eq_of_lt (omega (arith, lt, more))) in
          ap (λ n. with_sign w (n % 2 ^ w)) e ∙ (ap (with_sign w) rest
          ∙ (upper n (2 ^ (w - 1)) n (n + (2 ^ 32 - 2 ^ w)) (omega (arith, b, halves, whole, part, more)) ∙ (sym split ∙ sym e)))
    ]

pub signed : (w o x : ℕ) → w < 32 → o < 32 → x < 2 ^ 32 → signed_bits_from (shifted_with_sign x o) 0 w ≡ signed_field_value w o x
signed w o x hw ho l =
    let h = 32 - o in
    let whole : h + o ≡ 32 = omega (arith, ho) in
    let f = x / 2 ^ o in
    let v : shifted_with_sign x o ≡ with_sign h f = signs x h o (omega (arith, ho)) whole l in
    let one : shifted_with_sign x o / 1 % 2 ^ w ≡ with_sign h f % 2 ^ w = ap (λ n. n % 2 ^ w)
    ((let e : shifted_with_sign x o / 1 ≡ shifted_with_sign x o = omega arith in e) ∙ v) in
    elim (cases_lt 0 w) [
      | inl p ↦ some_bits w 0 (with_sign w (bits_from (shifted_with_sign x o) 0 w)) p ∙ (ap (with_sign w) one ∙ (elim (cases_lt (w + o) 32) [
        | inl b ↦ ap (with_sign w) (low h w f p (omega (arith, b)) (omega arith)) ∙ sym
            (lower (w + o) 32 (with_sign w (f % 2 ^ w)) (shifted_with_sign x o) b)
        | inr b ↦ wide h w f (omega (arith, ho)) (omega (arith, b)) (omega (arith, hw)) (shr_below x h o (subst (λ n. x < 2 ^ n) (sym whole) l)) ∙
            (sym v
            ∙ sym (upper (w + o) 32 (with_sign w (f % 2 ^ w)) (shifted_with_sign x o) b))
      ] ∙ sym (some_bits w 0 _ p)))
      | inr n ↦ let e : w ≡ 0 = omega (arith, n) in subst (λ w. signed_bits_from (shifted_with_sign x o) 0 w ≡ signed_field_value w o x) (sym e) refl
    ]
