-- Instructions that stand in a list from a place on, and the least and the last place that a test takes.
use Rattle.std.proofs.Common.{◌≡◌, ℕ, zero, suc, ◌+◌, ◌<◌, ◌≤◌, inl, inr, Bool, true, false, List, [], ◌∷◌, ◌++◌, length, drop, Option, Some, None, refl, sym, ap, ◌∙◌, arith, append_assoc, length-append}
use Rattle.std.specs.Prelude.{slice_get, if◌then◌else◌}
use Rattle.std.proofs.Math.Seq.{drop-nil, drop-append_seam}
use Rattle.std.proofs.lemmas.Bool.{cases_lt}
use Rattle.std.proofs.lemmas.List.{length-drop}
use Rattle.tpf_program.specs.declared.instruction.Instruction.{Instruction}
use Rattle.tpf_program.specs.Ends.{least, last_below}

pub record Holds (code : List Instruction) (at : ℕ) (xs : List Instruction) : Type 0 where
  pub rest : List Instruction
  pub here : drop at code ≡ xs ++ rest

drop_drop : {X : Type 0} (n m : ℕ) (xs : List X) → drop n (drop m xs) ≡ drop (m + n) xs
drop_drop n zero xs = let e : n ≡ zero + n = omega arith in ap (λ k. drop k xs) e
drop_drop n (suc m) [] = let e : suc (m + n) ≡ suc m + n = omega arith in drop-nil n ∙ ap (λ k. drop k []) e
drop_drop n (suc m) (x ∷ xs) = let e : suc (m + n) ≡ suc m + n = omega arith in drop_drop n m xs ∙ ap (λ k. drop k (x ∷ xs)) e

get_drop : {X : Type 0} (xs : List X) (n : ℕ) → slice_get xs n ≡ slice_get (drop n xs) 0
get_drop xs zero = refl
get_drop [] (suc n) = refl
get_drop (x ∷ xs) (suc n) = get_drop xs n

get_front : {X : Type 0} (xs ys : List X) (k : ℕ) (x : X) → slice_get xs k ≡ Some x → slice_get (xs ++ ys) k ≡ Some x
get_front [] ys k x h = absurd (cc)
get_front (y ∷ xs) ys zero x h = h
get_front (y ∷ xs) ys (suc k) x h = get_front xs ys k x h

module _ (code : List Instruction) where
  pub first_at : (at : ℕ) (i : Instruction) (xs : List Instruction) → Holds code at (i ∷ xs) → slice_get code at ≡ Some i
  first_at at i xs h = get_drop code at ∙ ap (λ l. slice_get l 0) h.here

  pub front_at : (at : ℕ) (xs ys : List Instruction) → Holds code at (xs ++ ys) → Holds code at xs
  front_at at xs ys h = record { rest = ys ++ h.rest; here = h.here ∙ append_assoc xs ys h.rest }

  pub back_at : (at : ℕ) (xs ys : List Instruction) → Holds code at (xs ++ ys) → Holds code (at + length xs) ys
  back_at at xs ys h = record {
    rest = h.rest;
    here = sym (drop_drop (length xs) at code) ∙ (ap (drop (length xs)) (h.here ∙ append_assoc xs ys h.rest) ∙ drop-append_seam xs (ys ++ h.rest));
  }

  pub next_at : (at : ℕ) (i : Instruction) (xs : List Instruction) → Holds code at (i ∷ xs) → Holds code (at + 1) xs
  next_at at i xs h = record { rest = h.rest; here = sym (drop_drop 1 at code) ∙ ap (drop 1) h.here }

  pub whole_at : (xs rest : List Instruction) → code ≡ xs ++ rest → Holds code 0 xs
  whole_at xs rest h = record { rest = rest; here = h }

  pub fits_at : (at : ℕ) (xs : List Instruction) → 0 < length xs → Holds code at xs → at + length xs ≤ length code
  fits_at at xs l h = omega (arith, l, sym (length-drop at code) ∙ ap length h.here, length-append xs h.rest)

  pub get_at : (at : ℕ) (xs : List Instruction) (k : ℕ) (i : Instruction) → Holds code at xs → slice_get xs k ≡ Some i → slice_get code
      (at + k) ≡ Some i
  get_at at xs k i h e =
      get_drop code (at + k) ∙ (ap (λ l. slice_get l 0) (sym (drop_drop k at code)) ∙
      (sym (get_drop (drop at code) k) ∙ (ap (λ l. slice_get l k) h.here ∙ get_front xs h.rest k i e)))

-- THE LEAST
pub least_is : (test : ℕ → Bool) (at n c : ℕ) → at ≤ c → c < at + n → ((m : ℕ) → at ≤ m → m < c → test m ≡ false) → test c ≡ true
    → least test at n ≡ Some c
least_is test at zero c h l f t = absurd (omega (arith, h, l))
least_is test at (suc n) c h l f t = elim (cases_lt at c) [
  | inl s ↦ ap (λ b. if b then Some at else least test (at + 1) n) (f at (omega arith) s)
      ∙ least_is test (at + 1) n c (omega (arith, s)) (omega (arith, l)) (λ m x y. f m (omega (arith, x)) y) t
  | inr s ↦ let e : c ≡ at = omega (arith, h, s) in ap (λ b. if b then Some at else least test (at + 1) n) (ap test (sym e) ∙ t) ∙ ap Some (sym e)
]

-- none of them is taken
pub least_past : (test : ℕ → Bool) (at n k : ℕ) → ((m : ℕ) → at ≤ m → m < at + k → test m ≡ false) → least test at (k + n) ≡ least test (at + k) n
least_past test at n zero f = let a : zero + n ≡ n = omega arith in let b : at ≡ at + zero = omega arith in ap (least test at) a ∙ ap
    (λ x. least test x n) b
least_past test at n (suc k) f =
    let a : suc k + n ≡ suc (k + n) = omega arith in
    let b : at + 1 + k ≡ at + suc k = omega arith in
    ap (least test at) a
    ∙ (ap (λ b. if b then Some at else least test (at + 1) (k + n)) (f at (omega arith) (omega arith))
    ∙ (least_past test (at + 1) n k (λ m x y. f m (omega (arith, x)) (omega (arith, y))) ∙ ap (λ x. least test x n) b))

pub least_none : (test : ℕ → Bool) (at n : ℕ) → ((m : ℕ) → at ≤ m → test m ≡ false) → least test at n ≡ None
least_none test at zero f = refl
least_none test at (suc n) f =
    ap (λ b. if b then Some at else least test (at + 1) n) (f at (omega arith)) ∙ least_none test (at + 1) n (λ m x. f m (omega (arith, x)))

-- THE LAST
pub last_past : (test : ℕ → Bool) (at n : ℕ) → ((m : ℕ) → at ≤ m → m < at + n → test m ≡ false) → last_below test (at + n) ≡ last_below test at
last_past test at zero f = let e : at + zero ≡ at = omega arith in ap (last_below test) e
last_past test at (suc n) f =
    let e : at + suc n ≡ suc (at + n) = omega arith in
    ap (last_below test) e
    ∙ (ap (λ b. if b then Some (at + n) else last_below test (at + n)) (f (at + n) (omega arith) (omega arith))
    ∙ last_past test at n (λ m x y. f m x (omega (arith, y))))

pub last_next : (test : ℕ → Bool) (at : ℕ) (b : Bool) → test at ≡ b → last_below test (at + 1) ≡ (if b then Some at else last_below test at)
last_next test at b h = let e : at + 1 ≡ suc at = omega arith in ap (last_below test) e ∙ ap (λ b. if b then Some at else last_below test at) h

pub last_holds : (test : ℕ → Bool) (u n : ℕ) → last_below test u ≡ Some n → test n ≡ true
last_holds test zero n h = absurd (cc)
last_holds test (suc u) n h = by_test (test u) refl h (last_holds test u n)
  where
    by_test : (b : Bool) → test u ≡ b → (if b then Some u else last_below test u) ≡ Some n → (last_below test u ≡ Some n → test n ≡ true)
        → test n ≡ true
    by_test true e h next = let z : u ≡ n = cc in ap test (sym z) ∙ e
    by_test false e h next = next h

pub record IsSince (at : ℕ) (found : Option ℕ) : Type 0 where
  pub n : ℕ
  pub since : at ≤ n
  pub is : found ≡ Some n

-- one that is taken is the last, or a later one is
pub last_since : (test : ℕ → Bool) (at u : ℕ) → at < u → test at ≡ true → IsSince at (last_below test u)
last_since test at zero l h = absurd (omega (arith, l))
last_since test at (suc u) l h = by_test (test u) refl (last_since test at u)
  where
    by_test : (b : Bool) → test u ≡ b → (at < u → test at ≡ true → IsSince at (last_below test u))
        → IsSince at (if b then Some u else last_below test u)
    by_test true e next = record { n = u; since = omega (arith, l); is = refl }
    by_test false e next = elim (cases_lt at u) [
      | inl s ↦ next s h
      | inr s ↦ let z : at ≡ u = omega (arith, l, s) in let y : test u ≡ true = ap test (sym z) ∙ h in absurd (cc)
    ]
