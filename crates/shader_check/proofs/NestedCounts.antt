-- Which constructs are around a place, by counting from one place to the next.
use Rattle.std.proofs.Common.{◌≡◌, ℕ, zero, suc, ◌+◌, ◌-◌, ◌<◌, ◌≤◌, inl, inr, Bool, true, false, not, ◌&&◌, List, [], ◌∷◌, ◌++◌, drop, take, length, Option, Some, None, refl, sym, ap, ◌∙◌, subst, arith}
use Rattle.std.specs.Prelude.{⊤, slice_get, slice_range, sum_by, nat_le, if◌then◌else◌}
use Rattle.std.proofs.Math.Seq.{take-add}
use Rattle.std.proofs.lemmas.Bool.{cases_lt}
use Rattle.std.proofs.lemmas.Bool.Decides.{nat_tests}
use Rattle.std.proofs.lemmas.List.{take_more}
use Rattle.std.proofs.lemmas.Option.{slice_get_within, get_or_from_slice_get}
use Rattle.std.proofs.lemmas.List.Sums.{sum_by-append, sum_by_push}
use Rattle.tpf_decode.specs.Profiles.{Base}
use Rattle.tpf_decode.specs.Opcodes.{meaning_of}
use Rattle.tpf_decode.specs.declared.meaning.Meaning.{Meaning}
use Rattle.tpf_program.specs.declared.instruction.Instruction.{Instruction}
use Rattle.tpf_program.specs.Ends.{Part, Opens, Closes, Within, opens, closes, is_opening, is_closing, has, means, least, is_even, reaches, is_around}
use Rattle.shader_check.specs.Nested.{all_below, openings, without_first, part_of_any, passed}

-- THE LEAST that a test takes: a place is reached up to it.
least_after : (test : ℕ → Bool) (at n c : ℕ) → least test at n ≡ Some c → at ≤ c
least_after test at zero c h = absurd (cc)
least_after test at (suc n) c h = by_test (test at) h (least_after test (at + 1) n)
  where
    by_test : (b : Bool) → (if b then Some at else least test (at + 1) n) ≡ Some c → ((c : ℕ) → least test (at + 1) n ≡ Some c → at + 1 ≤ c) → at ≤ c
    by_test true h next = let k : at ≡ c = cc in omega (arith, k)
    by_test false h next = omega (arith, next c h)

reaches_front : (o : Option ℕ) (q : ℕ) → ((c : ℕ) → o ≡ Some c → q ≤ c) → reaches true q o ≡ true
reaches_front None q h = refl
reaches_front (Some c) q h = grind (arith, nat_tests, h c refl)

reach_more : (test : ℕ → Bool) (at n q : ℕ) → at ≤ q → q < at + n → reaches true (q + 1) (least test at n) ≡ (reaches true q (least test at n) && not (test q))
reach_more test at zero q l m = absurd (omega (arith, l, m))
reach_more test at (suc n) q l m = by_test (test at) refl (reach_more test (at + 1) n q)
  where
    after : at ≡ q → (b : Bool) → test at ≡ b → reaches true (q + 1) (if b then Some at else least test (at + 1) n) ≡ (reaches true q (if b then Some at else least test (at + 1) n) && not (test q))
    after e true k =
        let t : test q ≡ true = ap test (sym e) ∙ k in
        let a : nat_le (q + 1) at ≡ false = grind (arith, nat_tests, e) in
        let b : nat_le q at ≡ true = grind (arith, nat_tests, e) in
        a ∙ sym (rw (b, t) refl)
    after e false k =
        let t : test q ≡ false = ap test (sym e) ∙ k in
        let a : reaches true (q + 1) (least test (at + 1) n) ≡ true = reaches_front (least test (at + 1) n) (q + 1) (λ c h. omega (arith, e, least_after test (at + 1) n c h)) in
        let b : reaches true q (least test (at + 1) n) ≡ true = reaches_front (least test (at + 1) n) q (λ c h. omega (arith, e, least_after test (at + 1) n c h)) in
        a ∙ sym (rw (b, t) refl)

    later : at < q → (b : Bool) → test at ≡ b → (at + 1 ≤ q → q < at + 1 + n → reaches true (q + 1) (least test (at + 1) n) ≡ (reaches true q (least test (at + 1) n) && not (test q)))
        → reaches true (q + 1) (if b then Some at else least test (at + 1) n) ≡ (reaches true q (if b then Some at else least test (at + 1) n) && not (test q))
    later e true k next =
        let a : nat_le (q + 1) at ≡ false = grind (arith, nat_tests, e) in
        let b : nat_le q at ≡ false = grind (arith, nat_tests, e) in
        a ∙ sym (rw b refl)
    later e false k next = next (omega (arith, e)) (omega (arith, m))

    by_test : (b : Bool) → test at ≡ b → (at + 1 ≤ q → q < at + 1 + n → reaches true (q + 1) (least test (at + 1) n) ≡ (reaches true q (least test (at + 1) n) && not (test q)))
        → reaches true (q + 1) (if b then Some at else least test (at + 1) n) ≡ (reaches true q (if b then Some at else least test (at + 1) n) && not (test q))
    by_test b k next = elim (cases_lt at q) [ inl s ↦ later s b k next | inr s ↦ after (omega (arith, s, l)) b k ]

-- COUNTS of the first instructions
split : {X : Type 0} (f : X → ℕ) (xs : List X) (q y : ℕ) → q ≤ y → sum_by f (take y xs) ≡ sum_by f (take q xs) + sum_by f (slice_range xs q y)
split f xs q y h =
    let e : y ≡ q + (y - q) = omega arith in
    ap (λ n. sum_by f (take n xs)) e ∙ (ap (sum_by f) (take-add q (y - q) xs) ∙ sum_by-append f (take q xs) (take (y - q) (drop q xs)))

pub sum_more : {X : Type 0} (f : X → ℕ) (xs : List X) (q : ℕ) (x : X) → slice_get xs q ≡ Some x → sum_by f (take (q + 1) xs) ≡ sum_by f (take q xs) + f x
sum_more f xs q x h =
    ap (sum_by f) (take_more xs q x (slice_get_within xs q x h) ∙ ap (λ y. take q xs ++ y ∷ []) (get_or_from_slice_get xs q x x h)) ∙ sum_by_push f (take q xs) x

module _ (code : List Instruction) where
  abbrev pub opening : Instruction → ℕ
  opening i = if means Base is_opening i then 1 else 0

  abbrev pub closing : Instruction → ℕ
  closing i = if means Base is_closing i then 1 else 0

  abbrev pub o : ℕ → ℕ
  o n = sum_by opening (take n code)

  abbrev pub c : ℕ → ℕ
  c n = sum_by closing (take n code)

  abbrev pub a : ℕ → ℕ → Bool
  a q n = is_around Base true is_opening code q n

  even_by : (n q : ℕ) → n ≤ q → o (q + 1) + c n ≡ o n + c (q + 1) → is_even Base code n q ≡ true
  even_by n q h k =
      let l : sum_by closing (slice_range code n (q + 1)) ≡ sum_by opening (slice_range code n (q + 1)) =
      omega (arith, k, split opening code n (q + 1) (omega (arith, h)), split closing code n (q + 1) (omega (arith, h))) in
      grind (arith, nat_tests, l)

  uneven_by : (n q d : ℕ) → n ≤ q → o (q + 1) + c n ≡ o n + c (q + 1) + d + 1 → is_even Base code n q ≡ false
  uneven_by n q d h k =
      let l : sum_by closing (slice_range code n (q + 1)) + d + 1 ≡ sum_by opening (slice_range code n (q + 1)) =
      omega (arith, k, split opening code n (q + 1) (omega (arith, h)), split closing code n (q + 1) (omega (arith, h))) in
      grind (arith, nat_tests, l)

  -- an opening that is around a place is around the next where it is not closed there
  around_more : (n q : ℕ) → n < q → q < length code → a (q + 1) n ≡ (a q n && not (is_even Base code n q))
  around_more n q h k = by_test (has (means Base is_opening) (slice_get code n)) refl
    where
      by_test : (b : Bool) → has (means Base is_opening) (slice_get code n) ≡ b
          → (b && reaches true (q + 1) (if b then least (is_even Base code n) (n + 1) (length code - (n + 1)) else None))
          ≡ ((b && reaches true q (if b then least (is_even Base code n) (n + 1) (length code - (n + 1)) else None)) && not (is_even Base code n q))
      by_test true e = reach_more (is_even Base code n) (n + 1) (length code - (n + 1)) q (omega (arith, h)) (omega (arith, h, k))
      by_test false e = refl

  -- an opening is around the place behind it
  around_next : (q : ℕ) → a (q + 1) q ≡ has (means Base is_opening) (slice_get code q)
  around_next q = by_test (has (means Base is_opening) (slice_get code q)) refl
    where
      by_test : (b : Bool) → has (means Base is_opening) (slice_get code q) ≡ b
          → (b && reaches true (q + 1) (if b then least (is_even Base code q) (q + 1) (length code - (q + 1)) else None)) ≡ b
      by_test true e = reaches_front (least (is_even Base code q) (q + 1) (length code - (q + 1))) (q + 1) (λ c h. least_after (is_even Base code q) (q + 1) (length code - (q + 1)) c h)
      by_test false e = refl

  -- of the openings around a place the innermost is one more than closed, the next two more, and so on
  abbrev pub Counted : ℕ → ℕ → List ℕ → Type 0
  Counted q k [] = ⊤
  Counted q k (n ∷ rest) = (o q + c n ≡ o n + c q + k + 1) × Counted q (k + 1) rest

  abbrev Kept : ℕ → ℕ → ℕ → List ℕ → Type 0
  Kept q k n xs = (all_below (a (q + 1)) n ≡ xs) × Counted (q + 1) k xs

  -- where one of them is not closed there, the next are not
  module _ (q x y : ℕ) (there : q < length code) (ox : o (q + 1) ≡ o q + x) (cy : c (q + 1) ≡ c q + y) where
    keep : (n k l : ℕ) → n ≤ q → k + x ≡ l + y → Counted q k (all_below (a q) n) → Kept q l n (all_below (a q) n)
    keep zero k l h e r = (refl, tt)
    keep (suc n) k l h e r = by_test (a q n) refl r (keep n)
      where
        by_test : (b : Bool) → a q n ≡ b → Counted q k (if b then n ∷ all_below (a q) n else all_below (a q) n)
            → ((k l : ℕ) → n ≤ q → k + x ≡ l + y → Counted q k (all_below (a q) n) → Kept q l n (all_below (a q) n))
            → ((if a (q + 1) n then n ∷ all_below (a (q + 1)) n else all_below (a (q + 1)) n) ≡ (if b then n ∷ all_below (a q) n else all_below (a q) n))
            × Counted (q + 1) l (if b then n ∷ all_below (a q) n else all_below (a q) n)
        by_test true t r next =
            let d : o (q + 1) + c n ≡ o n + c (q + 1) + l + 1 = omega (arith, r.0, ox, cy, e) in
            let u : is_even Base code n q ≡ false = uneven_by n q l (omega (arith, h)) d in
            let s : a (q + 1) n ≡ true = around_more n q (omega (arith, h)) there ∙ rw (t, u) refl in
            let m = next (k + 1) (l + 1) (omega (arith, h)) (omega (arith, e)) r.1 in
            (ap (λ b. if b then n ∷ all_below (a (q + 1)) n else all_below (a (q + 1)) n) s ∙ ap (λ z. n ∷ z) m.0, (d, m.1))
        by_test false t r next =
            let s : a (q + 1) n ≡ false = around_more n q (omega (arith, h)) there ∙ rw t refl in
            let m = next k l (omega (arith, h)) e r in
            (ap (λ b. if b then n ∷ all_below (a (q + 1)) n else all_below (a (q + 1)) n) s ∙ m.0, m.1)

  -- where only the innermost can be closed there, it is
  module _ (q : ℕ) (there : q < length code) (ox : o (q + 1) ≡ o q + 0) (cy : c (q + 1) ≡ c q + 1) where
    close_first : (n : ℕ) → n ≤ q → Counted q 0 (all_below (a q) n) → Kept q 0 n (without_first (all_below (a q) n))
    close_first zero h r = (refl, tt)
    close_first (suc n) h r = by_test (a q n) refl r (close_first n)
      where
        by_test : (b : Bool) → a q n ≡ b → Counted q 0 (if b then n ∷ all_below (a q) n else all_below (a q) n)
            → (n ≤ q → Counted q 0 (all_below (a q) n) → Kept q 0 n (without_first (all_below (a q) n)))
            → ((if a (q + 1) n then n ∷ all_below (a (q + 1)) n else all_below (a (q + 1)) n) ≡ without_first (if b then n ∷ all_below (a q) n else all_below (a q) n))
            × Counted (q + 1) 0 (without_first (if b then n ∷ all_below (a q) n else all_below (a q) n))
        by_test true t r next =
            let u : is_even Base code n q ≡ true = even_by n q (omega (arith, h)) (omega (arith, r.0, ox, cy)) in
            let s : a (q + 1) n ≡ false = around_more n q (omega (arith, h)) there ∙ rw (t, u) refl in
            let m = keep q 0 1 there ox cy n 1 0 (omega (arith, h)) refl r.1 in
            (ap (λ b. if b then n ∷ all_below (a (q + 1)) n else all_below (a (q + 1)) n) s ∙ m.0, m.1)
        by_test false t r next =
            let s : a (q + 1) n ≡ false = around_more n q (omega (arith, h)) there ∙ rw t refl in
            let m = next (omega (arith, h)) r in
            (ap (λ b. if b then n ∷ all_below (a (q + 1)) n else all_below (a (q + 1)) n) s ∙ m.0, m.1)

  pub opens_by : (m : Option Meaning) → has is_opening m ≡ opens (part_of_any m)
  opens_by None = refl
  opens_by (Some m) = refl

  pub closes_by : (m : Option Meaning) → has is_closing m ≡ closes (part_of_any m)
  closes_by None = refl
  closes_by (Some m) = refl

  -- ONE INSTRUCTION further
  abbrev pub Further : ℕ → List ℕ → Type 0
  Further q xs = (openings code (q + 1) ≡ xs) × Counted (q + 1) 0 xs

  module _ (q : ℕ) (i : Instruction) (at : slice_get code q ≡ Some i) where
    at_next : (b : Bool) → opens (part_of_any (meaning_of Base i.code)) ≡ b → openings code (q + 1) ≡ (if b then q ∷ all_below (a (q + 1)) q else all_below (a (q + 1)) q)
    at_next b h =
        let e : q + 1 ≡ suc q = omega arith in
        let s : a (q + 1) q ≡ b = around_next q ∙ (ap (has (means Base is_opening)) at ∙ (opens_by (meaning_of Base i.code) ∙ h)) in
        ap (λ n. all_below (a (q + 1)) n) e ∙ ap (λ b. if b then q ∷ all_below (a (q + 1)) q else all_below (a (q + 1)) q) s

    pub more_open : (b : Bool) → opens (part_of_any (meaning_of Base i.code)) ≡ b → o (q + 1) ≡ o q + (if b then 1 else 0)
    more_open b h = sum_more opening code q i at ∙ ap (λ b. o q + (if b then 1 else 0)) (opens_by (meaning_of Base i.code) ∙ h)

    pub more_closed : (b : Bool) → closes (part_of_any (meaning_of Base i.code)) ≡ b → c (q + 1) ≡ c q + (if b then 1 else 0)
    more_closed b h = sum_more closing code q i at ∙ ap (λ b. c q + (if b then 1 else 0)) (closes_by (meaning_of Base i.code) ∙ h)

    within_code : q < length code
    within_code = slice_get_within code q i at

    by_part : (p : Part) → part_of_any (meaning_of Base i.code) ≡ p → Counted q 0 (openings code q) → Further q (passed p q (openings code q))
    by_part Opens h r =
        let ox : o (q + 1) ≡ o q + 1 = more_open true (ap opens h) in
        let cy : c (q + 1) ≡ c q + 0 = more_closed false (ap closes h) in
        let m = keep q 1 0 within_code ox cy q 0 1 (omega arith) refl r in
        (at_next true (ap opens h) ∙ ap (λ z. q ∷ z) m.0, (omega (arith, ox, cy), m.1))
    by_part Closes h r =
        let ox : o (q + 1) ≡ o q + 0 = more_open false (ap opens h) in
        let cy : c (q + 1) ≡ c q + 1 = more_closed true (ap closes h) in
        let m = close_first q within_code ox cy q (omega arith) r in
        (at_next false (ap opens h) ∙ m.0, m.1)
    by_part Within h r =
        let ox : o (q + 1) ≡ o q + 0 = more_open false (ap opens h) in
        let cy : c (q + 1) ≡ c q + 0 = more_closed false (ap closes h) in
        let m = keep q 0 0 within_code ox cy q 0 0 (omega arith) refl r in
        (at_next false (ap opens h) ∙ m.0, m.1)

  got : (xs : List Instruction) (q : ℕ) → q < length xs → (i : Instruction) × (slice_get xs q ≡ Some i)
  got [] q h = absurd (omega (arith, h))
  got (i ∷ xs) zero h = (i, refl)
  got (i ∷ xs) (suc q) h = got xs q (omega (arith, h))

  pub counted : (q : ℕ) → q ≤ length code → Counted q 0 (openings code q)
  counted zero h = tt
  counted (suc q) h =
      let g = got code q (omega (arith, h)) in
      let m = by_part q g.0 g.1 (part_of_any (meaning_of Base g.0.code)) refl (counted q (omega (arith, h))) in
      let e : q + 1 ≡ suc q = omega arith in
      subst (λ n. Counted n 0 (openings code n)) e (subst (Counted (q + 1) 0) (sym m.0) m.1)

  pub openings_next : (q : ℕ) (i : Instruction) → slice_get code q ≡ Some i
      → openings code (q + 1) ≡ passed (part_of_any (meaning_of Base i.code)) q (openings code q)
  openings_next q i at = (by_part q i at (part_of_any (meaning_of Base i.code)) refl (counted q (omega (arith, within_code q i at)))).0
