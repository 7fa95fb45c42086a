-- Constructs are nested or apart.
use Rattle.std.proofs.Common.{◌≡◌, ℕ, zero, suc, ◌+◌, ◌-◌, ◌<◌, ◌≤◌, ◌⊎◌, inl, inr, Bool, true, false, List, [], ◌∷◌, drop, take, length, Option, Some, None, refl, sym, ap, ◌∙◌, subst, arith}
use Rattle.std.specs.Prelude.{slice_get, slice_range, sum_by, if◌then◌else◌}
use Rattle.std.proofs.Math.Seq.{take-add}
use Rattle.std.proofs.lemmas.Bool.{cases_lt}
use Rattle.std.proofs.lemmas.Bool.Decides.{nat_tests}
use Rattle.std.proofs.lemmas.List.Sums.{sum_by-append, sum_by-cons, sum_by_push}
use Rattle.tpf_decode.specs.Profiles.{Profile}
use Rattle.tpf_decode.specs.Opcodes.{meaning_of}
use Rattle.tpf_decode.specs.declared.meaning.Meaning.{Meaning}
use Rattle.tpf_program.specs.declared.instruction.Instruction.{Instruction}
use Rattle.tpf_program.specs.Ends.{Part, Opens, Closes, Within, part_of, opens, closes, is_opening, is_closing, has, means, least, is_even, close}
use Rattle.tpf_program.proofs.Each.{front_more}

-- THE LEAST that a test takes
record IsLeast (test : ℕ → Bool) (at c : ℕ) : Type 0 where
  after : at ≤ c
  holds : test c ≡ true
  none : (x : ℕ) → at ≤ x → x < c → test x ≡ false

least_told : (test : ℕ → Bool) (at n c : ℕ) → least test at n ≡ Some c → IsLeast test at c
least_told test at zero c h = absurd (cc)
least_told test at (suc n) c h = by_test (test at) refl h (least_told test (at + 1) n c)
  where
    by_test : (b : Bool) → test at ≡ b → (if b then Some at else least test (at + 1) n) ≡ Some c → (least test (at + 1) n ≡ Some c → IsLeast test (at + 1) c) → IsLeast test at c
    by_test true e h next =
        let k : at ≡ c = cc in
        record { after = omega (arith, k); holds = subst (λ x. test x ≡ true) k e; none = λ x l m. absurd (omega (arith, k, l, m)) }
    by_test false e h next =
        let r = next h in record {
          after = omega (arith, r.after);
          holds = r.holds;
          none = λ x l m. elim (cases_lt at x) [
            | inl b ↦ r.none x (omega (arith, b)) m
            | inr b ↦ let k : at ≡ x = omega (arith, l, b) in subst (λ y. test y ≡ false) k e
          ];
        }

-- COUNTS of the first instructions
split : {X : Type 0} (f : X → ℕ) (xs : List X) (q y : ℕ) → q ≤ y → sum_by f (take y xs) ≡ sum_by f (take q xs) + sum_by f (slice_range xs q y)
split f xs q y h =
    let e : y ≡ q + (y - q) = omega arith in
    ap (λ n. sum_by f (take n xs)) e ∙ (ap (sum_by f) (take-add q (y - q) xs) ∙ sum_by-append f (take q xs) (take (y - q) (drop q xs)))

-- one more is of one kind, of the other, or of neither
record OneMore (a b c d : ℕ) : Type 0 where
  first : a ≤ b
  second : c ≤ d
  one : b + d ≤ a + c + 1

one_more : {X : Type 0} (f g : X → ℕ) → ((x : X) → f x + g x ≤ 1) → (n : ℕ) (xs : List X)
    → OneMore (sum_by f (take n xs)) (sum_by f (take (suc n) xs)) (sum_by g (take n xs)) (sum_by g (take (suc n) xs))
one_more f g h zero [] = record { first = omega arith; second = omega arith; one = omega arith }
one_more f g h zero (x ∷ xs) = record { first = omega arith; second = omega arith; one = omega (arith, h x) }
one_more f g h (suc n) [] = record { first = omega arith; second = omega arith; one = omega arith }
one_more f g h (suc n) (x ∷ xs) =
    let r = one_more f g h n xs in
    let a : sum_by f (take (suc n) (x ∷ xs)) ≡ f x + sum_by f (take n xs) = sum_by-cons f x (take n xs) in
    let b : sum_by f (take (suc (suc n)) (x ∷ xs)) ≡ f x + sum_by f (take (suc n) xs) = sum_by-cons f x (take (suc n) xs) in
    let c : sum_by g (take (suc n) (x ∷ xs)) ≡ g x + sum_by g (take n xs) = sum_by-cons g x (take n xs) in
    let d : sum_by g (take (suc (suc n)) (x ∷ xs)) ≡ g x + sum_by g (take (suc n) xs) = sum_by-cons g x (take (suc n) xs) in
    record { first = omega (arith, r.first, a, b); second = omega (arith, r.second, c, d); one = omega (arith, r.one, a, b, c, d) }

one_part : (p : Part) → (if opens p then 1 else 0) + (if closes p then 1 else 0) ≤ 1
one_part Opens = omega arith
one_part Closes = omega arith
one_part Within = omega arith

one_meaning : (o : Option Meaning) → (if has is_opening o then 1 else 0) + (if has is_closing o then 1 else 0) ≤ 1
one_meaning None = omega arith
one_meaning (Some m) = one_part (part_of m)

found : {X : Type 0} (test : X → Bool) (o : Option X) → has test o ≡ true → (x : X) × (o ≡ Some x) × (test x ≡ true)
found test None h = absurd (cc)
found test (Some x) h = (x, refl, h)

module _ (profile : Profile) (code : List Instruction) where
  abbrev opening : Instruction → ℕ
  opening i = if means profile is_opening i then 1 else 0

  abbrev closing : Instruction → ℕ
  closing i = if means profile is_closing i then 1 else 0

  abbrev o : ℕ → ℕ
  o n = sum_by opening (take n code)

  abbrev c : ℕ → ℕ
  c n = sum_by closing (take n code)

  more : (n : ℕ) → OneMore (o n) (o (n + 1)) (c n) (c (n + 1))
  more n =
      let s : suc n ≡ n + 1 = omega arith in
      subst (λ m. OneMore (o n) (o m) (c n) (c m)) s (one_more opening closing (λ i. one_meaning (meaning_of profile i.code)) n code)

  -- what a close is
  record IsClose (q e : ℕ) : Type 0 where
    after : q < e
    opened : o (q + 1) ≡ o q + 1
    even : o (e + 1) + c q ≡ o q + c (e + 1)
    none : (x : ℕ) → q < x → x < e → o (x + 1) + c q ≡ o q + c (x + 1) → ⊥

  even_told : (q x : ℕ) → q < x → is_even profile code q x ≡ true → o (x + 1) + c q ≡ o q + c (x + 1)
  even_told q x h e =
      let k : sum_by closing (slice_range code q (x + 1)) ≡ sum_by opening (slice_range code q (x + 1)) = grind (arith, nat_tests, e) in
      omega (arith, k, split opening code q (x + 1) (omega (arith, h)), split closing code q (x + 1) (omega (arith, h)))

  uneven : (q x : ℕ) → q < x → is_even profile code q x ≡ false → o (x + 1) + c q ≡ o q + c (x + 1) → ⊥
  uneven q x h e k =
      let l : sum_by closing (slice_range code q (x + 1)) ≡ sum_by opening (slice_range code q (x + 1)) =
      omega (arith, k, split opening code q (x + 1) (omega (arith, h)), split closing code q (x + 1) (omega (arith, h))) in
      grind (arith, nat_tests, e, l)

  close_told : (q e : ℕ) → close profile code q ≡ Some e → IsClose q e
  close_told q e h = by_test (has (means profile is_opening) (slice_get code q)) refl h
    where
      opens_there : has (means profile is_opening) (slice_get code q) ≡ true → o (q + 1) ≡ o q + 1
      opens_there t =
          let f = found (means profile is_opening) (slice_get code q) t in
          ap (sum_by opening) (front_more code q f.0 f.1) ∙ (sum_by_push opening (take q code) f.0 ∙ ap (λ b. o q + (if b then 1 else 0)) f.2)

      by_test : (b : Bool) → has (means profile is_opening) (slice_get code q) ≡ b → (if b then least (is_even profile code q) (q + 1) (length code - (q + 1)) else None) ≡ Some e → IsClose q e
      by_test true t h =
          let r = least_told (is_even profile code q) (q + 1) (length code - (q + 1)) e h in record {
            after = omega (arith, r.after);
            opened = opens_there t;
            even = even_told q e (omega (arith, r.after)) r.holds;
            none = λ x l m. uneven q x l (r.none x (omega (arith, l)) m);
          }
      by_test false t h = absurd (cc)

  -- Up to its close a construct is open.
  open_until : (q e : ℕ) → IsClose q e → (k : ℕ) → q + k < e → o q + c (q + k + 1) < o (q + k + 1) + c q
  open_until q e h zero l =
      let s : q + zero + 1 ≡ q + 1 = omega arith in
      subst (λ n. o q + c n < o n + c q) (sym s) (let m = more q in omega (arith, h.opened, m.second, m.one))
  open_until q e h (suc k) l =
      let s : q + suc k + 1 ≡ q + k + 1 + 1 = omega arith in
      let n = h.none (q + suc k) (omega arith) l in
      let m = more (q + k + 1) in
      let r = open_until q e h k (omega (arith, l)) in
      let differ : o (q + k + 1 + 1) + c q ≡ o q + c (q + k + 1 + 1) → ⊥ = subst (λ n. o n + c q ≡ o q + c n → ⊥) s n in
      subst (λ n. o q + c n < o n + c q) (sym s) (below _ _ _ _ _ _ r m.first m.second m.one differ)
    where
      below : (a b x y v w : ℕ) → a + x < v + b → v ≤ w → x ≤ y → w + y ≤ v + x + 1 → (w + b ≡ a + y → ⊥) → a + y < w + b
      below a b x y v w h k l m n = grind (arith, h, k, l, m, n)

  -- The close of an opening stands before that of an earlier one, if that is not before the opening.
  nested : (q r e d : ℕ) → q < r → IsClose q e → IsClose r d → r ≤ e → d < e
  nested q r e d l h k b = elim (cases_lt d e) [ inl s ↦ s | inr s ↦ absurd (not_before s) ]
    where
      before_r : o q + c r < o r + c q
      before_r =
          let n : q + (r - (q + 1)) + 1 ≡ r = omega (arith, l) in
          subst (λ x. o q + c x < o x + c q) n (open_until q e h (r - (q + 1)) (omega (arith, l, b)))

      at_e : e < d → o r + c (e + 1) < o (e + 1) + c r
      at_e m =
          let n : r + (e - r) ≡ e = omega (arith, b) in
          subst (λ x. o r + c (x + 1) < o (x + 1) + c r) n (open_until r d k (e - r) (omega (arith, b, m)))

      not_before : e ≤ d → ⊥
      not_before s = elim (cases_lt e d) [
        | inl m ↦ omega (arith, at_e m, h.even, before_r)
        | inr m ↦ let n : d ≡ e = omega (arith, s, m) in omega (arith, subst (λ x. o (x + 1) + c r ≡ o r + c (x + 1)) n k.even, h.even, before_r)
      ]

pub closes_nest : (profile : Profile) (code : List Instruction) (q r c d : ℕ) → q < r → close profile code q ≡ Some c → close profile code r ≡ Some d → r < c → d < c
closes_nest profile code q r c d l h k b = nested profile code q r c d l (close_told profile code q c h) (close_told profile code r d k) (omega (arith, b))

pub apart_or_nested : (profile : Profile) (code : List Instruction) (q r c d : ℕ) → q < r → close profile code q ≡ Some c → close profile code r ≡ Some d → (c < r) ⊎ (d < c)
apart_or_nested profile code q r c d l h k =
    elim (cases_lt c r) [ inl b ↦ inl b | inr b ↦ inr (nested profile code q r c d l (close_told profile code q c h) (close_told profile code r d k) b) ]
