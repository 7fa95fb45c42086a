-- What is found around a place, in terms of the openings that are kept.
use Rattle.std.proofs.Common.{◌≡◌, ℕ, zero, suc, ◌+◌, ◌<◌, ◌≤◌, inl, inr, Bool, true, false, ◌&&◌, List, ◌∷◌, length, Option, Some, None, refl, sym, ap, ◌∙◌, subst, arith}
use Rattle.std.specs.Prelude.{slice_get, nat_eq, if◌then◌else◌}
use Rattle.std.proofs.lemmas.Bool.{cases_lt}
use Rattle.std.proofs.lemmas.Bool.Decides.{nat_tests}
use Rattle.tpf_decode.specs.Profiles.{Base}
use Rattle.tpf_decode.specs.Opcodes.{meaning_of}
use Rattle.tpf_decode.specs.declared.meaning.Meaning.{Meaning}
use Rattle.tpf_program.specs.declared.instruction.Instruction.{Instruction}
use Rattle.tpf_program.specs.Ends.{is_opening, has, means, close, reaches, is_around, last_below, count_below, innermost, is_same, is_direct}
use Rattle.tpf_program.specs.Nesting.{inner, depth}
use Rattle.shader_check.specs.Nested.{all_below, openings, first_number, first_of}
use Rattle.shader_check.proofs.NestedCounts.{a, o, c, Counted, counted}

-- the last, how many, and the last of a sort
pub last_is_first : (test : ℕ → Bool) (u : ℕ) → last_below test u ≡ first_number (all_below test u)
last_is_first test zero = refl
last_is_first test (suc n) = by_test (test n) (last_is_first test n)
  where
    by_test : (b : Bool) → last_below test n ≡ first_number (all_below test n)
        → (if b then Some n else last_below test n) ≡ first_number (if b then n ∷ all_below test n else all_below test n)
    by_test true e = refl
    by_test false e = e

pub count_is_length : (test : ℕ → Bool) (u : ℕ) → count_below test u ≡ length (all_below test u)
count_is_length test zero = refl
count_is_length test (suc n) = by_test (test n) (count_is_length test n)
  where
    by_test : (b : Bool) → count_below test n ≡ length (all_below test n)
        → ((if b then 1 else 0) + count_below test n) ≡ length (if b then n ∷ all_below test n else all_below test n)
    by_test true e = omega (arith, e)
    by_test false e = omega (arith, e)

has_more : (sort : Meaning → Bool) → ((m : Meaning) → sort m ≡ true → is_opening m ≡ true) → (i : Option Instruction)
    → has (means Base sort) i ≡ true → has (means Base is_opening) i ≡ true
has_more sort h None e = absurd (cc)
has_more sort h (Some i) e = more (meaning_of Base i.code) e
  where
    more : (m : Option Meaning) → has sort m ≡ true → has is_opening m ≡ true
    more None e = absurd (cc)
    more (Some m) e = h m e

module _ (code : List Instruction) where
  pub inner_is_first : (q : ℕ) → inner Base code q ≡ first_number (openings code q)
  inner_is_first q = last_is_first (a code q) q

  pub depth_is_length : (q : ℕ) → depth Base code q ≡ length (openings code q)
  depth_is_length q = count_is_length (a code q) q

  last_of_sort : (sort : Meaning → Bool) → ((m : Meaning) → sort m ≡ true → is_opening m ≡ true) → (q u : ℕ)
      → last_below (is_around Base true sort code q) u ≡ first_of sort code (all_below (a code q) u)
  last_of_sort sort h q zero = refl
  last_of_sort sort h q (suc n) =
      by_test (has (means Base sort) (slice_get code n)) refl (has (means Base is_opening) (slice_get code n)) refl
      (reaches true q (close Base code n)) (last_of_sort sort h q n)
    where
      by_test : (s : Bool) → has (means Base sort) (slice_get code n) ≡ s → (p : Bool) → has (means Base is_opening) (slice_get code n) ≡ p → (r : Bool)
          → last_below (is_around Base true sort code q) n ≡ first_of sort code (all_below (a code q) n)
          → (if s && r then Some n else last_below (is_around Base true sort code q) n)
          ≡ first_of sort code (if p && r then n ∷ all_below (a code q) n else all_below (a code q) n)
      by_test true e true f true k = sym (ap (λ b. if b then Some n else first_of sort code (all_below (a code q) n)) e)
      by_test true e true f false k = k
      by_test true e false f r k = let m = has_more sort h (slice_get code n) e in absurd (cc)
      by_test false e true f true k = k ∙ sym (ap (λ b. if b then Some n else first_of sort code (all_below (a code q) n)) e)
      by_test false e true f false k = k
      by_test false e false f r k = k

  pub innermost_is_first : (sort : Meaning → Bool) → ((m : Meaning) → sort m ≡ true → is_opening m ≡ true) → (q : ℕ)
      → innermost Base true sort code q ≡ first_of sort code (openings code q)
  innermost_is_first sort h q = last_of_sort sort h q q

  -- an opening around a place is the innermost, or more is open
  pub data Standing (m n k : ℕ) (found : Option ℕ) : Type 0 where
    Innermost : found ≡ Some n → o code m + c code n ≡ o code n + c code m + k + 1 → Standing m n k found
    Outer : is_same found (Some n) ≡ false → (d : ℕ) → o code m + c code n ≡ o code n + c code m + k + d + 2 → Standing m n k found

  standing : (m n k u : ℕ) → n < u → a code m n ≡ true → Counted code m k (all_below (a code m) u) → Standing m n k (first_number (all_below (a code m) u))
  standing m n k zero h e r = absurd (omega (arith, h))
  standing m n k (suc u) h e r = elim (cases_lt n u) [ inl s ↦ below s (a code m u) refl r (λ k. standing m n k u s e) | inr s ↦ here (omega (arith, s, h)) (a code m u) refl r ]
    where
      here : n ≡ u → (b : Bool) → a code m u ≡ b → Counted code m k (if b then u ∷ all_below (a code m) u else all_below (a code m) u)
          → Standing m n k (first_number (if b then u ∷ all_below (a code m) u else all_below (a code m) u))
      here s true t r = Innermost (ap Some (sym s)) (subst (λ x. o code m + c code x ≡ o code x + c code m + k + 1) (sym s) r.0)
      here s false t r = let x : a code m u ≡ true = subst (λ x. a code m x ≡ true) s e in absurd (cc)

      deeper : n < u → Standing m n (k + 1) (first_number (all_below (a code m) u)) → Standing m n k (Some u)
      deeper s (Innermost f g) = Outer (grind (arith, nat_tests, s)) 0 (omega (arith, g))
      deeper s (Outer f d g) = Outer (grind (arith, nat_tests, s)) (d + 1) (omega (arith, g))

      below : n < u → (b : Bool) → a code m u ≡ b → Counted code m k (if b then u ∷ all_below (a code m) u else all_below (a code m) u)
          → ((k : ℕ) → Counted code m k (all_below (a code m) u) → Standing m n k (first_number (all_below (a code m) u)))
          → Standing m n k (first_number (if b then u ∷ all_below (a code m) u else all_below (a code m) u))
      below s true t r next = deeper s (next (k + 1) r.1)
      below s false t r next = next k r

  pub stands : (m n : ℕ) → n < m → m ≤ length code → a code m n ≡ true → Standing m n 0 (inner Base code m)
  stands m n h l e = subst (Standing m n 0) (sym (inner_is_first m)) (standing m n 0 m h e (counted code m l))

  reaches_less : (m q : ℕ) (x : Option ℕ) → m ≤ q → reaches true q x ≡ true → reaches true m x ≡ true
  reaches_less m q None h e = refl
  reaches_less m q (Some x) h e = grind (arith, nat_tests, h, e)

  pub around_less : (m q n : ℕ) → m ≤ q → a code q n ≡ true → a code m n ≡ true
  around_less m q n h e = by_test (has (means Base is_opening) (slice_get code n)) e
    where
      by_test : (b : Bool) → (b && reaches true q (close Base code n)) ≡ true → (b && reaches true m (close Base code n)) ≡ true
      by_test true e = reaches_less m q (close Base code n) h e
      by_test false e = absurd (cc)

  pub direct_at : (test : Instruction → Bool) (n m q d : ℕ) (i : Instruction) → n < m → m ≤ q → q ≤ length code → a code q n ≡ true → slice_get code m ≡ Some i
      → o code m + c code n ≡ o code n + c code m + d + 1 → is_direct Base true test code (Some n) m ≡ (test i && nat_eq d 0)
  direct_at test n m q d i h l k e at w = by_standing (stands m n h (omega (arith, l, k)) (around_less m q n l e))
    where
      by_standing : Standing m n 0 (inner Base code m) → is_direct Base true test code (Some n) m ≡ (test i && nat_eq d 0)
      by_standing (Innermost f g) =
          let z : nat_eq d 0 ≡ true = grind (arith, nat_tests, g, w) in
          let y : nat_eq n n ≡ true = grind (arith, nat_tests) in
          ap (λ x. has test x && is_same (inner Base code m) (Some n)) at ∙ (ap (λ x. test i && is_same x (Some n)) f ∙ ap (λ b. test i && b) (y ∙ sym z))
      by_standing (Outer f x g) =
          let z : nat_eq d 0 ≡ false = grind (arith, nat_tests, g, w) in
          ap (λ x. has test x && is_same (inner Base code m) (Some n)) at ∙ ap (λ b. test i && b) (f ∙ sym z)
