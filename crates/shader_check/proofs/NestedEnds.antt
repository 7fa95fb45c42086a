-- What is left open at the end, and the last instruction.
use Rattle.std.proofs.Common.{◌≡◌, ℕ, zero, suc, ◌+◌, ◌-◌, ◌<◌, ◌≤◌, inl, inr, Bool, true, false, not, ◌&&◌, List, [], ◌∷◌, ◌++◌, length, Option, Some, None, refl, sym, ap, ◌∙◌, subst, arith}
use Rattle.std.specs.Prelude.{slice_get, is_none, if◌then◌else◌}
use Rattle.std.proofs.lemmas.Bool.{cases_lt}
use Rattle.std.proofs.lemmas.Bool.Decides.{nat_tests}
use Rattle.std.proofs.lemmas.Option.{slice_get_within}
use Rattle.word_base.specs.declared.rule.Rule.TheVariants.{S2, S9}
use Rattle.word_base.specs.Rules.{broken, first, refusal}
use Rattle.tpf_decode.specs.Profiles.{Base}
use Rattle.tpf_decode.specs.Opcodes.{meaning_of}
use Rattle.tpf_decode.specs.declared.meaning.Meaning.{Meaning}
use Rattle.tpf_decode.specs.declared.meaning.Meaning.TheVariants.{Return}
use Rattle.tpf_program.specs.declared.instruction.Instruction.{Instruction}
use Rattle.tpf_program.specs.Program.{AreInOrder}
use Rattle.tpf_program.specs.Ends.{Within, has, means, is_opening, least, is_even, close, reaches}
use Rattle.tpf_program.specs.Nesting.{open_from, last_from, inner, is_return}
use Rattle.shader_check.specs.Nested.{all_below, openings, first_number, last_number, part_of_any, passed}
use Rattle.shader_check.proofs.NestedCounts.{a, openings_next}
use Rattle.shader_check.proofs.NestedFinds.{inner_is_first}
use Rattle.shader_check.proofs.Orders.{phase_of, Late, late_none, late_joined, first_wins}

least_before : (test : ℕ → Bool) (at n c : ℕ) → least test at n ≡ Some c → c < at + n
least_before test at zero c h = absurd (cc)
least_before test at (suc n) c h = by_test (test at) h (least_before test (at + 1) n)
  where
    by_test : (b : Bool) → (if b then Some at else least test (at + 1) n) ≡ Some c → ((c : ℕ) → least test (at + 1) n ≡ Some c → c < at + 1 + n) → c < at + suc n
    by_test true h next = let k : at ≡ c = cc in omega (arith, k)
    by_test false h next = omega (arith, next c h)

none_reached : (o : Option ℕ) (q : ℕ) → ((c : ℕ) → o ≡ Some c → c < q) → reaches true q o ≡ is_none o
none_reached None q h = refl
none_reached (Some c) q h = grind (arith, nat_tests, h c refl)

none_below : (test : ℕ → Bool) (u n : ℕ) → all_below test u ≡ [] → n < u → test n ≡ false
none_below test zero n h l = absurd (omega (arith, l))
none_below test (suc u) n h l = by_test (test u) refl h (none_below test u n)
  where
    by_test : (b : Bool) → test u ≡ b → (if b then u ∷ all_below test u else all_below test u) ≡ [] → (all_below test u ≡ [] → n < u → test n ≡ false) → test n ≡ false
    by_test true e h next = absurd (cc)
    by_test false e h next = elim (cases_lt n u) [
      | inl s ↦ next h s
      | inr s ↦ let z : u ≡ n = omega (arith, s, l) in subst (λ x. test x ≡ false) z e
    ]

module _ (code : List Instruction) where
  unclosed : (n : ℕ) → n < length code → a code (length code) n ≡ (has (means Base is_opening) (slice_get code n) && is_none (close Base code n))
  unclosed n h = by_test (has (means Base is_opening) (slice_get code n))
    where
      by_test : (b : Bool)
          → (b && reaches true (length code) (if b then least (is_even Base code n) (n + 1) (length code - (n + 1)) else None))
          ≡ (b && is_none (if b then least (is_even Base code n) (n + 1) (length code - (n + 1)) else None))
      by_test true = none_reached (least (is_even Base code n) (n + 1) (length code - (n + 1))) (length code)
          (λ c e. omega (arith, h, least_before (is_even Base code n) (n + 1) (length code - (n + 1)) c e))
      by_test false = refl

  all_closed : openings code (length code) ≡ [] → (q : ℕ) (is : List Instruction) → ((k : ℕ) → slice_get is k ≡ slice_get code (q + k)) → open_from Base code q is ≡ []
  all_closed h q [] s = refl
  all_closed h q (i ∷ is) s =
      let z : q + 0 ≡ q = omega arith in
      let at : slice_get code q ≡ Some i = sym (s 0 ∙ ap (slice_get code) z) in
      let l : q < length code = slice_get_within code q i at in
      let c : (means Base is_opening i && is_none (close Base code q)) ≡ false =
      ap (λ x. has (means Base is_opening) x && is_none (close Base code q)) (sym at)
      ∙ (sym (unclosed q l) ∙ none_below (a code (length code)) (length code) q h l) in
      ap (λ b. broken b S2 i.place ++ open_from Base code (q + 1) is) c
      ∙ all_closed h (q + 1) is (λ k. let e : q + suc k ≡ q + 1 + k = omega arith in s (suc k) ∙ ap (slice_get code) e)

  pub nothing_open : openings code (length code) ≡ [] → open_from Base code 0 code ≡ []
  nothing_open h = all_closed h 0 code (λ k. let e : k ≡ 0 + k = omega arith in ap (slice_get code) e)

last_none : (xs : List ℕ) → last_number xs ≡ None → xs ≡ []
last_none [] h = refl
last_none (n ∷ []) h = absurd (cc)
last_none (n ∷ m ∷ rest) h = let k = last_none (m ∷ rest) h in absurd (cc)

pub none_left : (code : List Instruction) → last_number (openings code (length code)) ≡ None → open_from Base code 0 code ≡ []
none_left code h = nothing_open code (last_none (openings code (length code)) h)

-- the outermost that is left
pub record IsFirstLeft (test : ℕ → Bool) (u n : ℕ) : Type 0 where
  pub below : n < u
  pub holds : test n ≡ true
  pub none : (m : ℕ) → m < n → test m ≡ false

first_left : (test : ℕ → Bool) (u n : ℕ) → last_number (all_below test u) ≡ Some n → IsFirstLeft test u n
first_left test zero n h = absurd (cc)
first_left test (suc u) n h = by_test (test u) refl h (first_left test u n)
  where
    by_rest : test u ≡ true → (xs : List ℕ) → all_below test u ≡ xs → last_number (u ∷ xs) ≡ Some n
        → (last_number xs ≡ Some n → IsFirstLeft test u n) → IsFirstLeft test (suc u) n
    by_rest e [] k h next =
        let z : u ≡ n = cc in
        record { below = omega (arith, z); holds = subst (λ x. test x ≡ true) z e; none = λ m l. none_below test u m k (omega (arith, l, z)) }
    by_rest e (y ∷ ys) k h next = let r = next h in record { below = omega (arith, r.below); holds = r.holds; none = r.none }

    by_test : (b : Bool) → test u ≡ b → last_number (if b then u ∷ all_below test u else all_below test u) ≡ Some n
        → (last_number (all_below test u) ≡ Some n → IsFirstLeft test u n) → IsFirstLeft test (suc u) n
    by_test true e h next = by_rest e (all_below test u) refl h next
    by_test false e h next = let r = next h in record { below = omega (arith, r.below); holds = r.holds; none = r.none }

-- openings that are left behind a place
pub late_open : (code : List Instruction) (low q : ℕ) (is : List Instruction) → ((n : ℕ) (i : Instruction) → slice_get is n ≡ Some i → low ≤ i.place) → Late 7 low (first (open_from Base code q is))
late_open code low q [] h = late_none 7 low
late_open code low q (i ∷ is) h = by_test (means Base is_opening i && is_none (close Base code q)) (late_open code low (q + 1) is (λ n j e. h (suc n) j e))
  where
    by_test : (b : Bool) → Late 7 low (first (open_from Base code (q + 1) is)) → Late 7 low (first (broken b S2 i.place ++ open_from Base code (q + 1) is))
    by_test false k = k
    by_test true k = late_joined 7 low (Some (refusal S2 i.place)) (first (open_from Base code (q + 1) is))
        (record { each = λ r e. let z : refusal S2 i.place ≡ r = cc in (sym (ap phase_of z), omega (arith, h 0 i refl, ap (λ x. x.place) z)) }) k

module _ (code : List Instruction) (words : ℕ) (ordered : AreInOrder (λ i. i.place) words code) (n : ℕ) (j : Instruction) (left : IsFirstLeft (a code (length code)) (length code) n) (there : slice_get code n ≡ Some j) where
  left_from : (q : ℕ) (is : List Instruction) → q ≤ n → n < q + length is → ((k : ℕ) → slice_get is k ≡ slice_get code (q + k)) → first (open_from Base code q is) ≡ Some (refusal S2 j.place)
  left_from q [] h m s = absurd (omega (arith, h, m))
  left_from q (i ∷ is) h m s = elim (cases_lt q n) [
    | inl b ↦ later b (left_from (q + 1) is (omega (arith, b)) (omega (arith, m)) (λ k. let e : q + suc k ≡ q + 1 + k = omega arith in s (suc k) ∙ ap (slice_get code) e))
    | inr b ↦ here (omega (arith, h, b))
  ]
    where
      at : slice_get code q ≡ Some i
      at = let z : q + 0 ≡ q = omega arith in sym (s 0 ∙ ap (slice_get code) z)

      as_open : (b : Bool) → a code (length code) q ≡ b → (means Base is_opening i && is_none (close Base code q)) ≡ b
      as_open b e = ap (λ x. has (means Base is_opening) x && is_none (close Base code q)) (sym at) ∙ (sym (unclosed code q (slice_get_within code q i at)) ∙ e)

      later : q < n → first (open_from Base code (q + 1) is) ≡ Some (refusal S2 j.place) → first (open_from Base code q (i ∷ is)) ≡ Some (refusal S2 j.place)
      later b next =
          ap (λ b. first (broken b S2 i.place ++ open_from Base code (q + 1) is)) (as_open false (left.none q b)) ∙ next

      here : q ≡ n → first (open_from Base code q (i ∷ is)) ≡ Some (refusal S2 j.place)
      here e =
          let same : Some i ≡ Some j = sym at ∙ (ap (slice_get code) e ∙ there) in
          let k : i ≡ j = cc in
          ap (λ b. first (broken b S2 i.place ++ open_from Base code (q + 1) is)) (as_open true (subst (λ x. a code (length code) x ≡ true) (sym e) left.holds))
          ∙ (first_wins 7 (refusal S2 i.place) (first (open_from Base code (q + 1) is)) (omega arith) refl
          (late_open code (i.place + 1) (q + 1) is (λ m x y. let z = ordered.ascend q (q + 1 + m) i x (omega arith) at (sym (s (suc m) ∙ ap (slice_get code) (omega arith)) ∙ y) in omega (arith, z)))
          ∙ ap (λ x. Some (refusal S2 x.place)) k)

pub one_left : (code : List Instruction) (words : ℕ) → AreInOrder (λ i. i.place) words code → (n : ℕ) (j : Instruction)
    → last_number (openings code (length code)) ≡ Some n → slice_get code n ≡ Some j → first (open_from Base code 0 code) ≡ Some (refusal S2 j.place)
one_left code words o n j h e =
    let l = first_left (a code (length code)) (length code) n h in
    left_from code words o n j l e 0 code (omega arith) (omega (arith, l.below)) (λ k. let z : k ≡ 0 + k = omega arith in ap (slice_get code) z)

pub left_there : (code : List Instruction) (n : ℕ) → last_number (openings code (length code)) ≡ Some n → n < length code
left_there code n h = (first_left (a code (length code)) (length code) n h).below

-- THE LAST instruction
returns_within : (m : Option Meaning) → has is_return m ≡ true → part_of_any m ≡ Within
returns_within None h = absurd (cc)
returns_within (Some Return) h = refl
returns_within (Some m) h = absurd (cc)

module _ (words : ℕ) (code : List Instruction) (i : Instruction) (q : ℕ) (at : slice_get code q ≡ Some i) (end : q + 1 ≡ length code) where
  lasts : (k : ℕ) (j : Instruction) (is : List Instruction) → k + 1 + length is ≡ length code → ((m : ℕ) → slice_get (j ∷ is) m ≡ slice_get code (k + m))
      → last_from Base words code k (j ∷ is) ≡ broken (not (means Base is_return i && is_none (inner Base code q))) S9 i.place
  lasts k j [] e s =
      let l : k + 0 ≡ q = omega (arith, e, end) in
      let m : k ≡ q = omega (arith, e, end) in
      let same : Some j ≡ Some i = s 0 ∙ (ap (slice_get code) l ∙ at) in
      let z : j ≡ i = cc in
      ap (λ x. broken (not (means Base is_return x && is_none (inner Base code k))) S9 x.place) z
      ∙ ap (λ x. broken (not (means Base is_return i && is_none (inner Base code x))) S9 i.place) m
  lasts k j (x ∷ is) e s = lasts (k + 1) x is (omega (arith, e)) (λ m. let z : k + suc m ≡ k + 1 + m = omega arith in s (suc m) ∙ ap (slice_get code) z)

pub last_is : (words : ℕ) (code : List Instruction) (i : Instruction) (q : ℕ) → slice_get code q ≡ Some i → q + 1 ≡ length code
    → last_from Base words code 0 code ≡ broken (not (means Base is_return i && is_none (inner Base code q))) S9 i.place
last_is words [] i q at end = absurd (cc)
last_is words (j ∷ is) i q at end = lasts words (j ∷ is) i q at end 0 j is (omega arith) (λ k. let z : k ≡ 0 + k = omega arith in ap (slice_get (j ∷ is)) z)

-- where all are closed the last instruction is outside of all, if it is `ret`
pub last_told : (words : ℕ) (code : List Instruction) (i : Instruction) → last_number (openings code (length code)) ≡ None → slice_get code (length code - 1) ≡ Some i
    → first (last_from Base words code 0 code) ≡ first (broken (not (means Base is_return i)) S9 i.place)
last_told words code i h at =
    let l = slice_get_within code (length code - 1) i at in
    ap first (last_is words code i (length code - 1) at (omega (arith, l))
    ∙ ap (λ b. broken (not b) S9 i.place) (by_test (means Base is_return i) refl (omega (arith, l))))
  where
    by_test : (b : Bool) → means Base is_return i ≡ b → length code - 1 + 1 ≡ length code → (b && is_none (inner Base code (length code - 1))) ≡ b
    by_test false e l = refl
    by_test true e l =
        let x : openings code (length code - 1) ≡ [] = sym (openings_next code (length code - 1) i at ∙ ap (λ p. passed p (length code - 1) (openings code (length code - 1))) (returns_within (meaning_of Base i.code) e))
        ∙ (ap (openings code) l ∙ last_none (openings code (length code)) h) in
        ap is_none (inner_is_first code (length code - 1) ∙ ap first_number x)

pub last_missing : (words : ℕ) (code : List Instruction) → length code ≡ 0 → first (last_from Base words code 0 code) ≡ Some (refusal S9 words)
last_missing words [] h = refl
last_missing words (i ∷ is) h = absurd (omega (arith, h))
