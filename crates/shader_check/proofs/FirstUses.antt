-- The first rule that the instructions before a place break by what they use.
use Rattle.std.proofs.Common.{◌≡◌, ℕ, zero, suc, ◌+◌, ◌<◌, ◌≤◌, ◌⊎◌, inl, inr, List, [], ◌∷◌, ◌++◌, drop, Bool, true, false, ◌||◌, if◌then◌else◌, Option, Some, None, refl, sym, ap, ◌∙◌, subst, arith}
use Rattle.std.specs.Prelude.{slice_get, flat_map, nat_le}
use Rattle.std.specs.List.{list_any}
use Rattle.std.proofs.lemmas.Bool.{cases_lt}
use Rattle.std.proofs.lemmas.Bool.Decides.{nat_tests}
use Rattle.word_base.specs.declared.rule.Refusal.{Refusal}
use Rattle.word_base.specs.declared.rule.Rule.{Rule}
use Rattle.word_base.specs.declared.rule.Rule.TheVariants.{L5, L6, L8}
use Rattle.word_base.specs.Rules.{broken, comes_before, first, refusal}
use Rattle.tpf_decode.specs.Profiles.{Base}
use Rattle.tpf_decode.specs.Opcodes.{meaning_of}
use Rattle.tpf_decode.specs.declared.meaning.Meaning.{Meaning}
use Rattle.tpf_program.specs.declared.declaration.Declared.{Declared}
use Rattle.tpf_program.specs.declared.instruction.Instruction.{Instruction}
use Rattle.tpf_program.specs.Program.{AreInOrder}
use Rattle.tpf_program.specs.Uses.{Use, is_missing, is_past, is_other_view, refusals_by, up_to, uses}
use Rattle.shader_check.specs.declared.things.Things.{Things}
use Rattle.shader_check.specs.Things.{is_absent, is_behind, is_other, or_later, rule_among, rule_using, rule_with, used_before}
use Rattle.shader_check.proofs.Least.{first_append, same_place, joined}
use Rattle.shader_check.proofs.Orders.{phase_of, Late, late_none, late_joined, first_wins}
use Rattle.shader_check.proofs.Tables.{Lists, absent, behind, other}
use Rattle.shader_check.proofs.Walk.{left}

-- ALONG THE LIST
module _ (t : Things) (end : ℕ) (is : List Instruction) (k : ℕ) (i : Instruction) (at : slice_get is k ≡ Some i) (h : used_before t end (drop k is) ≡ used_before t end is) where
  one : (if nat_le end i.place then None else or_later (rule_using t i) i.place (used_before t end (drop (k + 1) is))) ≡ used_before t end is
  one = left (used_before t end) is k i at h

  pub used_stops : end ≤ i.place → None ≡ used_before t end is
  used_stops l =
      let b : nat_le end i.place ≡ true = grind (arith, nat_tests, l) in
      sym (ap (λ b. if b then None else or_later (rule_using t i) i.place (used_before t end (drop (k + 1) is))) b) ∙ one

  within : i.place < end → or_later (rule_using t i) i.place (used_before t end (drop (k + 1) is)) ≡ used_before t end is
  within l =
      let b : nat_le end i.place ≡ false = grind (arith, nat_tests, l) in
      sym (ap (λ b. if b then None else or_later (rule_using t i) i.place (used_before t end (drop (k + 1) is))) b) ∙ one

  pub used_found : i.place < end → (rule : Rule) → rule_using t i ≡ Some rule → Some (refusal rule i.place) ≡ used_before t end is
  used_found l rule e = sym (ap (λ o. or_later o i.place (used_before t end (drop (k + 1) is))) e) ∙ within l

  pub used_later : i.place < end → rule_using t i ≡ None → used_before t end (drop (k + 1) is) ≡ used_before t end is
  used_later l e = sym (ap (λ o. or_later o i.place (used_before t end (drop (k + 1) is))) e) ∙ within l

-- ONE INSTRUCTION
abbrev first_used : Bool → Bool → Bool → ℕ → Option Refusal
first_used a b c place = or_later (rule_among (record { missing = a; past = b; other = c })) place None

-- of the rules that are broken at one place the one with the lowest number counts
at_place : (a b c : Bool) (place : ℕ) → first (broken a L5 place ++ broken b L6 place ++ broken c L8 place) ≡ first_used a b c place
at_place false false false place = refl
at_place false false true place = refl
at_place false true false place = refl
at_place false true true place = rw (same_place place) refl
at_place true false false place = refl
at_place true false true place = rw (same_place place) refl
at_place true true false place = rw (same_place place) refl
at_place true true true place = rw (same_place place) rw (same_place place) refl

abbrev IsAt : ℕ → Option Refusal → Type 0
IsAt place o = (q : Refusal) → o ≡ Some q → (phase_of q ≡ 6) × (q.place ≡ place)

used_at : (a b c : Bool) (place : ℕ) → IsAt place (first_used a b c place)
used_at true b c place q h = let e : refusal L5 place ≡ q = cc in (sym (ap phase_of e), sym (ap (λ x. x.place) e))
used_at false true c place q h = let e : refusal L6 place ≡ q = cc in (sym (ap phase_of e), sym (ap (λ x. x.place) e))
used_at false false true place q h = let e : refusal L8 place ≡ q = cc in (sym (ap phase_of e), sym (ap (λ x. x.place) e))
used_at false false false place q h = absurd (cc)

each_use : (p q : Use → Bool) → ((u : Use) → p u ≡ q u) → (us : List Use) → list_any p us ≡ list_any q us
each_use p q f [] = refl
each_use p q f (u ∷ us) = ap (λ b. b || list_any p us) (f u) ∙ ap (λ b. q u || b) (each_use p q f us)

-- by the table, as by the declarations that it lists
by_table : (ds : List Declared) (t : Things) → Lists ds t → (i : Instruction) (m : Option Meaning)
    → first (refusals_by [] ds m i) ≡ or_later (rule_with t i m) i.place None
by_table ds t h i None = refl
by_table ds t h i (Some meaning) =
    let us = uses meaning i in
    at_place (list_any (is_missing ds) us) (list_any (is_past ds) us) (list_any (is_other_view [] ds meaning) us) i.place
    ∙ (ap (λ b. first_used b (list_any (is_past ds) us) (list_any (is_other_view [] ds meaning) us) i.place) (sym (each_use (is_absent t) (is_missing ds) (absent ds t h) us))
    ∙ (ap (λ b. first_used (list_any (is_absent t) us) b (list_any (is_other_view [] ds meaning) us) i.place) (sym (each_use (is_behind t) (is_past ds) (behind ds t h) us))
    ∙ ap (λ b. first_used (list_any (is_absent t) us) (list_any (is_behind t) us) b i.place) (sym (each_use (is_other t meaning) (is_other_view [] ds meaning) (other ds t h meaning) us))))

by_any : (ds : List Declared) (i : Instruction) (m : Option Meaning) → IsAt i.place (first (refusals_by [] ds m i))
by_any ds i None q h = absurd (cc)
by_any ds i (Some meaning) q h =
    let us = uses meaning i in
    used_at (list_any (is_missing ds) us) (list_any (is_past ds) us) (list_any (is_other_view [] ds meaning) us) i.place q
    (sym (at_place (list_any (is_missing ds) us) (list_any (is_past ds) us) (list_any (is_other_view [] ds meaning) us) i.place) ∙ h)

-- ALL INSTRUCTIONS
module _ (ds : List Declared) where
  abbrev pub broken_by : Instruction → List Refusal
  broken_by i = refusals_by [] (up_to i.place ds) (meaning_of Base i.code) i

  late_at : (i : Instruction) (low : ℕ) → low ≤ i.place → Late 6 low (first (broken_by i))
  late_at i low l = record { each = λ q h. let e = by_any (up_to i.place ds) i (meaning_of Base i.code) q h in (e.0, omega (arith, l, e.1)) }

  pub uses_late : (low : ℕ) (is : List Instruction) → ((n : ℕ) (i : Instruction) → slice_get is n ≡ Some i → low ≤ i.place) → Late 6 low (first (flat_map broken_by is))
  uses_late low [] h = late_none 6 low
  uses_late low (i ∷ is) h =
      subst (Late 6 low) (sym (first_append (broken_by i) (flat_map broken_by is)))
      (late_joined 6 low (first (broken_by i)) (first (flat_map broken_by is)) (late_at i low (h 0 i refl)) (uses_late low is (λ n j e. h (suc n) j e)))

  -- each refusal stands at an instruction
  pub data StandsAt (is : List Instruction) (place : ℕ) : Type 0 where
    At : (n : ℕ) (i : Instruction) → slice_get is n ≡ Some i → i.place ≡ place → StandsAt is place

  stands_later : (i : Instruction) (is : List Instruction) (place : ℕ) → StandsAt is place → StandsAt (i ∷ is) place
  stands_later i is place (At n j e k) = At (suc n) j e k

  one_of : (o p : Option Refusal) (q : Refusal) → joined o p ≡ Some q → (o ≡ Some q) ⊎ (p ≡ Some q)
  one_of None p q h = inr h
  one_of (Some r) None q h = inl h
  one_of (Some r) (Some s) q h = by_test (comes_before s r) h
    where
      by_test : (b : Bool) → Some (if b then s else r) ≡ Some q → (Some r ≡ Some q) ⊎ (Some s ≡ Some q)
      by_test true h = inr h
      by_test false h = inl h

  pub uses_stand : (is : List Instruction) (q : Refusal) → first (flat_map broken_by is) ≡ Some q → StandsAt is q.place
  uses_stand [] q h = absurd (cc)
  uses_stand (i ∷ is) q h = elim (one_of (first (broken_by i)) (first (flat_map broken_by is)) q (sym (first_append (broken_by i) (flat_map broken_by is)) ∙ h)) [
    | inl e ↦ At 0 i refl (sym (by_any (up_to i.place ds) i (meaning_of Base i.code) q e).1)
    | inr e ↦ stands_later i is q.place (uses_stand is q e)
  ]

  pub record Found (end : ℕ) (is : List Instruction) (o : Option Refusal) : Type 0 where
    pub some : (r : Refusal) → o ≡ Some r → (first (flat_map broken_by is) ≡ Some r) × (phase_of r ≡ 6) × (r.place < end)
    pub none : o ≡ None → Late 6 end (first (flat_map broken_by is))

  module _ (front : List Declared) (t : Things) (end words : ℕ) (h : Lists front t) where
    later : (i : Instruction) (is : List Instruction) → AreInOrder (λ i. i.place) words (i ∷ is) → AreInOrder (λ i. i.place) words is
    later i is o = record {
      ascend = λ m n x y l e k. o.ascend (suc m) (suc n) x y (omega (arith, l)) e k;
      behind = λ n x e. o.behind (suc n) x e;
      inside = λ n x e. o.inside (suc n) x e;
    }

    abbrev pub SeesFront : List Instruction → Type 0
    SeesFront is = (n : ℕ) (i : Instruction) → slice_get is n ≡ Some i → i.place < end → up_to i.place ds ≡ front

    pub finds : (is : List Instruction) → AreInOrder (λ i. i.place) words is → SeesFront is → Found end is (used_before t end is)
    finds [] o s = record { some = λ r e. absurd (cc); none = λ e. late_none 6 end }
    finds (i ∷ is) o s = elim (cases_lt i.place end) [
      | inl l ↦ before l (rule_using t i) refl (finds is (later i is o) (λ n j e k. s (suc n) j e k))
      | inr l ↦ behind_end (omega (arith, l))
    ]
      where
        each_after : (n : ℕ) (j : Instruction) → slice_get is n ≡ Some j → i.place < j.place
        each_after n j e = o.ascend 0 (suc n) i j (omega arith) refl e

        behind_end : end ≤ i.place → Found end (i ∷ is) (used_before t end (i ∷ is))
        behind_end l =
            let b : nat_le end i.place ≡ true = grind (arith, nat_tests, l) in
            let z : used_before t end (i ∷ is) ≡ None = ap (λ b. if b then None else or_later (rule_using t i) i.place (used_before t end is)) b in
            let each : (n : ℕ) (j : Instruction) → slice_get (i ∷ is) n ≡ Some j → end ≤ j.place = all_after l in
            subst (Found end (i ∷ is)) (sym z) (record { some = λ r e. absurd (cc); none = λ e. uses_late end (i ∷ is) each })
          where
            all_after : end ≤ i.place → (n : ℕ) (j : Instruction) → slice_get (i ∷ is) n ≡ Some j → end ≤ j.place
            all_after l zero j e = let k : i ≡ j = cc in omega (arith, l, ap (λ x. x.place) k)
            all_after l (suc n) j e = omega (arith, l, each_after n j e)

        here : i.place < end → first (broken_by i) ≡ or_later (rule_using t i) i.place None
        here l = ap (λ d. first (refusals_by [] d (meaning_of Base i.code) i)) (s 0 i refl l) ∙ by_table front t h i (meaning_of Base i.code)

        opened : i.place < end → used_before t end (i ∷ is) ≡ or_later (rule_using t i) i.place (used_before t end is)
        opened l =
            let b : nat_le end i.place ≡ false = grind (arith, nat_tests, l) in
            ap (λ b. if b then None else or_later (rule_using t i) i.place (used_before t end is)) b

        before : i.place < end → (r : Option Rule) → rule_using t i ≡ r → Found end is (used_before t end is) → Found end (i ∷ is) (used_before t end (i ∷ is))
        before l None e next =
            let f : first (flat_map broken_by (i ∷ is)) ≡ first (flat_map broken_by is) =
            first_append (broken_by i) (flat_map broken_by is) ∙ ap (λ o. joined o (first (flat_map broken_by is))) (here l ∙ ap (λ o. or_later o i.place None) e) in
            let u : used_before t end (i ∷ is) ≡ used_before t end is = opened l ∙ ap (λ o. or_later o i.place (used_before t end is)) e in
            record {
              some = λ r k. let n = next.some r (sym u ∙ k) in (f ∙ n.0, n.1, n.2);
              none = λ k. subst (Late 6 end) (sym f) (next.none (sym u ∙ k));
            }
        before l (Some rule) e next =
            let a : first (broken_by i) ≡ Some (refusal rule i.place) = here l ∙ ap (λ o. or_later o i.place None) e in
            let p = by_any (up_to i.place ds) i (meaning_of Base i.code) (refusal rule i.place) a in
            let f : first (flat_map broken_by (i ∷ is)) ≡ Some (refusal rule i.place) =
            first_append (broken_by i) (flat_map broken_by is) ∙ (ap (λ o. joined o (first (flat_map broken_by is))) a
            ∙ first_wins 6 (refusal rule i.place) (first (flat_map broken_by is)) (omega arith) p.0 (uses_late (i.place + 1) is (λ n j k. omega (arith, each_after n j k)))) in
            let u : used_before t end (i ∷ is) ≡ Some (refusal rule i.place) = opened l ∙ ap (λ o. or_later o i.place (used_before t end is)) e in
            record {
              some = λ r k. let z : refusal rule i.place ≡ r = cc in (f ∙ ap Some z, sym (ap phase_of z) ∙ p.0, omega (arith, l, ap (λ x. x.place) z));
              none = λ k. absurd (cc);
            }
