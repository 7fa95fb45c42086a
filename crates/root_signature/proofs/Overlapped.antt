-- One more span over the rows.
use Rattle.std.proofs.Common.{◌≡◌, ℕ, ◌+◌, ◌-◌, ◌*◌, ◌<◌, ◌≤◌, ◌⊎◌, inl, inr, ⊎_elim, Bool, true, false, List, [], ◌∷◌, ◌++◌, length, get_or, replicate, Option, Some, None, refl, sym, ◌∙◌, subst, arith}
use Rattle.std.specs.Prelude.{Contains, ◌&&◌, nat_le}
use Rattle.std.proofs.lemmas.List.{length-replicate}
use Rattle.std.proofs.lemmas.Option.{slice_get_within}
use Rattle.root_signature.proofs.Filled.{zeros}
use Rattle.std.proofs.lemmas.Bool.Decides.{nat_tests}
use Rattle.std.proofs.lemmas.Grind.{get_or_default_zero}
use Rattle.std.proofs.lemmas.List.Elements.{Contains-append_left, Contains-push, Contains-push_cases}
use Rattle.word_base.specs.declared.rule.Rule.TheVariants.{G4}
use Rattle.word_base.specs.declared.rule.Refusal.{Refusal}
use Rattle.word_base.specs.Rules.{comes_before, refusal}
use Rattle.root_signature.specs.Covers.{Span, overlaps}
use Rattle.root_signature.specs.Refusals.{IsCoveredTwice}
use Rattle.root_signature.specs.Bests.{IsBest, merged}
use Rattle.root_signature.specs.Runs.{Marks}
use Rattle.root_signature.specs.Overlaps.{IsIn, Overlapping, AreSome}
use Rattle.root_signature.proofs.Bests.{is_best, is_broken, yields, ninth, merged_ninth, one_of, yields_first, yields_second, best_more, itself}
use Rattle.root_signature.proofs.Twice.{twice_front, twice_across, twice_more}

both : (a b : Bool) → a ≡ true → b ≡ true → (a && b) ≡ true
both true b e f = f
both false b e f = absurd cc

at_most : (n m : ℕ) → n ≤ m → nat_le n m ≡ true
at_most n m l = grind (arith, nat_tests)

met : (row : ℕ) (a s : Span) → IsIn row a → IsIn row s → overlaps a s ≡ true
met row a s h k = both (nat_le a.low s.high) (nat_le s.low a.high) (at_most a.low s.high (omega (arith, h.above, k.below))) (at_most s.low a.high (omega (arith, h.below, k.above)))

low_first : (a s : Span) → overlaps a s ≡ true → a.low ≤ s.high
low_first a s e = grind (arith, nat_tests)

low_second : (a s : Span) → overlaps a s ≡ true → s.low ≤ a.high
low_second a s e = grind (arith, nat_tests)

row_of : (rows : List ℕ) (row : ℕ) → Contains rows row → (k : ℕ) × (k < length rows) × (get_or rows k 0 ≡ row)
row_of rows row h = (h.0, h.1, sym (get_or_default_zero rows h.0 row h.1) ∙ h.2)

module _ (rows : List ℕ) (spans : List Span) (marks new : List ℕ) (best : Option Refusal) (s : Span) (from to : ℕ) (h : Overlapping rows spans marks best)
    (some : AreSome rows spans) (row : Contains rows s.low) (filled : s.low ≤ s.high) (m : Marks 1 from (to - from) marks new)
    (before_from : (k : ℕ) → k < from → get_or rows k 0 < s.low) (behind_from : (k : ℕ) → from ≤ k → k < length rows → s.low ≤ get_or rows k 0)
    (before_to : (k : ℕ) → k < to → get_or rows k 0 < s.high + 1) (behind_to : (k : ℕ) → to ≤ k → k < length rows → s.high + 1 ≤ get_or rows k 0)
    (bound : to ≤ length rows) where
  cases : (a b : ℕ) → (a < b) ⊎ (b ≤ a)
  cases a b = grind (arith, nat_tests)

  inside : (k : ℕ) → from ≤ k → k < to → IsIn (get_or rows k 0) s
  inside k a b = record { above = behind_from k a (omega arith); below = omega (arith, before_to k b) }

  found_from : (k : ℕ) → k < length rows → IsIn (get_or rows k 0) s → from ≤ k
  found_from k l i = ⊎_elim (λ a. absurd (omega (arith, before_from k a, i.above))) (λ a. a) (cases k from)

  found_to : (k : ℕ) → k < length rows → IsIn (get_or rows k 0) s → k < to
  found_to k l i = ⊎_elim (λ a. a) (λ a. absurd (omega (arith, behind_to k a l, i.below))) (cases k to)

  marked_by : (at : ℕ) → (0 < get_or marks at 0) ⊎ ((j : ℕ) × (j < to - from) × (at ≡ from + 1 * j)) → (x : Span) × (Contains (spans ++ s ∷ []) x × IsIn (get_or rows at 0) x)
  marked_by at (inl q) = let w : (x : Span) × (Contains spans x × IsIn (get_or rows at 0) x) = h.marked at q in (w.0, (Contains-append_left spans (s ∷ []) w.0 w.1.0, w.1.1))
  marked_by at (inr w) = (s, (Contains-push spans s, inside at (omega (arith, w.2)) (omega (arith, w.1, w.2))))

  covered_by : (at : ℕ) (x : Span) → at < length rows → IsIn (get_or rows at 0) x → Contains spans x ⊎ (s ≡ x) → 0 < get_or new at 0
  covered_by at x l i (inl q) = m.kept at (h.covered at x l q i)
  covered_by at x l i (inr e) =
      let j : IsIn (get_or rows at 0) s = subst (λ y. IsIn (get_or rows at 0) y) (sym e) i in
      subst (λ n. 0 < get_or new n 0) (place from at (found_from at l j)) (m.added (at - from) (omega (arith, found_from at l j, found_to at l j))) where
        place : (from at : ℕ) → from ≤ at → from + 1 * (at - from) ≡ at
        place from at l = omega arith

  with_first : (next : Option Refusal) → IsBest (IsCoveredTwice (spans ++ s ∷ [])) next → Overlapping rows (spans ++ s ∷ []) new next
  with_first next k = record {
    are = m.marks;
    size = m.size ∙ h.size;
    marked = λ at p. marked_by at (m.only at p);
    covered = λ at x l c i. covered_by at x l i (Contains-push_cases spans s x c);
    first = k;
  }

  twice_of : (r : Refusal) (a : Span) → Contains spans a → overlaps a s ≡ true → (best ≡ Some r) ⊎ (Some (refusal G4 s.place) ≡ Some r) → IsCoveredTwice (spans ++ s ∷ []) r
  twice_of r a c o (inl e) = twice_front spans (s ∷ []) r (is_broken (IsCoveredTwice spans) best r h.first e)
  twice_of r a c o (inr e) =
      let same : refusal G4 s.place ≡ r = cc in
      subst (IsCoveredTwice (spans ++ s ∷ [])) same (twice_across spans (s ∷ []) a s c (Contains-push [] s) o)

  pub meets : (at : ℕ) → from ≤ at → at < to → 0 < get_or marks at 0 → Overlapping rows (spans ++ s ∷ []) new (merged best (Some (refusal G4 s.place)))
  meets at a b p =
      let w : (x : Span) × (Contains spans x × IsIn (get_or rows at 0) x) = h.marked at p in
      with_first (merged best (Some (refusal G4 s.place)))
      (is_best (IsCoveredTwice (spans ++ s ∷ [])) (merged best (Some (refusal G4 s.place)))
      (merged_ninth best (Some (refusal G4 s.place)) (ninth (IsCoveredTwice spans) best h.first) refl)
      (λ r e. twice_of r w.0 w.1.0 (met (get_or rows at 0) w.0 s w.1.1 (inside at a b)) (one_of best (Some (refusal G4 s.place)) r e))
      (λ q t. ⊎_elim
      (λ u. yields_first best (Some (refusal G4 s.place)) q (yields (IsCoveredTwice spans) best q h.first u))
      (λ v. yields_second best (Some (refusal G4 s.place)) q (subst (λ x. comes_before x (refusal G4 s.place) ≡ false) (sym v.1.2) (itself (refusal G4 s.place))))
      (twice_more spans s q t)))

  -- a row in both, of which one is the lowest
  clash_at : (a : Span) (k : ℕ) → ((at : ℕ) → from ≤ at → at < to → get_or marks at 0 ≡ 0) → Contains spans a → k < length rows → IsIn (get_or rows k 0) a → IsIn (get_or rows k 0) s → ⊥
  clash_at a k none c l i j = absurd (omega (arith, h.covered k a l c i, none k (found_from k l j) (found_to k l j)))

  clash : (a : Span) → ((at : ℕ) → from ≤ at → at < to → get_or marks at 0 ≡ 0) → Contains spans a → overlaps a s ≡ true → ⊥
  clash a none c o =
      let w : (k : ℕ) × (k < length rows) × (get_or rows k 0 ≡ s.low) = row_of rows s.low row in
      let v : (k : ℕ) × (k < length rows) × (get_or rows k 0 ≡ a.low) = row_of rows a.low (some a c).0 in
      ⊎_elim
      (λ (l : a.low < s.low). clash_at a w.0 none c w.1
      (record { above = omega (arith, w.2); below = omega (arith, w.2, low_second a s o) }) (record { above = omega (arith, w.2); below = omega (arith, w.2) }))
      (λ (l : s.low ≤ a.low). clash_at a v.0 none c v.1
      (record { above = omega (arith, v.2); below = omega (arith, v.2, (some a c).1) }) (record { above = omega (arith, v.2); below = omega (arith, v.2, low_first a s o) }))
      (cases a.low s.low)

  pub passes_by : ((at : ℕ) → from ≤ at → at < to → get_or marks at 0 ≡ 0) → Overlapping rows (spans ++ s ∷ []) new best
  passes_by none =
      with_first best (best_more (IsCoveredTwice spans) (IsCoveredTwice (spans ++ s ∷ [])) best h.first (λ q t. twice_front spans (s ∷ []) q t)
      (λ q t. ⊎_elim (λ u. inl u) (λ v. absurd (clash v.0 none v.1.0 v.1.1)) (twice_more spans s q t)))

pub nothing_marked : (rows : List ℕ) (n : ℕ) → n ≡ length rows → Overlapping rows [] (replicate n 0) None
nothing_marked rows n e = record {
  are = λ at k l. absurd (omega (arith, zeros n at));
  size = length-replicate n 0 ∙ e;
  marked = λ at p. absurd (omega (arith, zeros n at));
  covered = λ at s l c i. absurd (omega (arith, c.1));
  first = λ q t. absurd (omega (arith, slice_get_within [] t.k t.later t.later_there));
}
