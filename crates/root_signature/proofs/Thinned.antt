-- Entries that are kept, and entries that were there before.
use Rattle.std.proofs.Common.{◌≡◌, inl, inr, ⊎_elim, List, [], ◌∷◌, ◌++◌, Option, Some, None, sym, subst}
use Rattle.std.specs.Prelude.{Contains}
use Rattle.std.proofs.lemmas.List.Elements.{Contains-append_left, Contains-append_cases, Contains-push, Contains-push_cases}
use Rattle.word_base.specs.declared.rule.Rule.TheVariants.{G4}
use Rattle.word_base.specs.declared.rule.Refusal.{Refusal}
use Rattle.word_base.specs.Rules.{refusal}
use Rattle.root_signature.specs.Covers.{Span}
use Rattle.root_signature.specs.Refusals.{IsCoveredTwice}
use Rattle.root_signature.specs.Bests.{IsBest, Yields, merged, AreNinth}
use Rattle.root_signature.specs.Thinning.{Thins}
use Rattle.root_signature.proofs.Bests.{is_best, is_broken, yields, ninth, merged_ninth, one_of, yields_first, yields_second}
use Rattle.root_signature.proofs.Twice.{twice_front, twice_across, twice_cases, twice_more}

pub thins_none : Thins [] [] None
thins_none = record {
  twice = λ q t. inr t;
  kept_twice = λ q t. t;
  held = λ s c. c;
  among = λ s c. c;
  is_broken = λ r e. absurd cc;
}

-- one more that is kept
pub thins_one : (every kept : List Span) (best : Option Refusal) (s : Span) → Thins every kept best → Thins (every ++ s ∷ []) (kept ++ s ∷ []) best
thins_one every kept best s h = record {
  twice = λ q t. ⊎_elim
      (λ u. ⊎_elim (λ y. inl y) (λ k. inr (twice_front kept (s ∷ []) q k)) (h.twice q u))
      (λ v. inr (subst (IsCoveredTwice (kept ++ s ∷ [])) (sym v.1.2) (twice_across kept (s ∷ []) v.0 s (h.held v.0 v.1.0) (Contains-push [] s) v.1.1)))
      (twice_more every s q t);
  kept_twice = λ q t. ⊎_elim
      (λ u. twice_front every (s ∷ []) q (h.kept_twice q u))
      (λ v. subst (IsCoveredTwice (every ++ s ∷ [])) (sym v.1.2) (twice_across every (s ∷ []) v.0 s (h.among v.0 v.1.0) (Contains-push [] s) v.1.1))
      (twice_more kept s q t);
  held = λ x c. ⊎_elim (λ m. Contains-append_left kept (s ∷ []) x (h.held x m)) (λ e. subst (Contains (kept ++ s ∷ [])) e (Contains-push kept s)) (Contains-push_cases every s x c);
  among = λ x c. ⊎_elim (λ m. Contains-append_left every (s ∷ []) x (h.among x m)) (λ e. subst (Contains (every ++ s ∷ [])) e (Contains-push every s)) (Contains-push_cases kept s x c);
  is_broken = λ r e. twice_front every (s ∷ []) r (h.is_broken r e);
}

-- more that were there before, of which each yields to the next best
pub thins_more : (every kept more : List Span) (best next : Option Refusal) → Thins every kept best
    → ((q : Refusal) → Yields best q → Yields next q) → ((s : Span) → Contains more s → Contains kept s) → ((s : Span) → Contains more s → Yields next (refusal G4 s.place))
    → ((r : Refusal) → next ≡ Some r → IsCoveredTwice (every ++ more) r) → Thins (every ++ more) kept next
thins_more every kept more best next h f held yield broken = record {
  twice = λ q t. ⊎_elim
      (λ u. ⊎_elim (λ y. inl (f q y)) (λ k. inr k) (h.twice q u))
      (λ v. inl (subst (Yields next) (sym v.1.1) (yield v.0 v.1.0)))
      (twice_cases every more q t);
  kept_twice = λ q t. twice_front every more q (h.kept_twice q t);
  held = λ x c. ⊎_elim (λ m. h.held x m) (λ m. held x m) (Contains-append_cases every more x c);
  among = λ x c. Contains-append_left every more x (h.among x c);
  is_broken = broken;
}

-- The best of what the kept ones cover twice, with the best so far, is that of all.
pub thins_best : (every kept : List Span) (best last : Option Refusal) → Thins every kept best → AreNinth best → IsBest (IsCoveredTwice kept) last
    → IsBest (IsCoveredTwice every) (merged best last)
thins_best every kept best last h n k =
    is_best (IsCoveredTwice every) (merged best last) (merged_ninth best last n (ninth (IsCoveredTwice kept) last k))
    (λ r e. ⊎_elim (λ a. h.is_broken r a) (λ a. h.kept_twice r (is_broken (IsCoveredTwice kept) last r k a)) (one_of best last r e))
    (λ q t. ⊎_elim (λ y. yields_first best last q y) (λ u. yields_second best last q (yields (IsCoveredTwice kept) last q k u)) (h.twice q t))
