-- The first broken rule of the header.
use Rattle.std.proofs.Common.{◌≡◌, ℕ, ◌+◌, ◌*◌, ◌<◌, ◌≤◌, ◌⊎◌, inr, ⊎_elim, Bool, true, false, min, List, Option, Some, None, refl, sym, subst, arith}
use Rattle.std.specs.Prelude.{Contains, not}
use Rattle.std.proofs.lemmas.Bool.Decides.{nat_tests}
use Rattle.std.proofs.lemmas.List.Elements.{Contains-append_right, Contains-append_cases}
use Rattle.word_base.specs.declared.rule.Rule.TheVariants.{G1, G2}
use Rattle.word_base.specs.declared.rule.Refusal.{Refusal}
use Rattle.word_base.specs.Rules.{comes_before, refusal}
use Rattle.root_signature.specs.Layout.{words_from, is_whole}
use Rattle.root_signature.specs.Refusals.{missing, is_wrong_version, wrong_version, head_refusals}
use Rattle.root_signature.specs.Bests.{IsBest, merged}
use Rattle.root_signature.proofs.Bests.{is_best, best_appended}
use Rattle.root_signature.proofs.Records.{later, broken_in, is_broken_there, best_broken}

pub wrong_first : (content : List ℕ) → is_wrong_version content ≡ true → IsBest (Contains (head_refusals content)) (Some (refusal G1 0))
wrong_first content e =
    is_best (Contains (head_refusals content)) (Some (refusal G1 0)) refl
    (λ r s. subst (Contains (head_refusals content)) (same s) (Contains-append_right (missing content 0 6) (wrong_version content) (refusal G1 0) (is_broken_there (is_wrong_version content) G1 0 e)))
    (λ q m. ⊎_elim
    (λ n. subst (λ x. comes_before x (refusal G1 0) ≡ false) (sym (broken_in (not (is_whole content 0 6)) G2 (min (0 + 4 * words_from content 0) 4294967295) q n).1) before)
    (λ n. subst (λ x. comes_before x (refusal G1 0) ≡ false) (sym (broken_in (is_wrong_version content) G1 0 q n).1) itself)
    (Contains-append_cases (missing content 0 6) (wrong_version content) q m)) where
      same : {r : Refusal} → Some (refusal G1 0) ≡ Some r → refusal G1 0 ≡ r
      same {r} e = cc

      itself : comes_before (refusal G1 0) (refusal G1 0) ≡ false
      itself = later (refusal G1 0) (refusal G1 0) refl refl (inr (refl, omega arith))

      zero_or_more : (n : ℕ) → (0 < n) ⊎ ((0 ≡ n) × (1 ≤ 2))
      zero_or_more n = grind (arith, nat_tests)

      before : comes_before (refusal G2 (min (0 + 4 * words_from content 0) 4294967295)) (refusal G1 0) ≡ false
      before = later (refusal G1 0) (refusal G2 (min (0 + 4 * words_from content 0) 4294967295)) refl refl (zero_or_more (min (0 + 4 * words_from content 0) 4294967295))

pub right_version : (content : List ℕ) (best : Option Refusal) → is_wrong_version content ≡ false
    → (is_whole content 0 6 ≡ false → best ≡ Some (refusal G2 (min (0 + 4 * words_from content 0) 4294967295)))
    → (is_whole content 0 6 ≡ true → best ≡ None) → IsBest (Contains (head_refusals content)) best
right_version content best e h k =
    subst (IsBest (Contains (head_refusals content))) (plain best)
    (best_appended (missing content 0 6) (wrong_version content) best None
    (best_broken (not (is_whole content 0 6)) G2 (min (0 + 4 * words_from content 0) 4294967295) best refl (λ t. h (was_false (is_whole content 0 6) t)) (λ t. k (was_true (is_whole content 0 6) t)))
    (best_broken (is_wrong_version content) G1 0 None refl (λ t. absurd cc) (λ t. refl))) where
      plain : (a : Option Refusal) → merged a None ≡ a
      plain None = refl
      plain (Some a) = refl

      was_false : (t : Bool) → not t ≡ true → t ≡ false
      was_false true e = absurd cc
      was_false false e = refl

      was_true : (t : Bool) → not t ≡ false → t ≡ true
      was_true true e = refl
      was_true false e = absurd cc
