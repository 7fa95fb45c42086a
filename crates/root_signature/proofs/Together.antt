-- The first broken rule of all, and the entries where none is broken.
use Rattle.std.proofs.Common.{◌≡◌, ℕ, zero, suc, ◌+◌, ◌<◌, ◌≤◌, inl, ⊎_elim, Bool, true, false, List, [], ◌++◌, length, Option, None, refl, sym, ap, ◌∙◌, subst, arith}
use Rattle.std.specs.Prelude.{Contains, ◌&&◌, nat_le, nat_lt}
use Rattle.std.proofs.lemmas.Bool.Decides.{nat_tests}
use Rattle.std.proofs.lemmas.List.{append-nil}
use Rattle.std.proofs.lemmas.Option.{slice_get_within}
use Rattle.std.proofs.lemmas.List.Elements.{Contains-append_right}
use Rattle.word_base.specs.declared.rule.Rule.TheVariants.{G5}
use Rattle.word_base.specs.declared.rule.Refusal.{Refusal}
use Rattle.word_base.specs.Rules.{refusal}
use Rattle.root_signature.specs.declared.covers.Entry.{Entry}
use Rattle.root_signature.specs.Layout.{word, is_whole, parameter_count, record_at}
use Rattle.root_signature.specs.Covering.{each, spans_of, is_single, words_at, words_before, parameter_covered, all_covered}
use Rattle.root_signature.specs.Refusals.{is_passing, parameter_refusals, push_refusals, part_refusals, head_refusals, listed_refusals, IsCoveredTwice, IsBrokenIn}
use Rattle.root_signature.specs.Bests.{IsBest, merged}
use Rattle.root_signature.specs.Thinning.{FindsIn}
use Rattle.root_signature.specs.Parts.{AreParts}
use Rattle.root_signature.proofs.Bests.{neither, best_merged, best_same}
use Rattle.root_signature.proofs.Records.{is_broken_there}
use Rattle.root_signature.proofs.Eachs.{each_in}
use Rattle.root_signature.proofs.Parameters.{if_false}
use Rattle.root_signature.proofs.Listed.{words_none}
use Rattle.root_signature.proofs.Thinned.{thins_best}
use Rattle.root_signature.proofs.Whole.{short}

-- where no rule is broken, there are few root constants
module _ (content : List ℕ) (sound : (q : Refusal) → Contains (listed_refusals content) q → ⊥) where
  not_passing : (i : ℕ) → i < parameter_count content → (t : Bool) → is_passing content i ≡ t → t ≡ false
  not_passing i l false e = refl
  not_passing i l true e = absurd (sound (refusal G5 (record_at content i))
      (Contains-append_right (head_refusals content) (each (parameter_count content) (part_refusals content)) (refusal G5 (record_at content i))
      (each_in (parameter_count content) (part_refusals content) (refusal G5 (record_at content i)) i l
      (Contains-append_right (parameter_refusals content i) (push_refusals content i) (refusal G5 (record_at content i)) (is_broken_there (is_passing content i) G5 (record_at content i) e)))))

  step_few : (i : ℕ) → is_passing content i ≡ false → words_before content i ≤ 64 → words_before content (suc i) ≤ 64
  unfolding words_before
  step_few i e l = at (is_single content i 1) refl where
    past : (s : Bool) (before after : ℕ) → s ≡ true → (s && (nat_le before 64 && nat_lt 64 after)) ≡ false → before ≤ 64 → after ≤ 64
    past true before after r f m = grind (arith, nat_tests)
    past false before after r f m = absurd cc

    none : is_single content i 1 ≡ false → words_at content i ≡ 0
    none r = if_false (is_single content i 1) (word content (record_at content i + 8)) 0 r

    at : (t : Bool) → is_single content i 1 ≡ t → words_before content i + words_at content i ≤ 64
    at true r = past (is_single content i 1) (words_before content i) (words_before content i + words_at content i) r e l
    at false r = omega (arith, none r)

  few_below : (n : ℕ) → n ≤ parameter_count content → words_before content n ≤ 64
  few_below zero l = omega (arith, words_none content)
  few_below (suc i) l = step_few i (not_passing i (omega arith) (is_passing content i) refl) (few_below i (omega arith))

  pub few : words_before content (parameter_count content) ≤ 64
  few = few_below (parameter_count content) (omega arith)

pub together : (content : List ℕ) (listed again last : Option Refusal) (entries : List Entry) (marks : List ℕ)
    → IsBest (Contains (listed_refusals content)) listed → FindsIn content (all_covered content) (words_before content (parameter_count content)) entries marks again
    → IsBest (IsCoveredTwice (spans_of entries)) last → length entries ≤ 33554432 → AreParts content entries (merged listed (merged again last))
together content listed again last entries marks h found k room = record {
  first = best_merged (Contains (listed_refusals content)) (IsCoveredTwice (spans_of (all_covered content))) listed (merged again last) h
      (thins_best (spans_of (all_covered content)) (spans_of entries) again last found.thins found.ready.phase k);
  exact = λ e. exact_of (neither listed (merged again last) e);
  few = room;
} where
  sound_of : listed ≡ None → (q : Refusal) → Contains (listed_refusals content) q → ⊥
  sound_of e = subst (IsBest (Contains (listed_refusals content))) e h

  exact_of : (listed ≡ None) × (merged again last ≡ None) → entries ≡ all_covered content
  exact_of w = found.exact (neither again last w.1).0 (few content (sound_of w.0))

-- content without its first three words has no parameters
pub without_words : (content : List ℕ) (best : Option Refusal) → length content < 12 → IsBest (Contains (head_refusals content)) best → AreParts content [] best
without_words content best l h = record {
  first = best_same (Contains (head_refusals content)) (IsBrokenIn content) best h
      (λ q m. inl (subst (λ xs. Contains xs q) (sym alone) m))
      (λ q m. ⊎_elim (λ n. subst (λ xs. Contains xs q) alone n) (λ t. absurd (none (subst (λ xs. IsCoveredTwice (spans_of xs) q) nothing t))) m);
  exact = λ e. sym nothing;
  few = omega arith;
} where
  count : parameter_count content ≡ 0
  count = if_false (is_whole content 0 3) (word content 4) 0 (short content l)

  nothing : all_covered content ≡ []
  nothing = ap (λ n. each n (parameter_covered content)) count

  alone : listed_refusals content ≡ head_refusals content
  alone = ap (λ n. head_refusals content ++ each n (part_refusals content)) count ∙ append-nil (head_refusals content)

  none : {q : Refusal} → IsCoveredTwice [] q → ⊥
  none t = absurd (omega (arith, slice_get_within [] t.k t.later t.later_there))
