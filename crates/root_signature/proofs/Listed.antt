-- The first broken rule over all parameters.
use Rattle.std.proofs.Common.{◌≡◌, ℕ, suc, ◌+◌, ◌*◌, ◌/◌, ◌<◌, ◌≤◌, ◌⊎◌, inl, inr, ⊎_elim, Bool, true, false, min, List, [], ◌++◌, length, Option, Some, None, refl, sym, subst, arith, append_assoc}
use Rattle.std.specs.Prelude.{Contains, ◌&&◌, not, nat_lt, nat_le, nat_eq, if◌then◌else◌}
use Rattle.std.proofs.lemmas.Bool.Decides.{nat_tests}
use Rattle.std.proofs.lemmas.List.Elements.{Contains-append_left, Contains-append_right, Contains-append_cases}
use Rattle.word_base.specs.declared.rule.Rule.TheVariants.{G2, G5}
use Rattle.word_base.specs.declared.rule.Refusal.{Refusal}
use Rattle.word_base.specs.Rules.{refusal}
use Rattle.root_signature.specs.Layout.{word, words_from, is_whole, parameter_at, parameter_type, is_parameter, is_visible, record_at, record_words, has_record, range_at, range_count, ranges_at}
use Rattle.root_signature.specs.Covering.{each, is_single, words_before, words_at}
use Rattle.root_signature.specs.Refusals.{missing, unknown, range_refusals, is_passing, parameter_refusals, push_refusals, part_refusals, head_refusals, listed_refusals}
use Rattle.root_signature.specs.Bests.{IsBest, Yields, merged}
use Rattle.root_signature.proofs.Bests.{is_best, is_broken, yields, ninth, merged_ninth, one_of, yields_first, yields_second, best_appended}
use Rattle.root_signature.proofs.Whole.{whole, behind_end}
use Rattle.root_signature.proofs.Records.{record_list, broken_in, is_broken_there, behind}
use Rattle.root_signature.proofs.Eachs.{in_each, each_in}
use Rattle.root_signature.proofs.Parameters.{if_true, no_record, no_ranges, first_fails}

pub one_more : (i : ℕ) → suc i ≡ i + 1
one_more i = omega arith

-- one more parameter
pub step : (head : List Refusal) (f : ℕ → List Refusal) (i : ℕ) (best b : Option Refusal) → IsBest (Contains (head ++ each i f)) best → IsBest (Contains (f i)) b
    → IsBest (Contains (head ++ each (i + 1) f)) (merged best b)
step head f i best b h k =
    subst (λ n. IsBest (Contains (head ++ each n f)) (merged best b)) (one_more i)
    (subst (λ xs. IsBest (Contains xs) (merged best b)) (append_assoc head (each i f) (f i)) (best_appended (head ++ each i f) (f i) best b h k))

pub words_next : (content : List ℕ) (i : ℕ) → words_before content (suc i) ≡ words_before content i + words_at content i
unfolding words_before
words_next content i = refl

pub words_more : (content : List ℕ) (i : ℕ) → words_before content (i + 1) ≡ words_before content i + words_at content i
words_more content i = subst (λ n. words_before content n ≡ words_before content i + words_at content i) (one_more i) (words_next content i)

pub words_none : (content : List ℕ) → words_before content 0 ≡ 0
unfolding words_before
words_none content = refl

-- a parameter whose words are not all there breaks what its own words break
module _ (content : List ℕ) (j : ℕ) (e : is_whole content (parameter_at content j) 3 ≡ false) where
  no_parameter : is_parameter content j ≡ false
  no_parameter = first_fails content j (is_whole content (parameter_at content j) 3) (nat_le (parameter_type content j) 4) e

  nothing_pointed : has_record content j ≡ false
  nothing_pointed = first_fails content j (is_parameter content j) (is_whole content (record_at content j) (record_words content j)) no_parameter

  not_single : is_single content j 1 ≡ false
  not_single = first_fails content j (has_record content j) (is_visible content j && (nat_eq (parameter_type content j) 1 && nat_eq (word content (record_at content j + 4)) 0)) nothing_pointed

  not_passing : is_passing content j ≡ false
  not_passing = first_fails content j (is_single content j 1) (nat_le (words_before content j) 64 && nat_lt 64 (words_before content (suc j))) not_single

  not_broken : (t : Bool) → t ≡ false → t ≡ true → ⊥
  not_broken t e f = cc

  pub words_alone : (q : Refusal) → Contains (part_refusals content j) q → Contains (record_list content (parameter_at content j) 3 4) q
  words_alone q m = ⊎_elim
      (λ n. ⊎_elim (λ o. o)
      (λ o. ⊎_elim (λ p. absurd (no_record content j no_parameter q p))
      (λ p. absurd (no_ranges content j (first_fails content j (has_record content j) (nat_eq (parameter_type content j) 0) nothing_pointed) q p))
      (Contains-append_cases (if is_parameter content j then missing content (record_at content j) (record_words content j) else [])
      (each (range_count content j) (λ k. range_refusals content (range_at content (ranges_at content j) k))) q o))
      (Contains-append_cases (record_list content (parameter_at content j) 3 4)
      ((if is_parameter content j then missing content (record_at content j) (record_words content j) else [])
      ++ each (range_count content j) (λ k. range_refusals content (range_at content (ranges_at content j) k))) q n))
      (λ n. absurd (not_broken (is_passing content j) not_passing (broken_in (is_passing content j) G5 (record_at content j) q n).0))
      (Contains-append_cases (parameter_refusals content j) (push_refusals content j) q m)

pub words_too : (content : List ℕ) (j : ℕ) (q : Refusal) → Contains (record_list content (parameter_at content j) 3 4) q → Contains (part_refusals content j) q
words_too content j q m =
    Contains-append_left (parameter_refusals content j) (push_refusals content j) q
    (Contains-append_left (record_list content (parameter_at content j) 3 4)
    ((if is_parameter content j then missing content (record_at content j) (record_words content j) else [])
    ++ each (range_count content j) (λ k. range_refusals content (range_at content (ranges_at content j) k))) q m)

cut_at : (content : List ℕ) (whole j : ℕ) → whole ≡ words_from content (word content 8) / 3 → whole ≤ j → is_whole content (parameter_at content j) 3 ≡ false
cut_at content whole j e l = test (behind_end content (word content 8) 3 j (omega arith) (omega (arith, e))) where
  test : words_from content (word content 8 + 4 * 3 * j) < 3 → is_whole content (parameter_at content j) 3 ≡ false
  test h = grind (arith, nat_tests)

cut_broken : (content : List ℕ) (j : ℕ) → is_whole content (parameter_at content j) 3 ≡ false
    → Contains (record_list content (parameter_at content j) 3 4) (refusal G2 (min (parameter_at content j + 4 * words_from content (parameter_at content j)) 4294967295))
cut_broken content j e =
    Contains-append_left (missing content (parameter_at content j) 3) (unknown content (parameter_at content j) 4)
    (refusal G2 (min (parameter_at content j + 4 * words_from content (parameter_at content j)) 4294967295))
    (is_broken_there (not (is_whole content (parameter_at content j) 3)) G2 (min (parameter_at content j + 4 * words_from content (parameter_at content j)) 4294967295)
    (turned (is_whole content (parameter_at content j) 3) e)) where
      turned : (t : Bool) → t ≡ false → not t ≡ true
      turned true e = absurd cc
      turned false e = refl

-- the first parameter that is cut, and those behind it
module _ (content : List ℕ) (whole count : ℕ) (best cut : Option Refusal) (small : length content ≤ 16777216) (e : whole ≡ words_from content (word content 8) / 3) (l : whole < count)
    (h : IsBest (Contains (head_refusals content ++ each whole (part_refusals content))) best)
    (k : IsBest (Contains (record_list content (parameter_at content whole) 3 4)) cut) where
  cases : (j : ℕ) → (j < whole) ⊎ ((j ≡ whole) ⊎ (whole < j))
  cases j = grind (arith, nat_tests)

  far : (j : ℕ) → whole < j → parameter_at content whole + 4 * 3 ≤ parameter_at content j
  far j l = omega arith

  past : (q : Refusal) (j : ℕ) (b : Option Refusal) → whole < j → Contains (record_list content (parameter_at content j) 3 4) q
      → IsBest (Contains (record_list content (parameter_at content whole) 3 4)) b → Yields b q
  past q j None a m n = absurd (n (refusal G2 (min (parameter_at content whole + 4 * words_from content (parameter_at content whole)) 4294967295))
      (cut_broken content whole (cut_at content whole whole e (omega arith))))
  past q j (Some r) a m n = behind content (parameter_at content whole) 3 4 (parameter_at content j) 3 4 small (far j a) (omega arith) r q n.first.is_broken m

  in_part : (q : Refusal) (j : ℕ) → j < count → Contains (part_refusals content j) q → (j < whole) ⊎ ((j ≡ whole) ⊎ (whole < j)) → Yields (merged best cut) q
  in_part q j b m (inl a) =
      yields_first best cut q (yields (Contains (head_refusals content ++ each whole (part_refusals content))) best q h
      (Contains-append_right (head_refusals content) (each whole (part_refusals content)) q (each_in whole (part_refusals content) q j a m)))
  in_part q j b m (inr (inl a)) =
      yields_second best cut q (yields (Contains (record_list content (parameter_at content whole) 3 4)) cut q k
      (words_alone content whole (cut_at content whole whole e (omega arith)) q (subst (λ n. Contains (part_refusals content n) q) a m)))
  in_part q j b m (inr (inr a)) =
      yields_second best cut q (past q j cut a (words_alone content j (cut_at content whole j e (omega arith)) q m) k)

  wider : (r : Refusal) → Contains (head_refusals content) r ⊎ Contains (each whole (part_refusals content)) r → Contains (head_refusals content ++ each count (part_refusals content)) r
  wider r (inl m) = Contains-append_left (head_refusals content) (each count (part_refusals content)) r m
  wider r (inr m) =
      let w : (j : ℕ) × (j < whole) × Contains (part_refusals content j) r = in_each whole (part_refusals content) r m in
      Contains-append_right (head_refusals content) (each count (part_refusals content)) r (each_in count (part_refusals content) r w.0 (omega (arith, w.1)) w.2)

  pub with_cut : IsBest (Contains (head_refusals content ++ each count (part_refusals content))) (merged best cut)
  with_cut =
      is_best (Contains (head_refusals content ++ each count (part_refusals content))) (merged best cut)
      (merged_ninth best cut (ninth (Contains (head_refusals content ++ each whole (part_refusals content))) best h)
      (ninth (Contains (record_list content (parameter_at content whole) 3 4)) cut k))
      (λ r s. ⊎_elim
      (λ a. wider r (Contains-append_cases (head_refusals content) (each whole (part_refusals content)) r
      (is_broken (Contains (head_refusals content ++ each whole (part_refusals content))) best r h a)))
      (λ a. Contains-append_right (head_refusals content) (each count (part_refusals content)) r (each_in count (part_refusals content) r whole l
      (words_too content whole r (is_broken (Contains (record_list content (parameter_at content whole) 3 4)) cut r k a))))
      (one_of best cut r s))
      (λ q m. ⊎_elim
      (λ a. yields_first best cut q (yields (Contains (head_refusals content ++ each whole (part_refusals content))) best q h
      (Contains-append_left (head_refusals content) (each whole (part_refusals content)) q a)))
      (λ a. let w : (j : ℕ) × (j < count) × Contains (part_refusals content j) q = in_each count (part_refusals content) q a in in_part q w.0 (omega (arith, w.1)) w.2 (cases w.0))
      (Contains-append_cases (head_refusals content) (each count (part_refusals content)) q m))

-- the list of all rules, where the first three words are there
pub listed : (content : List ℕ) (best : Option Refusal) → 12 ≤ length content → IsBest (Contains (head_refusals content ++ each (word content 4) (part_refusals content))) best
    → IsBest (Contains (listed_refusals content)) best
listed content best l h =
    subst (λ n. IsBest (Contains (head_refusals content ++ each n (part_refusals content))) best)
    (sym (if_true (is_whole content 0 3) (word content 4) 0 (whole content 0 3 l))) h
