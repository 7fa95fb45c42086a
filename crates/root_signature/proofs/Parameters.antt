-- The first broken rule of a parameter, by what its record is.
use Rattle.std.proofs.Common.{◌≡◌, ◌≢◌, ℕ, ◌+◌, ◌*◌, ◌<◌, ◌≤◌, Bool, true, false, min, List, [], ◌∷◌, ◌++◌, Option, Some, None, refl, sym, ◌∙◌, subst, arith}
use Rattle.std.specs.Prelude.{Contains, ◌&&◌, not, nat_le, nat_eq, if◌then◌else◌}
use Rattle.std.proofs.lemmas.Bool.Decides.{nat_tests}
use Rattle.word_base.specs.declared.rule.Rule.TheVariants.{G2}
use Rattle.word_base.specs.declared.rule.Refusal.{Refusal}
use Rattle.word_base.specs.Rules.{refusal}
use Rattle.root_signature.specs.Layout.{word, words_from, is_whole, parameter_at, parameter_type, is_parameter, record_at, record_words, has_record, range_at, range_count, ranges_at}
use Rattle.root_signature.specs.Covering.{each}
use Rattle.root_signature.specs.Refusals.{missing, range_refusals, parameter_refusals}
use Rattle.root_signature.specs.Bests.{IsBest, merged}
use Rattle.root_signature.proofs.Bests.{best_appended, none_in, best_one}
use Rattle.root_signature.proofs.Records.{record_list, nothing_broken}

pub if_true : {X : Type 0} (t : Bool) (a b : X) → t ≡ true → (if t then a else b) ≡ a
if_true true a b e = refl
if_true false a b e = absurd cc

pub if_false : {X : Type 0} (t : Bool) (a b : X) → t ≡ false → (if t then a else b) ≡ b
if_false true a b e = absurd cc
if_false false a b e = refl

merged_none : (a : Option Refusal) → merged a None ≡ a
merged_none None = refl
merged_none (Some a) = refl

module _ (content : List ℕ) (i : ℕ) where
  parts : (a b c : Option Refusal) → IsBest (Contains (record_list content (parameter_at content i) 3 4)) a
      → IsBest (Contains (if is_parameter content i then missing content (record_at content i) (record_words content i) else [])) b
      → IsBest (Contains (each (range_count content i) (λ j. range_refusals content (range_at content (ranges_at content i) j)))) c
      → IsBest (Contains (parameter_refusals content i)) (merged a (merged b c))
  parts a b c h k l =
      best_appended (record_list content (parameter_at content i) 3 4)
      ((if is_parameter content i then missing content (record_at content i) (record_words content i) else [])
      ++ each (range_count content i) (λ j. range_refusals content (range_at content (ranges_at content i) j))) a (merged b c) h
      (best_appended (if is_parameter content i then missing content (record_at content i) (record_words content i) else [])
      (each (range_count content i) (λ j. range_refusals content (range_at content (ranges_at content i) j))) b c k l)

  pub no_record : is_parameter content i ≡ false → (q : Refusal) → Contains (if is_parameter content i then missing content (record_at content i) (record_words content i) else []) q → ⊥
  no_record e q m =
      none_in q (subst (λ xs. Contains xs q) (if_false (is_parameter content i) (missing content (record_at content i) (record_words content i)) [] e) m)

  pub no_ranges : (has_record content i && nat_eq (parameter_type content i) 0) ≡ false → (q : Refusal)
      → Contains (each (range_count content i) (λ j. range_refusals content (range_at content (ranges_at content i) j))) q → ⊥
  no_ranges e q m =
      none_in q (subst (λ n. Contains (each n (λ j. range_refusals content (range_at content (ranges_at content i) j))) q)
      (if_false (has_record content i && nat_eq (parameter_type content i) 0) (word content (record_at content i)) 0 e) m)

  of_parameter : (a b : Bool) (d : Bool) → a ≡ false → ((a && b) && d) ≡ false
  of_parameter true b d e = absurd cc
  of_parameter false b d e = refl

  both : (a b : Bool) → a ≡ true → b ≡ true → (a && b) ≡ true
  both true b e f = f
  both false b e f = absurd cc

  pub second_fails : (a b : Bool) → b ≡ false → (a && b) ≡ false
  second_fails true b e = e
  second_fails false b e = refl

  pub first_fails : (a b : Bool) → a ≡ false → (a && b) ≡ false
  first_fails true b e = absurd cc
  first_fails false b e = refl

  at_most : (n m : ℕ) → n ≤ m → nat_le n m ≡ true
  at_most n m l = grind (arith, nat_tests)

  above : (n m : ℕ) → m < n → nat_le n m ≡ false
  above n m l = grind (arith, nat_tests)

  equal : (n m : ℕ) → n ≡ m → nat_eq n m ≡ true
  equal n m e = grind (arith, nat_tests)

  other : (n m : ℕ) → n ≢ m → nat_eq n m ≡ false
  other n m e = grind (arith, nat_tests)

  whole_words : is_whole content (parameter_at content i) 3 ≡ true → 3 ≤ words_from content (parameter_at content i)
  whole_words e = grind (arith, nat_tests)

  pub unknown_type : (best : Option Refusal) → is_whole content (parameter_at content i) 3 ≡ true → 4 < parameter_type content i
      → IsBest (Contains (record_list content (parameter_at content i) 3 4)) best → IsBest (Contains (parameter_refusals content i)) best
  unknown_type best w l h =
      subst (IsBest (Contains (parameter_refusals content i))) (merged_none best)
      (parts best None None h (no_record e) (no_ranges (first_fails (has_record content i) (nat_eq (parameter_type content i) 0) (first_fails (is_parameter content i) (is_whole content (record_at content i) (record_words content i)) e)))) where
        e : is_parameter content i ≡ false
        e = second_fails (is_whole content (parameter_at content i) 3) (nat_le (parameter_type content i) 4) (above (parameter_type content i) 4 l)

  sound_parameter : is_whole content (parameter_at content i) 3 ≡ true → parameter_type content i ≤ 4 → (q : Refusal) → Contains (record_list content (parameter_at content i) 3 4) q → ⊥
  sound_parameter w l = nothing_broken content (parameter_at content i) 3 4 (whole_words w) l

  is_known : is_whole content (parameter_at content i) 3 ≡ true → parameter_type content i ≤ 4 → is_parameter content i ≡ true
  is_known w l = both (is_whole content (parameter_at content i) 3) (nat_le (parameter_type content i) 4) w (at_most (parameter_type content i) 4 l)

  pub cut_record : is_whole content (parameter_at content i) 3 ≡ true → parameter_type content i ≤ 4
      → is_whole content (record_at content i) (record_words content i) ≡ false
      → IsBest (Contains (parameter_refusals content i)) (Some (refusal G2 (min (record_at content i + 4 * words_from content (record_at content i)) 4294967295)))
  cut_record w l f =
      parts None (Some (refusal G2 (min (record_at content i + 4 * words_from content (record_at content i)) 4294967295))) None (sound_parameter w l)
      (subst (λ xs. IsBest (Contains xs) (Some (refusal G2 (min (record_at content i + 4 * words_from content (record_at content i)) 4294967295)))) (sym listed)
      (best_one (refusal G2 (min (record_at content i + 4 * words_from content (record_at content i)) 4294967295)) refl))
      (no_ranges (first_fails (has_record content i) (nat_eq (parameter_type content i) 0)
      (second_fails (is_parameter content i) (is_whole content (record_at content i) (record_words content i)) f))) where
        not_whole : (t : Bool) → t ≡ false → not t ≡ true
        not_whole true e = absurd cc
        not_whole false e = refl

        listed : (if is_parameter content i then missing content (record_at content i) (record_words content i) else [])
            ≡ refusal G2 (min (record_at content i + 4 * words_from content (record_at content i)) 4294967295) ∷ []
        listed = if_true (is_parameter content i) (missing content (record_at content i) (record_words content i)) [] (is_known w l)
            ∙ if_true (not (is_whole content (record_at content i) (record_words content i)))
            (refusal G2 (min (record_at content i + 4 * words_from content (record_at content i)) 4294967295) ∷ []) [] (not_whole (is_whole content (record_at content i) (record_words content i)) f)

  sound_record : is_whole content (record_at content i) (record_words content i) ≡ true → (q : Refusal)
      → Contains (if is_parameter content i then missing content (record_at content i) (record_words content i) else []) q → ⊥
  sound_record f q m = none_in q (subst (λ xs. Contains xs q) (empty (is_parameter content i)) m) where
    is_whole_not : (t : Bool) → t ≡ true → not t ≡ false
    is_whole_not true e = refl
    is_whole_not false e = absurd cc

    missing_none : missing content (record_at content i) (record_words content i) ≡ []
    missing_none = if_false (not (is_whole content (record_at content i) (record_words content i)))
        (refusal G2 (min (record_at content i + 4 * words_from content (record_at content i)) 4294967295) ∷ []) [] (is_whole_not (is_whole content (record_at content i) (record_words content i)) f)

    empty : (t : Bool) → (if t then missing content (record_at content i) (record_words content i) else []) ≡ []
    empty true = missing_none
    empty false = refl

  pub single_record : is_whole content (parameter_at content i) 3 ≡ true → parameter_type content i ≤ 4
      → is_whole content (record_at content i) (record_words content i) ≡ true → parameter_type content i ≢ 0
      → IsBest (Contains (parameter_refusals content i)) None
  single_record w l f n =
      parts None None None (sound_parameter w l) (sound_record f)
      (no_ranges (second_fails (has_record content i) (nat_eq (parameter_type content i) 0) (other (parameter_type content i) 0 n)))

  pub table_record : (best : Option Refusal) (start count : ℕ) → is_whole content (parameter_at content i) 3 ≡ true
      → is_whole content (record_at content i) (record_words content i) ≡ true → parameter_type content i ≡ 0
      → start ≡ ranges_at content i → count ≡ word content (record_at content i)
      → IsBest (Contains (each count (λ j. range_refusals content (range_at content start j)))) best → IsBest (Contains (parameter_refusals content i)) best
  table_record best start count w f z s n h =
      parts None None best (sound_parameter w (omega arith)) (sound_record f)
      (subst (λ m. IsBest (Contains (each m (λ j. range_refusals content (range_at content (ranges_at content i) j)))) best)
      (n ∙ sym (if_true (has_record content i && nat_eq (parameter_type content i) 0) (word content (record_at content i)) 0 test))
      (subst (λ a. IsBest (Contains (each count (λ j. range_refusals content (range_at content a j)))) best) s h)) where
        test : (has_record content i && nat_eq (parameter_type content i) 0) ≡ true
        test = both (has_record content i) (nat_eq (parameter_type content i) 0)
            (both (is_parameter content i) (is_whole content (record_at content i) (record_words content i)) (is_known w (omega arith)) f)
            (equal (parameter_type content i) 0 z)
