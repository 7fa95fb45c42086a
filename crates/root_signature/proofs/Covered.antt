-- What the parameters cover, as far as they are there.
use Rattle.std.proofs.Common.{◌≡◌, ℕ, zero, suc, ◌+◌, ◌-◌, ◌/◌, ◌<◌, ◌≤◌, ◌⊎◌, ⊎_elim, Bool, true, false, min, List, [], length, map, refl, sym, ap, ◌∙◌, arith}
use Rattle.std.specs.Prelude.{◌&&◌, nat_le, nat_eq, nat_lt}
use Rattle.std.proofs.lemmas.Bool.Decides.{nat_tests}
use Rattle.root_signature.specs.Layout.{word, words_from, is_whole, parameter_count, parameter_at, parameter_type, is_parameter, is_visible, record_at, record_words, has_record, range_words, range_at, range_count, ranges_at}
use Rattle.root_signature.specs.Covering.{entry, is_range, is_visible_table, is_single, range_covered, range_covers, table_covered, single_covers, words_at, words_before, parameter_covered, covered_below, all_covered}
use Rattle.root_signature.proofs.Whole.{whole, behind_end, some_words}
use Rattle.root_signature.proofs.Eachs.{each_short}
use Rattle.root_signature.proofs.Parameters.{if_true, if_false}
use Rattle.root_signature.proofs.Listed.{words_more}

both_left : (a b : Bool) → (a && b) ≡ true → a ≡ true
both_left true b e = refl
both_left false b e = absurd cc

both_right : (a b : Bool) → (a && b) ≡ true → b ≡ true
both_right true b e = e
both_right false b e = absurd cc

both : (a b : Bool) → a ≡ true → b ≡ true → (a && b) ≡ true
both true b e f = f
both false b e f = absurd cc

fails : (a b : Bool) → a ≡ false → (a && b) ≡ false
fails true b e = absurd cc
fails false b e = refl

few_words : (content : List ℕ) (at words : ℕ) → words_from content at < words → is_whole content at words ≡ false
few_words content at words h = grind (arith, nat_tests)

-- a range that is not there covers nothing
cut_range : (content : List ℕ) (at : ℕ) → is_whole content at (range_words content) ≡ false → range_covered content at ≡ []
cut_range content at e = if_false (is_range content at) (map (entry at) (range_covers (word content at) (word content (at + 8)) (word content (at + 4)))) []
    (fails (is_whole content at (range_words content)) (nat_lt 0 (word content (at + 4)) && nat_eq (word content (at + 12)) 0) e)

least : (a b n : ℕ) → n ≡ min a b → (n ≤ a) × ((n ≡ a) ⊎ (n ≡ b))
least a b n e = (omega arith, grind arith)

pub table_cut : (content : List ℕ) (start count there n : ℕ) → there ≡ words_from content start / range_words content → n ≡ min count there
    → table_covered content start n ≡ table_covered content start count
table_cut content start count there n e m = sym (cases (least count there n m)) where
  cut : n ≡ there → (j : ℕ) → n ≤ j → range_covered content (range_at content start j) ≡ []
  cut f j l = cut_range content (range_at content start j)
      (few_words content (range_at content start j) (range_words content) (behind_end content start (range_words content) j (some_words content) (omega (arith, e, f))))

  cases : (n ≤ count) × ((n ≡ count) ⊎ (n ≡ there)) → table_covered content start count ≡ table_covered content start n
  cases w = ⊎_elim (λ f. ap (λ x. table_covered content start x) (sym f)) (λ f. each_short n count (λ j. range_covered content (range_at content start j)) w.0 (cut f)) w.1

-- what a visible table covers
pub table_there : (content : List ℕ) (i start count : ℕ) → is_visible_table content i ≡ true → start ≡ ranges_at content i → count ≡ word content (record_at content i)
    → table_covered content start count ≡ parameter_covered content i
table_there content i start count e s n =
    ap (λ x. table_covered content x count) s ∙ (ap (λ x. table_covered content (ranges_at content i) x) (n ∙ sym (if_true (has_record content i && nat_eq (parameter_type content i) 0) (word content (record_at content i)) 0 tested))
    ∙ sym (if_true (is_visible_table content i) (table_covered content (ranges_at content i) (range_count content i)) (map (entry (record_at content i)) (single_covers content i)) e)) where
      rest : (is_visible content i && nat_eq (parameter_type content i) 0) ≡ true
      rest = both_right (has_record content i) (is_visible content i && nat_eq (parameter_type content i) 0) e

      tested : (has_record content i && nat_eq (parameter_type content i) 0) ≡ true
      tested = both (has_record content i) (nat_eq (parameter_type content i) 0) (both_left (has_record content i) (is_visible content i && nat_eq (parameter_type content i) 0) e)
          (both_right (is_visible content i) (nat_eq (parameter_type content i) 0) rest)

pub single_there : (content : List ℕ) (i : ℕ) → is_visible_table content i ≡ false → map (entry (record_at content i)) (single_covers content i) ≡ parameter_covered content i
single_there content i e =
    sym (if_false (is_visible_table content i) (table_covered content (ranges_at content i) (range_count content i)) (map (entry (record_at content i)) (single_covers content i)) e)

-- a parameter whose words are not all there covers nothing, and has no root constants
module _ (content : List ℕ) (j : ℕ) (e : is_whole content (parameter_at content j) 3 ≡ false) where
  nothing_pointed : has_record content j ≡ false
  nothing_pointed = fails (is_parameter content j) (is_whole content (record_at content j) (record_words content j))
      (fails (is_whole content (parameter_at content j) 3) (nat_le (parameter_type content j) 4) e)

  no_single : (type : ℕ) → is_single content j type ≡ false
  no_single type = fails (has_record content j) (is_visible content j && (nat_eq (parameter_type content j) type && nat_eq (word content (record_at content j + 4)) 0)) nothing_pointed

  pub cut_parameter : parameter_covered content j ≡ []
  cut_parameter =
      sym (single_there content j (fails (has_record content j) (is_visible content j && nat_eq (parameter_type content j) 0) nothing_pointed))
      ∙ ap (map (entry (record_at content j)))
      (if_false (is_single content j 1) _ _ (no_single 1) ∙ (if_false (is_single content j 2) _ _ (no_single 2) ∙ (if_false (is_single content j 3) _ _ (no_single 3)
      ∙ if_false (is_single content j 4) _ _ (no_single 4))))

  pub cut_words : words_at content j ≡ 0
  cut_words = if_false (is_single content j 1) (word content (record_at content j + 8)) 0 (no_single 1)

cut_at : (content : List ℕ) (there j : ℕ) → there ≡ words_from content (word content 8) / 3 → there ≤ j → is_whole content (parameter_at content j) 3 ≡ false
cut_at content there j e l = few_words content (parameter_at content j) 3 (behind_end content (word content 8) 3 j (omega arith) (omega (arith, e)))

pub words_grow : (content : List ℕ) (i : ℕ) → words_before content i ≤ words_before content (i + 1)
words_grow content i = omega (arith, words_more content i)

-- behind the last parameter that is there the sum stays
words_stay : (content : List ℕ) (there n d : ℕ) → there ≡ words_from content (word content 8) / 3 → there ≤ n → words_before content (n + d) ≡ words_before content n
words_stay content there n zero e l = ap (words_before content) (none n) where
  none : (n : ℕ) → n + 0 ≡ n
  none n = omega arith
words_stay content there n (suc d) e l =
    ap (words_before content) (one n d) ∙ (words_more content (n + d)
    ∙ (ap (λ x. words_before content (n + d) + x) (cut_words content (n + d) (cut_at content there (n + d) e (omega arith))) ∙ (nothing (words_before content (n + d)) ∙ words_stay content there n d e l))) where
      one : (n d : ℕ) → n + suc d ≡ n + d + 1
      one n d = omega arith

      nothing : (n : ℕ) → n + 0 ≡ n
      nothing n = omega arith

pub all_there : (content : List ℕ) (there n : ℕ) → 12 ≤ length content → there ≡ words_from content (word content 8) / 3 → n ≡ min (word content 4) there
    → (covered_below content n ≡ all_covered content) × (words_before content n ≡ words_before content (parameter_count content))
all_there content there n l e m = cases (least (word content 4) there n m) where
  count : parameter_count content ≡ word content 4
  count = if_true (is_whole content 0 3) (word content 4) 0 (whole content 0 3 l)

  more : (n c : ℕ) → n ≤ c → n + (c - n) ≡ c
  more n c l = omega arith

  cases : (n ≤ word content 4) × ((n ≡ word content 4) ⊎ (n ≡ there)) → (covered_below content n ≡ all_covered content) × (words_before content n ≡ words_before content (parameter_count content))
  cases w = ⊎_elim
      (λ f. (ap (covered_below content) (f ∙ sym count), ap (words_before content) (f ∙ sym count)))
      (λ f. (
        sym (each_short n (word content 4) (parameter_covered content) w.0 (λ j k. cut_parameter content j (cut_at content there j e (omega (arith, f))))) ∙ ap (covered_below content) (sym count),
        sym (words_stay content there n (word content 4 - n) e (omega (arith, f))) ∙ ap (words_before content) (more n (word content 4) w.0 ∙ sym count),
      ))
      w.1
