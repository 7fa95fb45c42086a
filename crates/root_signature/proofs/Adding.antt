-- What is found with one more parameter.
use Rattle.std.proofs.Common.{◌≡◌, ℕ, ◌/◌, ◌≤◌, inl, inr, true, false, min, List, [], ◌∷◌, ◌++◌, map, Option, Some, None, refl, sym, ap, ◌∙◌, subst}
use Rattle.std.specs.Option.{option_to_list, IfSome}
use Rattle.word_base.specs.declared.rule.Refusal.{Refusal}
use Rattle.root_signature.specs.declared.covers.Covers.{Covers}
use Rattle.root_signature.specs.declared.covers.Entry.{Entry}
use Rattle.root_signature.specs.Covers.{span, lowest, highest}
use Rattle.root_signature.specs.Layout.{word, words_from, record_at, range_words, ranges_at}
use Rattle.root_signature.specs.Covering.{entry, spans_of, is_visible_table, single_covers, table_covered, parameter_covered}
use Rattle.root_signature.specs.Thinning.{FindsIn}
use Rattle.root_signature.proofs.Finding.{IsSmall, finds_single}
use Rattle.root_signature.proofs.Covered.{table_cut, table_there, single_there}

pub add_table : (content : List ℕ) (i start count there n : ℕ) (every : List Entry) (words : ℕ) (entries : List Entry) (marks : List ℕ) (again : Option Refusal)
    → is_visible_table content i ≡ true → start ≡ ranges_at content i → count ≡ word content (record_at content i) → there ≡ words_from content start / range_words content
    → n ≡ min count there → FindsIn content (every ++ table_covered content start n) words entries marks again
    → FindsIn content (every ++ parameter_covered content i) words entries marks again
add_table content i start count there n every words entries marks again e s c t m h =
    subst (λ xs. FindsIn content xs words entries marks again) (ap (λ xs. every ++ xs) (table_cut content start count there n t m ∙ table_there content i start count e s c)) h

fused : (place : ℕ) (cs : List Covers) → spans_of (map (entry place) cs) ≡ map (span place) cs
fused place [] = refl
fused place (c ∷ cs) = ap (λ xs. span place c ∷ xs) (fused place cs)

small_of : (place : ℕ) (o : Option Covers) → IfSome o (λ c. lowest c ≤ highest c) → IsSmall (map (entry place) (option_to_list o))
small_of place None h = inl refl
small_of place (Some c) h = inr (entry place c, (refl, h))

pub add_single : (content : List ℕ) (i : ℕ) (o : Option Covers) (every : List Entry) (words : ℕ) (entries next : List Entry) (marks left : List ℕ) (again later : Option Refusal)
    → is_visible_table content i ≡ false → ((at : ℕ) → map (span at) (option_to_list o) ≡ map (span at) (single_covers content i))
    → (words ≤ 64 → option_to_list o ≡ single_covers content i) → IfSome o (λ c. lowest c ≤ highest c)
    → next ≡ entries ++ map (entry (record_at content i)) (option_to_list o) → left ≡ marks → later ≡ again
    → FindsIn content every words entries marks again → FindsIn content (every ++ parameter_covered content i) words next left later
add_single content i o every words entries next marks left again later e spans exact some f g k h =
    subst (λ xs. FindsIn content (every ++ parameter_covered content i) words xs left later) (sym f)
    (subst (λ xs. FindsIn content (every ++ parameter_covered content i) words (entries ++ map (entry (record_at content i)) (option_to_list o)) xs later) (sym g)
    (subst (FindsIn content (every ++ parameter_covered content i) words (entries ++ map (entry (record_at content i)) (option_to_list o)) marks) (sym k)
    (subst (λ xs. FindsIn content (every ++ xs) words (entries ++ map (entry (record_at content i)) (option_to_list o)) marks again) (single_there content i e)
    (finds_single content every words entries (map (entry (record_at content i)) (single_covers content i)) (map (entry (record_at content i)) (option_to_list o)) marks again h
    (fused (record_at content i) (option_to_list o) ∙ (spans (record_at content i) ∙ sym (fused (record_at content i) (single_covers content i))))
    (λ l. ap (map (entry (record_at content i))) (exact l)) (small_of (record_at content i) o some)))))
