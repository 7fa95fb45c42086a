-- The first broken rule of the ranges of a table.
use Rattle.std.proofs.Common.{◌≡◌, ℕ, ◌+◌, ◌*◌, ◌<◌, ◌≤◌, ◌⊎◌, inl, inr, Bool, true, false, min, List, length, Option, Some, None, refl, sym, subst, arith}
use Rattle.std.specs.Prelude.{Contains, slice_index, ◌&&◌, not, nat_lt}
use Rattle.std.proofs.Math.Nat.{mul-le-mul_left, mul-add}
use Rattle.std.proofs.lemmas.Bool.Decides.{nat_tests}
use Rattle.std.proofs.lemmas.List.Elements.{Contains-append_left, Contains-append_right}
use Rattle.word_base.specs.declared.rule.Rule.TheVariants.{G2, G3}
use Rattle.word_base.specs.declared.rule.Refusal.{Refusal}
use Rattle.word_base.specs.Rules.{refusal}
use Rattle.root_signature.specs.declared.runs.Test.TheVariants.{Known}
use Rattle.root_signature.specs.Layout.{word, words_from, is_whole, range_words, range_at}
use Rattle.root_signature.specs.Covering.{each}
use Rattle.root_signature.specs.Refusals.{missing, unknown, range_refusals}
use Rattle.root_signature.specs.Bests.{IsBest, Yields}
use Rattle.root_signature.specs.Runs.{AreRuns, passes}
use Rattle.root_signature.proofs.Bests.{is_best, is_broken, yields, ninth}
use Rattle.root_signature.proofs.Whole.{some_words}
use Rattle.root_signature.proofs.Records.{record_list, nothing_broken, is_broken_there, behind}
use Rattle.root_signature.proofs.Eachs.{in_each, each_in}

-- records one behind the other, of which those before one break nothing, and that one breaks something: it has the first broken rule
pub first_of : (content : List ℕ) (start words last count run : ℕ) (best : Option Refusal) → length content ≤ 16777216 → 0 < words → run < count
    → ((k : ℕ) → k < run → (q : Refusal) → Contains (record_list content (start + 4 * words * k) words last) q → ⊥)
    → ((q : Refusal) × Contains (record_list content (start + 4 * words * run) words last) q)
    → IsBest (Contains (record_list content (start + 4 * words * run) words last)) best
    → IsBest (Contains (each count (λ j. record_list content (start + 4 * words * j) words last))) best
first_of content start words last count run best small some l none one h =
    is_best (Contains (each count (λ j. record_list content (start + 4 * words * j) words last))) best
    (ninth (Contains (record_list content (start + 4 * words * run) words last)) best h)
    (λ r e. each_in count (λ j. record_list content (start + 4 * words * j) words last) r run l (is_broken (Contains (record_list content (start + 4 * words * run) words last)) best r h e))
    (λ q m. let w : (j : ℕ) × (j < count) × Contains (record_list content (start + 4 * words * j) words last) q =
    in_each count (λ j. record_list content (start + 4 * words * j) words last) q m in at q w.0 w.2 (cases w.0 run)) where
      cases : (j run : ℕ) → (j < run) ⊎ ((j ≡ run) ⊎ (run < j))
      cases j run = grind (arith, nat_tests)

      far : (s w a b : ℕ) → a < b → s + 4 * w * a + 4 * w ≤ s + 4 * w * b
      far s w a b l = omega (arith, mul-le-mul_left {m = a + 1} {n = b} (4 * w) (omega arith), mul-add (4 * w) a 1)

      past : (q : Refusal) (j : ℕ) (b : Option Refusal) → run < j → Contains (record_list content (start + 4 * words * j) words last) q
          → IsBest (Contains (record_list content (start + 4 * words * run) words last)) b → Yields b q
      past q j None l m h = absurd (h one.0 one.1)
      past q j (Some r) l m h =
          behind content (start + 4 * words * run) words last (start + 4 * words * j) words last small (far start words run j l) some r q h.first.is_broken m

      at : (q : Refusal) (j : ℕ) → Contains (record_list content (start + 4 * words * j) words last) q → (j < run) ⊎ ((j ≡ run) ⊎ (run < j)) → Yields best q
      at q j m (inl a) = absurd (none j a q m)
      at q j m (inr (inl e)) =
          yields (Contains (record_list content (start + 4 * words * run) words last)) best q h (subst (λ x. Contains (record_list content (start + 4 * words * x) words last) q) e m)
      at q j m (inr (inr a)) = past q j best a m h

pub known_sound : (content : List ℕ) (at : ℕ) → passes Known content at ≡ true → (q : Refusal) → Contains (range_refusals content at) q → ⊥
known_sound content at e = nothing_broken content at (range_words content) 3 (enough e) (low e) where
  enough : passes Known content at ≡ true → range_words content ≤ words_from content at
  enough e = grind (arith, nat_tests)

  low : passes Known content at ≡ true → word content at ≤ 3
  low e = grind (arith, nat_tests)

pub unknown_broken : (content : List ℕ) (at : ℕ) → passes Known content at ≡ false → (q : Refusal) × Contains (range_refusals content at) q
unknown_broken content at e = cases (is_whole content at (range_words content)) refl where
  missing_there : is_whole content at (range_words content) ≡ false → not (is_whole content at (range_words content)) ≡ true
  missing_there e = grind (arith, nat_tests)

  unknown_there : 0 < range_words content → is_whole content at (range_words content) ≡ true → (is_whole content at 1 && nat_lt 3 (word content at)) ≡ true
  unknown_there s w = grind (arith, nat_tests)

  cases : (t : Bool) → is_whole content at (range_words content) ≡ t → (q : Refusal) × Contains (range_refusals content at) q
  cases false w = (
    refusal G2 (min (at + 4 * words_from content at) 4294967295),
    Contains-append_left (missing content at (range_words content)) (unknown content at 3) (refusal G2 (min (at + 4 * words_from content at) 4294967295))
        (is_broken_there (not (is_whole content at (range_words content))) G2 (min (at + 4 * words_from content at) 4294967295) (missing_there w)),
  )
  cases true w = (
    refusal G3 at,
    Contains-append_right (missing content at (range_words content)) (unknown content at 3) (refusal G3 at)
        (is_broken_there (is_whole content at 1 && nat_lt 3 (word content at)) G3 at (unknown_there (some_words content) w)),
  )

pub table_broken : (content runs : List ℕ) (start count : ℕ) (best : Option Refusal) → length content ≤ 16777216
    → AreRuns (passes Known content) (4 * range_words content) runs → (run : ℕ) → (run ≡ slice_index runs start) → run < count
    → IsBest (Contains (range_refusals content (range_at content start run))) best
    → IsBest (Contains (each count (λ j. range_refusals content (range_at content start j)))) best
table_broken content runs start count best small are run e l h =
    first_of content start (range_words content) 3 count run best small (some_words content) l
    (λ k b. known_sound content (range_at content start k) (are.passed start k (subst (λ x. k < x) e b)))
    (unknown_broken content (range_at content start run) (subst (λ x. passes Known content (range_at content start x) ≡ false) (sym e) (are.ended start))) h

pub table_sound : (content runs : List ℕ) (start count : ℕ) → AreRuns (passes Known content) (4 * range_words content) runs
    → (run : ℕ) → (run ≡ slice_index runs start) → count ≤ run
    → (q : Refusal) → Contains (each count (λ j. range_refusals content (range_at content start j))) q → ⊥
table_sound content runs start count are run e l q m =
    let w : (j : ℕ) × (j < count) × Contains (range_refusals content (range_at content start j)) q = in_each count (λ j. range_refusals content (range_at content start j)) q m in
    known_sound content (range_at content start w.0) (are.passed start w.0 (subst (λ x. w.0 < x) e (omega (arith, w.1)))) q w.2
