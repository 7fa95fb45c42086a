-- Entries of which only some are kept, since the others were there before.
use Rattle.std.specs.Prelude.{◌≡◌, ◌⊎◌, ℕ, ◌+◌, ◌*◌, ◌<◌, ◌≤◌, List, length, slice_index, Option, Some, None, Contains}
use Rattle.word_base.specs.declared.rule.Refusal.{Refusal}
use Rattle.root_signature.specs.declared.covers.Entry.{Entry}
use Rattle.root_signature.specs.declared.entries.Found.{Found}
use Rattle.root_signature.specs.Covers.{Span, lowest, highest}
use Rattle.root_signature.specs.Layout.{range_words}
use Rattle.root_signature.specs.Covering.{spans_of, range_covered}
use Rattle.root_signature.specs.Refusals.{IsCoveredTwice}
use Rattle.root_signature.specs.Bests.{Yields, AreNinth}
use Rattle.root_signature.specs.Runs.{AreMarks, unmarked}

-- What the kept ones cover twice, with the best refusal, is what all of them cover twice.
pub record Thins (every kept : List Span) (best : Option Refusal) : Type 0 where
  pub twice : (q : Refusal) → IsCoveredTwice every q → Yields best q ⊎ IsCoveredTwice kept q
  pub kept_twice : (q : Refusal) → IsCoveredTwice kept q → IsCoveredTwice every q
  pub held : (s : Span) → Contains every s → Contains kept s
  pub among : (s : Span) → Contains kept s → Contains every s
  pub is_broken : (r : Refusal) → best ≡ Some r → IsCoveredTwice every r

-- The marks are those of ranges that are there, and a refusal is one of root signatures.
pub record IsReady (content marks : List ℕ) (again : Option Refusal) : Type 0 where
  pub are : AreMarks (4 * range_words content) marks
  pub whole : (at : ℕ) → 0 < slice_index marks at → at + 4 * range_words content ≤ length content
  pub size : length marks ≡ length content
  pub phase : AreNinth again

-- What was found of these entries: they are all kept where nothing was found to be covered twice, and the words of root
-- constants are few. What ranges cover that are marked is among them.
pub record FindsIn (content : List ℕ) (every : List Entry) (words : ℕ) (entries : List Entry) (marks : List ℕ)
    (again : Option Refusal) : Type 0 where
  pub thins : Thins (spans_of every) (spans_of entries) again
  pub exact : again ≡ None → words ≤ 64 → entries ≡ every
  pub marked : (at : ℕ) → 0 < slice_index marks at → (s : Span) → Contains (spans_of (range_covered content at)) s
      → Contains (spans_of entries) s
  pub some : (e : Entry) → Contains entries e → lowest e.covers ≤ highest e.covers
  pub ready : IsReady content marks again

abbrev pub Finds : List ℕ → List Entry → ℕ → Found → Type 0
Finds content every words found = FindsIn content every words found.entries.items found.marks.items found.again

abbrev pub IsReadyIn : List ℕ → Found → Type 0
IsReadyIn content found = IsReady content found.marks.items found.again

-- how many entries are kept, and how many more ranges may be
abbrev pub room_of : Found → ℕ
room_of found = length found.entries.items + unmarked found.marks.items
