-- Which rows are covered by the spans so far.
use Rattle.std.specs.Prelude.{◌≡◌, ℕ, ◌<◌, ◌≤◌, List, length, slice_index, Option, Contains}
use Rattle.word_base.specs.declared.rule.Refusal.{Refusal}
use Rattle.root_signature.specs.Covers.{Span}
use Rattle.root_signature.specs.Refusals.{IsCoveredTwice}
use Rattle.root_signature.specs.Bests.{IsBest}
use Rattle.root_signature.specs.Runs.{AreMarks}

-- a row of the table lies in the span
pub record IsIn (row : ℕ) (span : Span) : Type 0 where
  pub above : span.low ≤ row
  pub below : row ≤ span.high

-- Those rows are marked that lie in one of the spans, and the best refusal is that of what they cover twice.
pub record Overlapping (rows : List ℕ) (spans : List Span) (marks : List ℕ) (best : Option Refusal) : Type 0 where
  pub are : AreMarks 1 marks
  pub size : length marks ≡ length rows
  pub marked : (at : ℕ) → 0 < slice_index marks at → (s : Span) × (Contains spans s × IsIn (slice_index rows at) s)
  pub covered : (at : ℕ) (s : Span) → at < length rows → Contains spans s → IsIn (slice_index rows at) s
      → 0 < slice_index marks at
  pub first : IsBest (IsCoveredTwice spans) best

-- each span has registers, and its lowest is a row of the table
abbrev pub AreSome : List ℕ → List Span → Type 0
AreSome rows spans = (s : Span) → Contains spans s → Contains rows s.low × (s.low ≤ s.high)
