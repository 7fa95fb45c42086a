-- Tables of how many ranges stand one behind the other that pass a test, by the byte in which the first of them begins;
-- and marks.
use Rattle.std.specs.Prelude.{◌≡◌, ℕ, ◌+◌, ◌*◌, ◌<◌, ◌≤◌, ◌⊎◌, nat_eq, nat_le, nat_lt, ◌&&◌, not, Bool, true, false, List, length, slice_index, count_by}
use Rattle.root_signature.specs.declared.runs.Test.{Test}
use Rattle.root_signature.specs.declared.runs.Test.TheVariants.{Known, Bare}
use Rattle.root_signature.specs.Layout.{word, is_whole, range_words}
use Rattle.root_signature.specs.Covering.{is_range}

-- whether the range in that byte is there and of a known type, or is there and covers nothing
abbrev pub passes : Test → List ℕ → ℕ → Bool
passes Known content at = is_whole content at (range_words content) && nat_le (word content at) 3
passes Bare content at =
    is_whole content at (range_words content) && not (is_range content at && nat_lt (word content at) 3)

-- Each number is how many pass from there on, one every so many bytes.
pub record AreRuns (test : ℕ → Bool) (step : ℕ) (runs : List ℕ) : Type 0 where
  pub passed : (at k : ℕ) → k < slice_index runs at → test (at + step * k) ≡ true
  pub ended : (at : ℕ) → test (at + step * slice_index runs at) ≡ false

-- What is marked has a number above 0. As many as that number are marked from there on, one every so many places.
abbrev pub AreMarks : ℕ → List ℕ → Type 0
AreMarks step marks = (at k : ℕ) → k < slice_index marks at → 0 < slice_index marks (at + step * k)

-- how many places are not marked
abbrev pub unmarked : List ℕ → ℕ
unmarked marks = count_by (λ n. nat_eq n 0) marks

-- So many places from the start on, one every so many, are marked beside those that were.
pub record Marks (step start count : ℕ) (old new : List ℕ) : Type 0 where
  pub marks : AreMarks step new
  pub size : length new ≡ length old
  pub kept : (at : ℕ) → 0 < slice_index old at → 0 < slice_index new at
  pub added : (j : ℕ) → j < count → 0 < slice_index new (start + step * j)
  pub only : (at : ℕ) → 0 < slice_index new at
      → (0 < slice_index old at) ⊎ ((j : ℕ) × (j < count) × (at ≡ start + step * j))
  pub fewer : unmarked new ≤ unmarked old

-- the same while the places are marked, up to those with the number j
pub record Marking (step start count j : ℕ) (old new : List ℕ) : Type 0 where
  pub size : length new ≡ length old
  pub kept : (at : ℕ) → 0 < slice_index old at → 0 < slice_index new at
  pub reaches : (at k : ℕ) → k < slice_index new at
      → (k < slice_index old at) ⊎ ((m : ℕ) × (m < count) × (at + step * k ≡ start + step * m))
  pub ahead : (m : ℕ) → j ≤ m → m < count → slice_index new (start + step * m) ≡ slice_index old (start + step * m)
  pub added : (m : ℕ) → m < j → 0 < slice_index new (start + step * m)
  pub only : (at : ℕ) → 0 < slice_index new at
      → (0 < slice_index old at) ⊎ ((m : ℕ) × (m < count) × (at ≡ start + step * m))
  pub fewer : unmarked new ≤ unmarked old
  pub within : j ≤ count
