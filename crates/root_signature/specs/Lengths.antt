-- Tables that are filled from the end on.
use Rattle.std.specs.Prelude.{◌≡◌, ℕ, ◌+◌, ◌-◌, ◌*◌, ◌<◌, ◌≤◌, Bool, true, false, List, length, slice_index}

-- From that place on, each number is how many pass from there on, one every so many places; before it there is none.
pub record RunsFrom (test : ℕ → Bool) (step n from : ℕ) (runs : List ℕ) : Type 0 where
  pub size : length runs ≡ n
  pub within : from ≤ n
  pub empty : (at : ℕ) → at < from → slice_index runs at ≡ 0
  pub bound : (at : ℕ) → slice_index runs at ≤ n - at
  pub passed : (at k : ℕ) → k < slice_index runs at → test (at + step * k) ≡ true
  pub ended : (at : ℕ) → from ≤ at → test (at + step * slice_index runs at) ≡ false
