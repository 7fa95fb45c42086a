-- Lists of distinct numbers, and where each of them stands.
use Rattle.std.specs.Prelude.{◌≡◌, ℕ, Bool, List, nat_eq, slice_get, Some}
use Rattle.std.specs.List.{list_any}

-- whether a number is one of a list
abbrev pub has : List ℕ → ℕ → Bool
has numbers n = list_any (nat_eq n) numbers

-- at each number of the list, the places have the number's place: so no number is there twice, and each is below
-- how many places there are
abbrev pub IsIndexed : List ℕ → List ℕ → Type 0
IsIndexed places numbers = (i n : ℕ) → slice_get numbers i ≡ Some n → slice_get places n ≡ Some i
