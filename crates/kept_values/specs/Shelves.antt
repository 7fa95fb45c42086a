-- The words of one sort: their ids, and those that wait.
use Rattle.std.specs.Prelude.{◌≡◌, ℕ, ◌++◌, ◌∷◌, [], List, Option, Some, None, true, get_or, take, length, ◌-◌, if◌then◌else◌}
use Rattle.kept_values.specs.Numbers.{has}

-- the words that have an id, for each number the id that its word was given last, and the words that wait, in the
-- order in which they came to wait
pub record Shelved : Type 0 where
  pub kept : List ℕ
  pub ids : List ℕ
  pub waiting : List ℕ

abbrev pub shelved : List ℕ → List ℕ → List ℕ → Shelved
shelved kept ids waiting = record { kept = kept; ids = ids; waiting = waiting }

abbrev pub id_of : Shelved → ℕ → Option ℕ
id_of s n = if has s.kept n then Some (get_or s.ids n 0) else None

-- a list with a number that is added at the end where it is not there
abbrev pub joined : List ℕ → ℕ → List ℕ
joined numbers n = if has numbers n then numbers else numbers ++ n ∷ []

-- a list without its last item
abbrev pub all_but_last : {X : Type 0} → List X → List X
all_but_last xs = take (length xs - 1) xs

-- each word that waits has an id
abbrev pub IsShelved : Shelved → Type 0
IsShelved s = (n : ℕ) → has s.waiting n ≡ true → has s.kept n ≡ true
