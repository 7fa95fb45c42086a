-- A row of places, each empty or holding a value, and the list of what the first of them hold.
use Rattle.std.specs.Prelude.{◌≡◌, ℕ, zero, suc, List, [], ◌∷◌, length, get_or, Option, Some, None, refl}

module _ {X : Type 0} where
  -- the place at the index holds a value
  abbrev pub Holds : List (Option X) → ℕ → Type 0
  Holds places index = (x : X) × (get_or places index None ≡ Some x)

  -- the values in the first n places, in their order
  abbrev pub stored : ℕ → List (Option X) → List X
  stored zero places = []
  stored (suc n) [] = []
  stored (suc n) (None ∷ places) = stored n places
  stored (suc n) (Some x ∷ places) = x ∷ stored n places

  -- each of the first n places holds a value
  abbrev pub IsStored : ℕ → List (Option X) → Type 0
  IsStored n places = length (stored n places) ≡ n

  -- each value in the places is such a one
  abbrev pub AllHold : (X → Type 0) → List (Option X) → Type 0
  AllHold P [] = Unit {0}
  AllHold P (None ∷ places) = AllHold P places
  AllHold P (Some x ∷ places) = P x × AllHold P places

-- two items in three places, and none of what lies behind them
of_three_places : stored {X = ℕ} 2 (Some 5 ∷ Some 7 ∷ Some 9 ∷ []) ≡ 5 ∷ 7 ∷ []
of_three_places = refl
