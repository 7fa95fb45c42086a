-- How pieces of code that stand one behind the other give ids their values: by places in the list of ids.
use Rattle.std.specs.Prelude.{ℕ, zero, suc, List, [], ◌∷◌, ◌++◌, Option, Some, None, Ok}
use Rattle.spirv_words.specs.Values.{Value, and_then}
use Rattle.spirv_emit.specs.Values.{Meaning}

module _ {X : Type 0} where
  abbrev pub at_place : List X → ℕ → Option X
  at_place [] k = None
  at_place (x ∷ xs) zero = Some x
  at_place (x ∷ xs) (suc k) = at_place xs k

  abbrev pub with_item : Option X → List X → List X
  with_item None xs = xs
  with_item (Some x) xs = x ∷ xs

  -- the items at these places
  abbrev pub picked : List ℕ → List X → List X
  picked [] xs = []
  picked (p ∷ ps) xs = with_item (at_place xs p) (picked ps xs)

-- what was there
abbrev pub given : Meaning
given z t vs = Ok vs

-- one that takes no values
abbrev pub always : Value → Meaning
always v z t vs = Ok (v ∷ [])

-- the second piece takes some of the ids of the first, and all of these stay
abbrev pub joined : Meaning → List ℕ → Meaning → Meaning
joined f ps h z t vs = and_then (f z t vs) (λ us. and_then (h z t (picked ps us)) (λ ws. Ok (ws ++ us)))

abbrev pub only : List ℕ → Meaning → Meaning
only ps f z t vs = and_then (f z t vs) (λ us. Ok (picked ps us))
