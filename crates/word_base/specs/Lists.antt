-- Words about lists, for every crate.
use Rattle.std.specs.Prelude.{List, [], ◌∷◌}

-- this holds of each thing in the list
abbrev pub Each : {X : Type 0} → (X → Type 0) → List X → Type 0
Each P [] = Unit {0}
Each P (x ∷ xs) = P x × Each P xs
