-- In a loop or switch a break leads somewhere, and in a loop a continue.
use Rattle.std.proofs.Common.{◌≡◌, true, List, [], ◌∷◌, refl}
use Rattle.std.specs.Prelude.{is_some}
use Rattle.shader_check.specs.Statements.{Statement, Then, If, IfElse, Switch}
use Rattle.raise_program.specs.Spots.{Frame, Before, Behind, InIf, InThen, InElse, InLoop, InSwitch, where_in}
use Rattle.raise_program.specs.SpotLane.{left_spot, renewed_spot}

pub some_left : (frames : List Frame) (s : Statement) → (where_in frames).leaves ≡ true → is_some (left_spot frames s) ≡ true
some_left [] s h = absurd (cc)
some_left (Before next ∷ frames) s h = some_left frames (Then s next) h
some_left (Behind first ∷ frames) s h = some_left frames (Then first s) h
some_left (InIf opening end ∷ frames) s h = some_left frames (If opening s end) h
some_left (InThen opening middle other end ∷ frames) s h = some_left frames (IfElse opening s middle other end) h
some_left (InElse opening body middle end ∷ frames) s h = some_left frames (IfElse opening body middle s end) h
some_left (InLoop opening end ∷ frames) s h = refl
some_left (InSwitch opening end ∷ frames) s h = refl

pub some_renewed : (frames : List Frame) (s : Statement) → (where_in frames).loops ≡ true → is_some (renewed_spot frames s) ≡ true
some_renewed [] s h = absurd (cc)
some_renewed (Before next ∷ frames) s h = some_renewed frames (Then s next) h
some_renewed (Behind first ∷ frames) s h = some_renewed frames (Then first s) h
some_renewed (InIf opening end ∷ frames) s h = some_renewed frames (If opening s end) h
some_renewed (InThen opening middle other end ∷ frames) s h = some_renewed frames (IfElse opening s middle other end) h
some_renewed (InElse opening body middle end ∷ frames) s h = some_renewed frames (IfElse opening body middle s end) h
some_renewed (InLoop opening end ∷ frames) s h = refl
some_renewed (InSwitch opening end ∷ frames) s h = some_renewed frames (Switch opening s end) h
