-- From each spot moves lead to one at which an instruction stands, at the same place.
use Rattle.std.proofs.Common.{◌≡◌, ℕ, suc, ◌+◌, List, [], ◌∷◌, Some, None, refl, sym, ap, ◌∙◌, arith, length-append}
use Rattle.shader_check.specs.Statements.{Statement, Nothing, Then, Plain, If, IfElse, Loop, Switch, Label, flattened}
use Rattle.raise_program.specs.Spots.{Frame, Before, Behind, InIf, InThen, InElse, InLoop, InSwitch}
use Rattle.raise_program.specs.SpotLane.{Spot, AtBegin, AtEnd, moved, place_of, whole_of, IsMoved}
use Rattle.raise_program.proofs.Around.{place_more}

same : (x y : Spot) → Some x ≡ Some y → x ≡ y
same x y h = cc

as_moved : (x y z : Spot) → moved x ≡ Some z → (place_of z ≡ place_of x) × (whole_of z ≡ whole_of x) → moved x ≡ Some y → (place_of y ≡ place_of x) ×
    (whole_of y ≡ whole_of x)
as_moved x y z e k h = let z : z ≡ y = same z y (sym e ∙ h) in (ap place_of (sym z) ∙ k.0, ap whole_of (sym z) ∙ k.1)

pub move_stays : (x y : Spot) → moved x ≡ Some y → (place_of y ≡ place_of x) × (whole_of y ≡ whole_of x)
move_stays (AtBegin frames Nothing) y h = as_moved (AtBegin frames Nothing) y (AtEnd frames Nothing) refl (omega arith, refl) h
move_stays (AtBegin frames (Then first next)) y h =
    as_moved (AtBegin frames (Then first next)) y (AtBegin (Before next ∷ frames) first) refl (omega (arith, place_more (Before next) frames), refl) h
move_stays (AtBegin frames (Plain i)) y h = absurd (cc)
move_stays (AtBegin frames (If opening body end)) y h = absurd (cc)
move_stays (AtBegin frames (IfElse opening body middle other end)) y h = absurd (cc)
move_stays (AtBegin frames (Loop opening body end)) y h = absurd (cc)
move_stays (AtBegin frames (Switch opening body end)) y h = absurd (cc)
move_stays (AtBegin frames (Label i)) y h = absurd (cc)
move_stays (AtEnd [] s) y h = absurd (cc)
move_stays (AtEnd (Before next ∷ frames) s) y h =
    as_moved (AtEnd (Before next ∷ frames) s) y (AtBegin (Behind s ∷ frames) next) refl
    (omega (arith, place_more (Before next) frames, place_more (Behind s) frames), refl) h
move_stays (AtEnd (Behind first ∷ frames) s) y h =
    as_moved (AtEnd (Behind first ∷ frames) s) y (AtEnd frames (Then first s)) refl
    (omega (arith, place_more (Behind first) frames, length-append (flattened first) (flattened s)), refl) h
move_stays (AtEnd (InIf opening end ∷ frames) s) y h = absurd (cc)
move_stays (AtEnd (InThen opening middle other end ∷ frames) s) y h = absurd (cc)
move_stays (AtEnd (InElse opening body middle end ∷ frames) s) y h = absurd (cc)
move_stays (AtEnd (InLoop opening end ∷ frames) s) y h = absurd (cc)
move_stays (AtEnd (InSwitch opening end ∷ frames) s) y h = absurd (cc)

-- where they lead
pub record Settles (x : Spot) : Type 0 where
  pub n : ℕ
  pub to : Spot
  pub moves : IsMoved n x to
  pub settled : moved to ≡ None

there : (x : Spot) → moved x ≡ None → Settles x
there x h = record { n = 0; to = x; moves = refl; settled = h }

one_more : (x y : Spot) → moved x ≡ Some y → Settles y → Settles x
one_more x y h k = let e : k.n + 1 ≡ suc k.n = omega arith in record { n = suc k.n; to = k.to; moves = (y, h, k.moves); settled = k.settled }

begins : (s : Statement) (frames : List Frame) → Settles (AtEnd frames s) → Settles (AtBegin frames s)
begins Nothing frames k = one_more (AtBegin frames Nothing) (AtEnd frames Nothing) refl k
begins (Then first next) frames k =
    one_more (AtBegin frames (Then first next)) (AtBegin (Before next ∷ frames) first) refl
    (begins first (Before next ∷ frames)
    (one_more (AtEnd (Before next ∷ frames) first) (AtBegin (Behind first ∷ frames) next) refl
    (begins next (Behind first ∷ frames) (one_more (AtEnd (Behind first ∷ frames) next) (AtEnd frames (Then first next)) refl k))))
begins (Plain i) frames k = there (AtBegin frames (Plain i)) refl
begins (If opening body end) frames k = there (AtBegin frames (If opening body end)) refl
begins (IfElse opening body middle other end) frames k = there (AtBegin frames (IfElse opening body middle other end)) refl
begins (Loop opening body end) frames k = there (AtBegin frames (Loop opening body end)) refl
begins (Switch opening body end) frames k = there (AtBegin frames (Switch opening body end)) refl
begins (Label i) frames k = there (AtBegin frames (Label i)) refl

ends : (frames : List Frame) (s : Statement) → Settles (AtEnd frames s)
ends [] s = there (AtEnd [] s) refl
ends (Before next ∷ frames) s =
    one_more (AtEnd (Before next ∷ frames) s) (AtBegin (Behind s ∷ frames) next) refl
    (begins next (Behind s ∷ frames) (one_more (AtEnd (Behind s ∷ frames) next) (AtEnd frames (Then s next)) refl (ends frames (Then s next))))
ends (Behind first ∷ frames) s = one_more (AtEnd (Behind first ∷ frames) s) (AtEnd frames (Then first s)) refl (ends frames (Then first s))
ends (InIf opening end ∷ frames) s = there (AtEnd (InIf opening end ∷ frames) s) refl
ends (InThen opening middle other end ∷ frames) s = there (AtEnd (InThen opening middle other end ∷ frames) s) refl
ends (InElse opening body middle end ∷ frames) s = there (AtEnd (InElse opening body middle end ∷ frames) s) refl
ends (InLoop opening end ∷ frames) s = there (AtEnd (InLoop opening end ∷ frames) s) refl
ends (InSwitch opening end ∷ frames) s = there (AtEnd (InSwitch opening end ∷ frames) s) refl

pub settles : (x : Spot) → Settles x
settles (AtBegin frames s) = begins s frames (ends frames s)
settles (AtEnd frames s) = ends frames s
