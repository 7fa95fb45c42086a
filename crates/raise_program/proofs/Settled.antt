-- Moves from a spot keep its place, the whole statement, and what is still to be run.
use Rattle.std.proofs.Common.{◌≡◌, ℕ, zero, suc, List, refl, ◌∙◌, subst}
use Rattle.shader_tree.specs.Chains.{Link}
use Rattle.raise_program.specs.SpotLane.{Spot, IsMoved, place_of, whole_of}
use Rattle.raise_program.specs.Raised.{Parts, chain_of}
use Rattle.raise_program.proofs.Moves.{move_stays}
use Rattle.raise_program.proofs.Chained.{move_chained}

module _ (parts : Parts) (last : List Link) where
  pub record Stays (x y : Spot) : Type 0 where
    pub place : place_of y ≡ place_of x
    pub whole : whole_of y ≡ whole_of x
    pub chain : chain_of parts last y ≡ chain_of parts last x

  pub stays : (n : ℕ) (x y : Spot) → IsMoved n x y → Stays x y
  stays zero x y h = subst (λ z. Stays x z) h (record { place = refl; whole = refl; chain = refl })
  stays (suc n) x y h =
      let m = h.0 in
      let k = move_stays x m h.1 in
      let r = stays n m y h.2 in
      record { place = r.place ∙ k.0; whole = r.whole ∙ k.1; chain = r.chain ∙ move_chained parts last x m h.1 }
