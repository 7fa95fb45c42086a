-- No case or default stands directly in a statement outside of switches.
use Rattle.std.proofs.Common.{◌≡◌, Bool, false, refl, arith}
use Rattle.std.specs.Prelude.{IsTrue}
use Rattle.shader_tree.specs.Placed.{placed_in}
use Rattle.shader_tree.specs.Terms.{Term}
use Rattle.shader_tree.specs.Terms as term
use Rattle.spirv_flow.specs.Lowers.{marks}
use Rattle.spirv_flow.proofs.Members.{first_holds, second_holds, no_truth}

pub unmarked : (l t : Bool) (x : Term) → IsTrue (placed_in l t false x) → marks x ≡ 0
unmarked l t (term.Case v next) h = absurd (no_truth h)
unmarked l t (term.Default next) h = absurd (no_truth h)
unmarked l t (term.Then x y) h =
    let p = unmarked l t x (first_holds (placed_in l t false x) (placed_in l t false y) h) in
    let q = unmarked l t y (second_holds (placed_in l t false x) (placed_in l t false y) h) in
    omega (arith, p, q)
unmarked l t x h = refl
