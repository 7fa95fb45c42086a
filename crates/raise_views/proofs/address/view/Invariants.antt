use Rattle.std.proofs.Common.{◌≡◌, [], drop}
use Rattle.tpf_program.specs.Sizes.{addressing_of}
use Rattle.raise_views.proofs.address.view.Given as goal

-- those passed over are of other views
abbrev pub invariant-loop-i : goal.invariant-loop-i
invariant-loop-i l =
    addressing_of [] l.kind l.slot (drop l.i l.program.shader.declarations) ≡ addressing_of [] l.kind l.slot l.program.shader.declarations
