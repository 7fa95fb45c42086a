use Rattle.std.proofs.Common.{sym, ◌∙◌}
use Rattle.shader_check.proofs.NestedEnds.{left_there, none_left}
use Rattle.shader_check.proofs.NestedWalks.{one_open, all_closed}
use Rattle.shader_check.proofs.nested.refused_structure.Goals as goal

pub instruction-place-requires : goal.instruction-place-requires
instruction-place-requires c = left_there c.args.program.now.shader.instructions c.in-Ok-Some.n (sym c.in-Ok-Some.ensures.passed.left ∙ c.in-Ok-Some.field-0-is)

pub returns-in-Ok-Some : goal.returns-in-Ok-Some
returns-in-Ok-Some c =
    sym (one_open c.args.program.now.shader c.in-Ok-Some.ensures.passed.walked c.requires.order c.in-Ok-Some.n c.instruction-place.result
    (sym c.in-Ok-Some.ensures.passed.left ∙ c.in-Ok-Some.field-0-is) c.instruction-place.ensures)

pub returns-in-Ok-None : goal.returns-in-Ok-None
returns-in-Ok-None c =
    c.ends_in_return.ensures
    ∙ sym (all_closed c.args.program.now.shader c.in-Ok-None.ensures.passed.walked
    (none_left c.args.program.now.shader.instructions (sym c.in-Ok-None.ensures.passed.left ∙ c.in-Ok-None.field-0-is)))
