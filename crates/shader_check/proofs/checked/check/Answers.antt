use Rattle.std.proofs.Common.{sym, ap, ◌∙◌}
use Rattle.shader_check.specs.FirstRefusals.{is_of_declarations}
use Rattle.shader_check.proofs.Whole.{things_first, structure_later}
use Rattle.shader_check.proofs.checked.check.Goals as goal

pub returns-in-Some : goal.returns-in-Some
returns-in-Some c =
    things_first c.args.program.now.shader c.in-Some.refusal (sym c.in-Some.is ∙ c.refused_things.ensures.first) (ap is_of_declarations (sym c.in-Some.is) ∙ c.refused_things.ensures.phase)

pub returns : goal.returns
returns c = c.refused_structure.ensures ∙ structure_later c.args.program.now.shader (sym c.in_default.is ∙ c.refused_things.ensures.first)
