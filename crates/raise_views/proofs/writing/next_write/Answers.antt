use Rattle.std.proofs.Common.{ap, sym, ◌∙◌}
use Rattle.raise_operands.specs.Raising.{target, write_by}
use Rattle.raise_operands.specs.Vectors.{spaces_of}
use Rattle.raise_views.proofs.Growing.{as_step, extends_on, next_is, step_itself, step_on}
use Rattle.raise_views.proofs.writing.next_write.Goals as goal

pub write_to-step-requires-clause-to : goal.write_to-step-requires-clause-to
write_to-step-requires-clause-to c = c.operand_laws.ensures.operand_on _ _ _ _ c.given_word-value.ensures.grows.extends c.requires.to

pub followed-requires-clause-a : goal.followed-requires-clause-a
followed-requires-clause-a c =
    let e = extends_on _ _ _ c.given_word-value.ensures.grows.extends c.write_to-step.ensures.grows.extends in
    step_itself _ _ _ (step_on _ _ _ _ e c.requires.front)

pub returns-then-is_written-clause-makes : goal.returns-then-is_written-clause-makes
returns-then-is_written-clause-makes c =
    let e = extends_on _ _ _ c.given_word-value.ensures.grows.extends c.write_to-step.ensures.grows.extends in
    let s = step_on _ _ _ _ e c.requires.front in
    let g = spaces_of c.args.program.now.shader in
    let o = c.args.to in
    let w = c.write_to-step.ensures.makes.term ∙ ap (λ x. write_by (target g o.argument) g o.place.number c.args.c x)
    c.given_word-value.ensures.makes.term in
    as_step _ _ _ _ c.followed.ensures.makes (next_is _ _ _ _ _ (sym c.is_written.ensures ∙ c.if-is_written.true) s.term w)
