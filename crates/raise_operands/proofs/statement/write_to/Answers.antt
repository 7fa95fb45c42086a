use Rattle.std.proofs.Common.{refl, ap, ◌∙◌}
use Rattle.shader_tree.specs.Terms.{term_at}
use Rattle.raise_operands.specs.Building.{write_at}
use Rattle.raise_operands.specs.Vectors.{spaces_of}
use Rattle.raise_operands.proofs.Growing.{as_step}
use Rattle.raise_operands.proofs.Targets.{can_write, write_is}
use Rattle.raise_operands.proofs.statement.write_to.Goals as goal

pub write-requires-clause-place : goal.write-requires-clause-place
write-requires-clause-place c =
    let o = c.requires.to.place in
    rw c.target.ensures (can_write _ _ c.args.to.argument.kind _ _ _ c.requires.few o.inside o.kept)

pub returns-clause-makes : goal.returns-clause-makes
returns-clause-makes c =
    let g = spaces_of c.args.program.now.shader in
    let n = write_is c.args.tree.now.nodes g c.args.to.place.number c.args.to.argument c.args.to c.args.component
    (term_at c.args.tree.now.nodes c.args.value) (record { operand = c.requires.to; number = refl; argument = refl }) in
    as_step _ _ _ _ c.write.ensures.makes
    (ap (λ v. write_at v (term_at c.args.tree.now.nodes c.args.to.place.kept.inside) c.args.to.place.number c.args.component
    (term_at c.args.tree.now.nodes c.args.value)) c.target.ensures ∙ n)
