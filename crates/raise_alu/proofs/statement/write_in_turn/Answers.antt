use Rattle.std.proofs.Common.{refl, ap, ◌≡◌, ◌∙◌, true, arith}
use Rattle.shader_tree.specs.Terms.{term_at}
use Rattle.raise_operands.specs.Building.{write_at}
use Rattle.shader_tree.specs.Nodes.{AStatement}
use Rattle.raise_alu.proofs.statement.write_in_turn.Goals as goal

pub write-behind-requires-clause-place : goal.write-behind-requires-clause-place
write-behind-requires-clause-place c = c.operand_laws.ensures.can_write_on _ _ _ _ _ c.put_by-now.ensures.grows.extends c.requires.place

pub returns-clause-now : goal.returns-clause-now
returns-clause-now c =
    let waits : c.args.waits ≡ true = grind arith in
    let n = c.growing_laws.ensures.node_on _ _ AStatement _ _ c.write-behind.ensures.grows.extends c.put_by-now.ensures.now in
    rw waits (c.growing_laws.ensures.some_step _ _ _ n refl)

pub returns-clause-behind : goal.returns-clause-behind
returns-clause-behind c =
    let waits : c.args.waits ≡ true = grind arith in
    let word = c.put_by-now.ensures.word.term in
    let p = c.args.place in
    let same = c.operand_laws.ensures.write_at_on _ _ _ p.number _ c.args.component _ c.put_by-now.ensures.grows.extends c.requires.place in
    rw waits (c.growing_laws.ensures.as_step _ _ _ _ c.write-behind.ensures.makes
    (ap (λ x. write_at p.vector (term_at c.put_by-now.new.tree.nodes p.kept.inside) p.number c.args.component x) word ∙ same))
