use Rattle.std.proofs.Common.{refl, ◌∙◌}
use Rattle.shader_tree.specs.Nodes.{AWord}
use Rattle.raise_alu.proofs.Counted.{scalar_few}
use Rattle.raise_alu.proofs.control.scalar_of.Goals as goal

pub some_statement-front-requires-clause-statement : goal.some_statement-front-requires-clause-statement
some_statement-front-requires-clause-statement c =
    let later = c.growing_laws.ensures.extends_on _ _ _ c.source-word.ensures.grows.extends c.id_of-word.ensures.grows.extends in
    c.growing_laws.ensures.step_on_itself _ _ _ _ later c.operand-front.ensures.front

pub returns-clause-front : goal.returns-clause-front
returns-clause-front c =
    let later = c.growing_laws.ensures.extends_on _ _ _ c.source-word.ensures.grows.extends c.id_of-word.ensures.grows.extends in
    let front = c.growing_laws.ensures.step_on _ _ _ _ later c.operand-front.ensures.front in
    c.growing_laws.ensures.as_term _ _ _ _ _ c.some_statement-front.ensures.makes front.term

pub returns-clause-word : goal.returns-clause-word
returns-clause-word c =
    let o = c.operand-front.ensures.operand in
    let word = c.growing_laws.ensures.node_on _ _ AWord _ _ c.some_statement-front.ensures.grows.extends c.id_of-word.ensures.makes in
    c.growing_laws.ensures.as_term _ _ _ _ _ word (c.source-word.ensures.makes.term ∙ c.operand_laws.ensures.source_of _ _ _ _ _ 0 o)

pub returns-clause-grows : goal.returns-clause-grows
returns-clause-grows c =
    let g = c.growing_laws.ensures in
    let two = g.grows_on _ _ _ _ _ _ c.operand-front.ensures.grows c.source-word.ensures.grows refl in
    g.grows_more _ _ _ _ (g.grows_on _ _ _ _ _ _ (g.grows_on _ _ _ _ _ _ two c.id_of-word.ensures.grows refl) c.some_statement-front.ensures.grows
    refl) (scalar_few _ _ _ _ _ c.operand-front.ensures.operand)
