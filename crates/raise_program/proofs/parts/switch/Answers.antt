use Rattle.shader_tree.specs.Nodes.{AStatement}
use Rattle.raise_program.proofs.Grown.{both}
use Rattle.raise_program.proofs.parts.switch.Goals as goal

pub stmt-next-requires-clause-fits : goal.stmt-next-requires-clause-fits
stmt-next-requires-clause-fits c =
    let l = c.growing_laws.ensures in
    both _ _ c.scalar-scalar.ensures.word.sorted (l.node_on _ _ AStatement _ _ c.scalar-scalar.ensures.grows.extends c.requires.cases).sorted

pub stmt-requires-clause-fits : goal.stmt-requires-clause-fits
stmt-requires-clause-fits c =
    let l = c.growing_laws.ensures in
    both _ _ (l.node_on _ _ AStatement _ _ c.stmt-next.ensures.grows.extends c.scalar-scalar.ensures.front).sorted c.stmt-next.ensures.makes.sorted

pub returns-clause-makes : goal.returns-clause-makes
returns-clause-makes c =
    let l = c.growing_laws.ensures in
    let front = (l.node_on _ _ AStatement _ _ c.stmt-next.ensures.grows.extends c.scalar-scalar.ensures.front).term in
    let cases = (l.node_on _ _ AStatement _ _ c.scalar-scalar.ensures.grows.extends c.requires.cases).term in
    let word = c.scalar-scalar.ensures.word.term in
    let next = c.stmt-next.ensures.makes.term in
    l.as_term _ _ _ _ _ c.stmt.ensures.makes (cc (front, cases, word, next))
