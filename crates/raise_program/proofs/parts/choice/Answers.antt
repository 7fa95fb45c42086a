use Rattle.shader_tree.specs.Nodes.{AStatement}
use Rattle.raise_program.proofs.Grown.{both, three}
use Rattle.raise_program.proofs.parts.choice.Goals as goal

pub stmt-next-requires-clause-fits : goal.stmt-next-requires-clause-fits
stmt-next-requires-clause-fits c =
    let l = c.growing_laws.ensures in
    let e = c.tested-test.ensures.grows.extends in
    three _ _ _ c.tested-test.ensures.truth.sorted (l.node_on _ _ AStatement _ _ e c.requires.yes).sorted
    (l.node_on _ _ AStatement _ _ e c.requires.no).sorted

pub stmt-requires-clause-fits : goal.stmt-requires-clause-fits
stmt-requires-clause-fits c =
    let l = c.growing_laws.ensures in
    both _ _ (l.node_on _ _ AStatement _ _ c.stmt-next.ensures.grows.extends c.tested-test.ensures.front).sorted c.stmt-next.ensures.makes.sorted

pub returns-clause-makes : goal.returns-clause-makes
returns-clause-makes c =
    let l = c.growing_laws.ensures in
    let front = (l.node_on _ _ AStatement _ _ c.stmt-next.ensures.grows.extends c.tested-test.ensures.front).term in
    let yes = (l.node_on _ _ AStatement _ _ c.tested-test.ensures.grows.extends c.requires.yes).term in
    let no = (l.node_on _ _ AStatement _ _ c.tested-test.ensures.grows.extends c.requires.no).term in
    let truth = c.tested-test.ensures.truth.term in
    let next = c.stmt-next.ensures.makes.term in
    l.as_term _ _ _ _ _ c.stmt.ensures.makes (cc (front, yes, no, truth, next))
