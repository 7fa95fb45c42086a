use Rattle.shader_tree.specs.Nodes.{AWord, AStatement, a_statement}
use Rattle.raise_operands.proofs.Growing.{as_term, below, both, node_on}
use Rattle.raise_operands.proofs.index.keep_both.Goals as goal

pub stmt-requires-clause-fits : goal.stmt-requires-clause-fits
stmt-requires-clause-fits c =
    both _ _ c.stmt-first.ensures.makes.sorted (c.stmt-first.ensures.grows.extends.names (a_statement c.keep_start-next.result)
    c.keep_start-next.ensures.makes.sorted)

pub returns-clause-makes : goal.returns-clause-makes
returns-clause-makes c =
    let i = c.keep_start-next.ensures.grows.extends.terms c.args.index (below _ AWord c.args.index c.requires.index) in
    let f = c.stmt-first.ensures.makes.term in
    let n = node_on _ _ AStatement _ _ c.stmt-first.ensures.grows.extends c.keep_start-next.ensures.makes in
    let t = n.term in
    as_term _ _ _ _ _ c.stmt.ensures.makes (cc (i, f, t))
