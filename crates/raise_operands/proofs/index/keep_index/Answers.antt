use Rattle.shader_tree.specs.Nodes.{AWord}
use Rattle.raise_operands.proofs.Growing.{as_term, below, kept_on}
use Rattle.raise_operands.proofs.index.keep_index.Goals as goal

pub returns-clause-kept : goal.returns-clause-kept
returns-clause-kept c = kept_on _ _ _ _ _ _ c.keep_both-statement.ensures.grows.extends c.kept_nodes-kept_index.ensures.kept

pub returns-clause-makes : goal.returns-clause-makes
returns-clause-makes c =
    let k = c.kept_nodes-kept_index.ensures in
    let i = k.grows.extends.terms c.args.index (below _ AWord c.args.index c.requires.index) in
    let inside = k.kept.inside.term in
    let zero = k.kept.zero.term in
    let index = k.index.term in
    as_term _ _ _ _ _ c.keep_both-statement.ensures.makes (cc (i, inside, zero, index))
