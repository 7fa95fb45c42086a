use Rattle.shader_tree.specs.Nodes.{AWord, ATruth}
use Rattle.raise_operands.proofs.Growing.{extends_on, node_on}
use Rattle.raise_operands.proofs.index.kept_nodes.Goals as goal

pub returns-clause-kept : goal.returns-clause-kept
returns-clause-kept c =
    let later = extends_on _ _ _ c.expr-start.ensures.grows.extends c.expr-zero.ensures.grows.extends in
    record {
      inside = node_on _ _ ATruth _ _ later c.inside-inside.ensures.inside;
      start = node_on _ _ AWord _ _ c.expr-zero.ensures.grows.extends c.expr-start.ensures.makes;
      zero = c.expr-zero.ensures.makes;
    }

pub returns-clause-index : goal.returns-clause-index
returns-clause-index c =
    let later = extends_on _ _ _ c.expr-start.ensures.grows.extends c.expr-zero.ensures.grows.extends in
    node_on _ _ AWord _ _ later c.inside-inside.ensures.index
