use Rattle.shader_tree.specs.Nodes.{AStatement}
use Rattle.raise_operands.proofs.Growing.{node_on}
use Rattle.raise_operands.proofs.statement.put_by.Goals as goal

pub returns-clause-now : goal.returns-clause-now
returns-clause-now c = node_on _ _ AStatement _ _ c.expr-word.ensures.grows.extends c.stmt-now.ensures.makes
