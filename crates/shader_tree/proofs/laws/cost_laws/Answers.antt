use Rattle.shader_tree.proofs.CostLemmas.{words_in-node, ids_in-node}
use Rattle.shader_tree.proofs.laws.cost_laws.Goals as goal

pub returns-clause-words : goal.returns-clause-words
returns-clause-words c = words_in-node

pub returns-clause-ids : goal.returns-clause-ids
returns-clause-ids c = ids_in-node
