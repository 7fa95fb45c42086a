use Rattle.shader_tree.proofs.ChainLemmas.{push-flattened, push-append}
use Rattle.shader_tree.proofs.laws.chain_laws.Goals as goal

pub returns-clause-flattened : goal.returns-clause-flattened
returns-clause-flattened c = push-flattened

pub returns-clause-behind : goal.returns-clause-behind
returns-clause-behind c = push-append
