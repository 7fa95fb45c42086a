use Rattle.shader_tree.proofs.PlanLemmas.{nothing, silent_first, silent_last}
use Rattle.shader_tree.proofs.laws.plan_laws.Goals as goal

pub returns-clause-nothing : goal.returns-clause-nothing
returns-clause-nothing c = nothing

pub returns-clause-first : goal.returns-clause-first
returns-clause-first c = silent_first

pub returns-clause-last : goal.returns-clause-last
returns-clause-last c = silent_last
