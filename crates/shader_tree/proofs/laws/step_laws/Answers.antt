use Rattle.shader_tree.proofs.StepLemmas.{set_step, write_step, load_step, store_step, atomic_step, guard_step, if_step, switch_step}
use Rattle.shader_tree.proofs.laws.step_laws.Goals as goal

pub returns-clause-set : goal.returns-clause-set
returns-clause-set c g s k t n m v w = set_step g s k t n m v w

pub returns-clause-write : goal.returns-clause-write
returns-clause-write c = write_step

pub returns-clause-load : goal.returns-clause-load
returns-clause-load c = load_step

pub returns-clause-store : goal.returns-clause-store
returns-clause-store c = store_step

pub returns-clause-atomic : goal.returns-clause-atomic
returns-clause-atomic c = atomic_step

pub returns-clause-guard : goal.returns-clause-guard
returns-clause-guard c = guard_step

pub returns-clause-choice : goal.returns-clause-choice
returns-clause-choice c = if_step

pub returns-clause-switch : goal.returns-clause-switch
returns-clause-switch c = switch_step
