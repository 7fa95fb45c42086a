use Rattle.dispatch_machine.proofs.Picks.{same_runs}
use Rattle.dispatch_machine.proofs.Summed.{has_run}
use Rattle.dispatch_machine.proofs.laws.dispatch_laws.Goals as goal

pub returns-clause-same : goal.returns-clause-same
returns-clause-same c = same_runs

pub returns-clause-run : goal.returns-clause-run
returns-clause-run c = has_run
