use Rattle.dispatch_machine.proofs.Computed.{loud_module, run_of_module, run_of_program}
use Rattle.dispatch_machine.proofs.laws.example_laws.Goals as goal

pub returns-clause-turn : goal.returns-clause-turn
returns-clause-turn c = loud_module

pub returns-clause-module_run : goal.returns-clause-module_run
returns-clause-module_run c = run_of_module

pub returns-clause-program_run : goal.returns-clause-program_run
returns-clause-program_run c = run_of_program
