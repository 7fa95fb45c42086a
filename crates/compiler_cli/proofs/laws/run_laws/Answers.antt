use Rattle.compiler_cli.proofs.Quiet.{quiet}
use Rattle.compiler_cli.proofs.laws.run_laws.Goals as goal

pub returns : goal.returns
returns c = record { quiet = quiet }
