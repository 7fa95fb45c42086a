use Rattle.command_line.proofs.Usage.{usage}
use Rattle.command_line.proofs.laws.usage_laws.Goals as goal

pub returns : goal.returns
returns c = record { nothing = usage }
