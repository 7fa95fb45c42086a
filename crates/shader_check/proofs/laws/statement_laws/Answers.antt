use Rattle.shader_check.proofs.Closes.{closes_it}
use Rattle.shader_check.proofs.laws.statement_laws.Goals as goal

pub returns : goal.returns
returns c = record { closes = closes_it }
