use Rattle.compiler_cli.proofs.Arrived.{left_ended}
use Rattle.compiler_cli.proofs.streams.read_file.Goals as goal

pub returns-clause-ended : goal.returns-clause-ended
returns-clause-ended g c = left_ended (λ b. b.items) _ _ c.read_left.result c.read_left.ensures.whole
