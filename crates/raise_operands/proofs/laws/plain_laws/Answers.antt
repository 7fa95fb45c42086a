use Rattle.raise_operands.proofs.Plain.{keeps_plain, source_plain, write_plain}
use Rattle.raise_operands.proofs.laws.plain_laws.Goals as goal

pub returns : goal.returns
returns c = record { keeps = keeps_plain; source = source_plain; write = write_plain }
