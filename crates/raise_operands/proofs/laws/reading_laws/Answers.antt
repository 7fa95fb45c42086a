use Rattle.raise_operands.proofs.FoldingValues.{add_value}
use Rattle.raise_operands.proofs.Meaning.{begins, below, ready_on, source_is, write_leads}
use Rattle.raise_operands.proofs.laws.reading_laws.Goals as goal

pub returns : goal.returns
returns c = record {
  begins = begins;
  ready_same = ready_on;
  source = source_is;
  below = below;
  write = write_leads;
  added = add_value;
}
