use Rattle.raise_operands.proofs.Growing.{can_write_on, operand_of_on, operand_on, operands_on, source_of, write_at_on}
use Rattle.raise_operands.proofs.Targets.{can_write, target_same, write_is}
use Rattle.raise_operands.proofs.laws.operand_laws.Goals as goal

pub returns : goal.returns
returns c = record {
  operand_on = operand_on;
  operand_of_on = operand_of_on;
  operands_on = operands_on;
  source_of = source_of;
  can_write = can_write;
  can_write_on = can_write_on;
  write_at_on = write_at_on;
  write_is = write_is;
  target_same = target_same;
}
