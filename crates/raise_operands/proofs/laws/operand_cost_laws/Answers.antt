use Rattle.raise_operands.proofs.Affording.{costs_at, chained_ids, chained_words, unkept}
use Rattle.raise_operands.proofs.laws.operand_cost_laws.Goals as goal

pub returns : goal.returns
returns c = record { costs = costs_at; unkept = unkept; chained_words = chained_words; chained_ids = chained_ids }
