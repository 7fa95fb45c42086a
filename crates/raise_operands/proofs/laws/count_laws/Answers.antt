use Rattle.raise_operands.proofs.Enough.{begun_of, dest_of, dest_once, few_of, first_of, once_of, register_once, source_of}
use Rattle.raise_operands.proofs.laws.count_laws.Goals as goal

pub returns : goal.returns
returns c = record {
  few = few_of;
  source = source_of;
  dest = dest_of;
  first = first_of;
  once = once_of;
  begun = begun_of;
  dest_once = dest_once;
  register_once = register_once;
}
