use Rattle.raise_operands.proofs.Begun.{followed_by_none}
use Rattle.raise_operands.proofs.Growing.{as_step, as_term, extends_on, grows_more, grows_on, node_on, some_step, step_itself, step_on, step_on_itself, value_on}
use Rattle.raise_operands.proofs.laws.growing_laws.Goals as goal

pub returns : goal.returns
returns c = record {
  extends_on = extends_on;
  grows_on = grows_on;
  grows_more = grows_more;
  node_on = node_on;
  as_term = as_term;
  value_on = value_on;
  step_on = step_on;
  as_step = as_step;
  some_step = some_step;
  step_itself = step_itself;
  step_on_itself = step_on_itself;
  followed_by_none = followed_by_none;
}
