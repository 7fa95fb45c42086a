use Rattle.shader_tree.specs.Lane.{step}
use Rattle.raise_operands.proofs.Leading.{all_go, goes_on, pushed_is}
use Rattle.raise_operands.proofs.laws.run_laws.Goals as goal

pub returns : goal.returns
returns c = record {
  goes_on = λ g s n m x y z h k. goes_on (step g s) n m x y z h k;
  chained_is = pushed_is;
  all_go = all_go;
}
