use Rattle.spirv_setup.proofs.Stepped.{counters_declared}
use Rattle.spirv_setup.proofs.Worded.{constants_are}
use Rattle.spirv_setup.proofs.sums.declared_laws.Goals as goal

pub returns : goal.returns
returns c = λ p tokens w s h. record {
  declared = c.checked_laws.ensures.declared p h;
  counters = counters_declared p tokens s (c.checked_laws.ensures.used p h);
  words = constants_are p tokens w s;
}
