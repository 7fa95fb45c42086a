use Rattle.spirv_emit.proofs.Growth.{grows_on, completes_back}
use Rattle.spirv_emit.proofs.laws.emit_laws.Goals as goal

pub returns-clause-on : goal.returns-clause-on
returns-clause-on c = grows_on

pub returns-clause-back : goal.returns-clause-back
returns-clause-back c = completes_back
