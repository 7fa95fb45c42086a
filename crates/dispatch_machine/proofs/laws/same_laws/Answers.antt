use Rattle.dispatch_machine.proofs.SameDispatches.{same_dispatches}
use Rattle.dispatch_machine.proofs.laws.same_laws.Goals as goal

pub returns : goal.returns
returns c = same_dispatches c.bytecode_laws.ensures.registers c.bytecode_laws.ensures.events c.result_laws.ensures.act
