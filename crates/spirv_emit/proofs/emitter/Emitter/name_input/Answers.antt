use Rattle.spirv_emit.proofs.Below.{flat_order}
use Rattle.spirv_emit.proofs.emitter.Emitter.name_input.Goals as goal

pub name_behind-requires-clause-order : goal.name_behind-requires-clause-order
name_behind-requires-clause-order c =
    flat_order c.args.self.now.symbols.entries c.args.self.now.frame.context c.requires.begun.fixed.word c.args.kind
    c.if-kind-eq-LOCAL_INVOCATION_INDEX.true c.requires.begun.fixed.input
