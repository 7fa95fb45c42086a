use Rattle.spirv_emit.proofs.Below.{composite_order}
use Rattle.spirv_emit.proofs.emitter.Emitter.name_composite.Goals as goal

pub name_behind-requires-clause-order : goal.name_behind-requires-clause-order
name_behind-requires-clause-order c =
    composite_order c.args.self.now.symbols.entries c.args.self.now.frame.context c.requires.begun.fixed.word c.immediates-count.result
    c.immediates-count.ensures c.requires.there
