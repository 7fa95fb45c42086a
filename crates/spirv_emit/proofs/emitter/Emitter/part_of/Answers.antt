use Rattle.spirv_emit.proofs.Groups.{parts}
use Rattle.spirv_emit.proofs.emitter.Emitter.part_of.Goals as goal

pub returns-clause-gives : goal.returns-clause-gives
returns-clause-gives c =
    parts c.args.self.now _ _ c.args.op c.args.place c.args.a c.args.b _ _ c.pair-both.ensures.gives c.part.ensures.gives
