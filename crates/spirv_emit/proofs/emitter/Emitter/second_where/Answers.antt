use Rattle.spirv_emit.proofs.Groups.{seconds_where}
use Rattle.spirv_emit.proofs.emitter.Emitter.second_where.Goals as goal

pub returns-clause-gives : goal.returns-clause-gives
returns-clause-gives c =
    seconds_where c.args.self.now _ _ c.args.op c.args.a c.args.b _ _ c.choose.ensures.gives c.compare-truth.ensures.gives
