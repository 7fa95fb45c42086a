use Rattle.spirv_emit.proofs.Arms.{number_gives}
use Rattle.spirv_emit.proofs.emitter.Emitter.with_number.Goals as goal

pub returns-clause-gives : goal.returns-clause-gives
returns-clause-gives c =
    number_gives c.args.self.now _ _ c.args.op c.args.number c.args.a _ _ c.constant-k.ensures.gives c.two_words.ensures.gives
