use Rattle.spirv_emit.proofs.Groups.{cuts}
use Rattle.spirv_emit.proofs.emitter.Emitter.shift.Goals as goal

pub returns-clause-gives : goal.returns-clause-gives
returns-clause-gives c =
    cuts c.args.self.now _ _ c.args.op c.args.a c.args.b c.thirty_one-thirty_one.result _ _ c.requires.begun c.thirty_one-thirty_one.ensures
    c.two_words-amount.ensures.gives c.two_words.ensures.gives
