use Rattle.spirv_emit.proofs.Groups.{quotients}
use Rattle.spirv_emit.proofs.emitter.Emitter.divide.Goals as goal

pub returns-clause-gives : goal.returns-clause-gives
returns-clause-gives c =
    quotients c.args.self.now _ _ _ _ c.args.op c.args.a c.args.b c.zero-zero.result c.one-one.result c.ones-ones.result _ _ _ _ c.requires.begun
    c.zero-zero.ensures c.one-one.ensures c.ones-ones.ensures c.compare-none.ensures.gives c.choose-divisor.ensures.gives
    c.two_words-quotient.ensures.gives
    c.choose.ensures.gives
