use Rattle.spirv_emit.proofs.Groups.{aboves}
use Rattle.spirv_emit.proofs.emitter.Emitter.bit_from_above.Goals as goal

pub returns-clause-gives : goal.returns-clause-gives
returns-clause-gives c =
    aboves c.args.self.now _ _ _ _ c.args.which c.args.a c.thirty_one-thirty_one.result c.ones-ones.result _ _ _ _ c.requires.begun
    c.thirty_one-thirty_one.ensures c.ones-ones.ensures
    c.find_bit-bit.ensures.gives c.two_words-rest.ensures.gives c.compare-none.ensures.gives c.choose.ensures.gives
