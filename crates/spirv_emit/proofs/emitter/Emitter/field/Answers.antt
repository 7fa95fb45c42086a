use Rattle.spirv_emit.proofs.Groups.{fields}
use Rattle.spirv_emit.proofs.emitter.Emitter.field.Goals as goal

pub returns-clause-gives : goal.returns-clause-gives
returns-clause-gives c =
    fields c.args.self.now _ _ _ _ c.args.shift c.args.op c.args.width c.args.offset c.args.a c.thirty_one-thirty_one.result c.zero-zero.result _ _ _
    _
    c.requires.begun c.thirty_one-thirty_one.ensures c.zero-zero.ensures c.two_words-width.ensures.gives c.two_words-offset.ensures.gives
    c.two_words-low.ensures.gives c.three_words.ensures.gives
