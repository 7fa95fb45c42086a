use Rattle.spirv_emit.proofs.Forms.{take_gives}
use Rattle.spirv_emit.proofs.emitter.Emitter.part.Goals as goal

pub returns-clause-gives : goal.returns-clause-gives
returns-clause-gives c =
    take_gives c.args.self.now _ c.word_type-type_id.result c.value.result c.args.pair c.args.place c.requires.place
    c.word_type-type_id.ensures c.value.ensures.adds
