use Rattle.spirv_emit.proofs.Forms.{choose_gives}
use Rattle.spirv_emit.proofs.emitter.Emitter.choose.Goals as goal

pub returns-clause-gives : goal.returns-clause-gives
returns-clause-gives c =
    choose_gives c.args.self.now _ c.word_type-type_id.result c.value.result c.args.truth c.args.a c.args.b
    c.word_type-type_id.ensures c.value.ensures.adds
