use Rattle.spirv_emit.proofs.Forms.{find_gives}
use Rattle.spirv_emit.proofs.emitter.Emitter.find_bit.Goals as goal

pub returns-clause-gives : goal.returns-clause-gives
returns-clause-gives c =
    find_gives c.args.self.now _ c.word_type-type_id.result c.value.result c.extended-set.result c.args.which c.args.a
    c.word_type-type_id.ensures c.extended-set.ensures c.value.ensures.adds
