use Rattle.spirv_emit.proofs.Buffers.{view_length}
use Rattle.spirv_emit.proofs.emitter.Emitter.view_length.Goals as goal

pub returns-clause-gives : goal.returns-clause-gives
returns-clause-gives c =
    view_length c.args.self.now _ c.args.room c.word_type-type_id.result c.value.result c.id_of-view.result c.requires.view c.requires.begun
    c.id_of-view.ensures c.word_type-type_id.ensures c.value.ensures.adds
