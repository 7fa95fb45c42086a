use Rattle.spirv_emit.proofs.Sources.{flat}
use Rattle.spirv_emit.proofs.emitter.Emitter.flat_thread.Goals as goal

pub returns-clause-gives : goal.returns-clause-gives
returns-clause-gives c =
    flat c.args.self.now _ c.id_of-place.result c.word_type-type_id.result c.value.result c.requires.begun c.id_of-place.ensures
    c.word_type-type_id.ensures c.value.ensures.adds
