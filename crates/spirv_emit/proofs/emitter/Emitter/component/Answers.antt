use Rattle.spirv_emit.proofs.Sources.{components}
use Rattle.spirv_emit.proofs.emitter.Emitter.component.Goals as goal

pub returns-clause-gives : goal.returns-clause-gives
returns-clause-gives c =
    components c.args.self.now _ _ _ c.args.kind c.args.place c.constant-index.result c.id_of-input.result c.pointer-pointer.result
    c.value-word.result
    c.word_type-type_id.result c.value.result c.requires.kind c.requires.place c.constant-index.ensures.begun c.constant-index.ensures.gives
    c.id_of-input.ensures c.pointer-pointer.ensures c.value-word.ensures.adds c.word_type-type_id.ensures c.value.ensures.adds
