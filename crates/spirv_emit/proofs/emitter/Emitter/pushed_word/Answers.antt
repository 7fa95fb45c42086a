use Rattle.spirv_emit.proofs.Buffers.{pushes}
use Rattle.spirv_emit.proofs.emitter.Emitter.pushed_word.Goals as goal

pub returns-clause-gives : goal.returns-clause-gives
returns-clause-gives c =
    pushes c.args.self.now _ _ _ _ _ _ _ _ c.args.buffer c.args.first c.args.count c.args.index c.id_of-variable.result c.zero-zero.result
    c.pointer-pointer.result _ _ _ _ _ c.value-word.result c.word_type-type_id.result c.value-loaded.result _ c.requires.buffer c.requires.place
    c.requires.some c.requires.begun c.id_of-variable.ensures c.zero-zero.ensures c.pointer-pointer.ensures c.constant-end.ensures.gives
    c.constant-start.ensures.gives c.compare-pushed.ensures.gives c.choose-inside.ensures.gives c.two_words-place.ensures.gives
    c.value-word.ensures.adds c.word_type-type_id.ensures c.value-loaded.ensures.adds c.choose.ensures.gives
