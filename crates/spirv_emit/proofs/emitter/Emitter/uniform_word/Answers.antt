use Rattle.spirv_emit.proofs.Buffers.{uniforms}
use Rattle.spirv_emit.proofs.emitter.Emitter.uniform_word.Goals as goal

pub returns-clause-gives : goal.returns-clause-gives
returns-clause-gives c =
    uniforms c.args.self.now _ _ _ _ c.args.buffer c.args.index c.id_of-variable.result c.zero-zero.result c.four-four.result c.pointer-pointer.result
    _ c.value-word.result _ c.word_type-type_id.result c.value.result c.requires.buffer c.requires.begun c.id_of-variable.ensures c.zero-zero.ensures
    c.four-four.ensures c.pointer-pointer.ensures c.two_words-vector.ensures.gives c.two_words-place.ensures.gives c.value-word.ensures.adds
    c.word_type-type_id.ensures c.value.ensures.adds
