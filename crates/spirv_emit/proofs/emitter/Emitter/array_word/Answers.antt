use Rattle.std.proofs.Common.{subst, sym, ap, ◌∙◌}
use Rattle.kept_values.specs.Tables.{elements_in}
use Rattle.spirv_symbols.specs.Tables.{Has}
use Rattle.spirv_emit.proofs.Sources.{arrays}
use Rattle.spirv_emit.proofs.emitter.Emitter.array_word.Goals as goal

pub returns-clause-gives : goal.returns-clause-gives
returns-clause-gives c =
    let d = c.value-place.new.self in
    arrays c.args.self.now d _ c.args.space c.args.variable c.args.index c.id_of-array.result c.pointer-pointer.result c.value-place.result
    c.word_type-type_id.result c.value.result c.requires.array c.requires.used c.requires.begun
    (λ n. c.kept_laws.ensures.none d.kept n (ap elements_in c.value-place.ensures.adds.kept ∙ c.requires.begun.stored))
    c.id_of-array.ensures c.pointer-pointer.ensures c.value-place.ensures.adds c.word_type-type_id.ensures
    (subst (λ l. Has l c.args.variable c.id_of-array.result) (sym c.value-place.ensures.adds.entries) c.id_of-array.ensures) c.value.ensures.adds
