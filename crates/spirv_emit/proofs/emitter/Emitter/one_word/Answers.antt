use Rattle.std.proofs.Common.{refl, [], ◌∷◌}
use Rattle.spirv_words.specs.Roles.{AWord}
use Rattle.spirv_words.specs.Operations.{one}
use Rattle.spirv_emit.proofs.Forms.{fits_row, one_gives}
use Rattle.spirv_emit.proofs.emitter.Emitter.one_word.Goals as goal

pub value-requires-clause-fits : goal.value-requires-clause-fits
value-requires-clause-fits c = λ r. fits_row c.args.op c.word_type-type_id.result r (c.args.a ∷ []) one AWord AWord c.requires.operation refl refl

pub returns-clause-gives : goal.returns-clause-gives
returns-clause-gives c =
    one_gives c.args.self.now _ c.args.op c.word_type-type_id.result c.value.result AWord AWord c.args.a
    c.requires.operation c.word_type-type_id.ensures c.value.ensures.adds
