use Rattle.std.proofs.Common.{refl, [], ◌∷◌}
use Rattle.spirv_words.specs.Roles.{AWord}
use Rattle.spirv_words.specs.Operations.{four}
use Rattle.spirv_emit.proofs.Forms.{fits_row, four_gives}
use Rattle.spirv_emit.proofs.emitter.Emitter.four_words.Goals as goal

pub value-requires-clause-fits : goal.value-requires-clause-fits
value-requires-clause-fits c = λ r. fits_row c.args.op c.word_type-type_id.result r (c.args.a ∷ c.args.b ∷ c.args.c ∷ c.args.d ∷ []) four AWord AWord
    c.requires.operation refl refl

pub returns-clause-gives : goal.returns-clause-gives
returns-clause-gives c =
    four_gives c.args.self.now _ c.args.op c.word_type-type_id.result c.value.result AWord AWord c.args.a c.args.b c.args.c c.args.d
    c.requires.operation c.word_type-type_id.ensures c.value.ensures.adds
