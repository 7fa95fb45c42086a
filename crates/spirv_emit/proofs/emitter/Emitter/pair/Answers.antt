use Rattle.std.proofs.Common.{refl, [], ◌∷◌}
use Rattle.spirv_words.specs.Roles.{AWord, APair}
use Rattle.spirv_words.specs.Operations.{two}
use Rattle.spirv_emit.proofs.Forms.{fits_row, two_gives}
use Rattle.spirv_emit.proofs.emitter.Emitter.pair.Goals as goal

pub value-requires-clause-fits : goal.value-requires-clause-fits
value-requires-clause-fits c = λ r. fits_row c.args.op c.pair_type-type_id.result r (c.args.a ∷ c.args.b ∷ []) two APair AWord c.requires.operation
    refl refl

pub returns-clause-gives : goal.returns-clause-gives
returns-clause-gives c =
    two_gives c.args.self.now _ c.args.op c.pair_type-type_id.result c.value.result APair AWord c.args.a c.args.b
    c.requires.operation c.pair_type-type_id.ensures c.value.ensures.adds
