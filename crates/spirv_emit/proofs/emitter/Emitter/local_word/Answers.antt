use Rattle.spirv_emit.proofs.Kept.{found_gives, kept_gives}
use Rattle.spirv_emit.proofs.Sources.{variable_needs, local_gives}
use Rattle.spirv_emit.proofs.Locals.{own_variable}
use Rattle.spirv_emit.proofs.emitter.Emitter.local_word.Goals as goal

pub returns-in-Some-clause-gives : goal.returns-in-Some-clause-gives
returns-in-Some-clause-gives c = found_gives c.args.self.now c.args.word c.in-Some.id c.requires.used c.requires.begun c.in-Some.ensures.found

pub named-place-requires-clause-needs : goal.named-place-requires-clause-needs
named-place-requires-clause-needs c = variable_needs c.args.self.now c.args.word c.args.variable c.requires.variable c.requires.begun

pub named-place-requires-clause-own : goal.named-place-requires-clause-own
named-place-requires-clause-own c = own_variable c.args.word c.args.variable c.requires.variable

pub returns-then-holds-clause-gives : goal.returns-then-holds-clause-gives
returns-then-holds-clause-gives c =
    kept_gives c.args.self.now _ _ c.args.word c.value-id.result
    (local_gives c.args.self.now _ _ c.args.word c.args.variable c.named-place.result c.word_type-type_id.result c.value-id.result c.requires.variable
    c.requires.used
    c.in_default.ensures.clean c.named-place.ensures.named c.word_type-type_id.ensures c.value-id.ensures.adds) c.keep.ensures.kept

pub returns-else-holds-clause-gives : goal.returns-else-holds-clause-gives
returns-else-holds-clause-gives c =
    local_gives c.args.self.now _ _ c.args.word c.args.variable c.named-place.result c.word_type-type_id.result c.value-id.result c.requires.variable
    c.requires.used
    c.in_default.ensures.clean c.named-place.ensures.named c.word_type-type_id.ensures c.value-id.ensures.adds
