use Rattle.std.proofs.Common.{refl}
use Rattle.spirv_emit.specs.Emission.{Emission, waiting_words, waiting_ids}
use Rattle.spirv_emit.proofs.RoomWaiting.{popped_begun, pops_sum, less_words, less_ids}
use Rattle.spirv_emit.proofs.emitter.Emitter.take_waiting.Goals as goal

pub returns-in-Some-clause-begun : goal.returns-in-Some-clause-begun
returns-in-Some-clause-begun c =
    let a = c.args.self.now in let b : Emission = record a { kept = c.settle.new.self } in let r = c.in-Some.last in
    popped_begun a b refl refl refl r.0 r.1 (c.settle.ensures.pops r.0 r.1 c.in-Some.ensures.last) c.requires.begun

pub returns-in-Some-clause-words : goal.returns-in-Some-clause-words
returns-in-Some-clause-words c =
    let a = c.args.self.now in let b : Emission = record a { kept = c.settle.new.self } in let r = c.in-Some.last in
    less_words a b refl refl refl (waiting_words r.0)
    (pops_sum a.kept b.kept r.0 r.1 waiting_words (c.settle.ensures.pops r.0 r.1 c.in-Some.ensures.last)) c.requires.begun.words'

pub returns-in-Some-clause-ids : goal.returns-in-Some-clause-ids
returns-in-Some-clause-ids c =
    let a = c.args.self.now in let b : Emission = record a { kept = c.settle.new.self } in let r = c.in-Some.last in
    less_ids a b refl refl refl (waiting_ids r.0) (pops_sum a.kept b.kept r.0 r.1 waiting_ids (c.settle.ensures.pops r.0 r.1 c.in-Some.ensures.last))
    c.requires.begun.ids'
