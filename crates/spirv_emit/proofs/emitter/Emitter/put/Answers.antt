use Rattle.std.proofs.Common.{refl, ⊎_elim, arith}
use Rattle.spirv_emit.specs.Emission.{Emission, waiting_words, waiting_ids}
use Rattle.spirv_emit.proofs.RoomWaiting.{waits_begun, more_words, more_ids, puts_stored}
use Rattle.spirv_emit.proofs.emitter.Emitter.put.Goals as goal

pub returns-clause-begun : goal.returns-clause-begun
returns-clause-begun c =
    let p = c.put.ensures.puts in let a = c.args.self.now in let b : Emission = record a { kept = c.put.new.self } in
    waits_begun a b refl refl refl (waiting_words c.args.word) (waiting_ids c.args.word) (p.sum waiting_words) c.requires.words (p.sum waiting_ids)
    c.requires.ids
    (λ x id q. ⊎_elim (λ o. c.requires.begun.kept x id o) (λ e. let lt = c.requires.below in omega (arith, e, lt)) (c.put.ensures.comes x id q))
    (puts_stored a b c.args.word c.args.id p c.requires.own c.requires.begun) c.requires.begun

pub returns-clause-words : goal.returns-clause-words
returns-clause-words c =
    more_words c.args.self.now (record c.args.self.now { kept = c.put.new.self }) refl refl refl (waiting_words c.args.word)
    (c.put.ensures.puts.sum waiting_words)

pub returns-clause-ids : goal.returns-clause-ids
returns-clause-ids c =
    more_ids c.args.self.now (record c.args.self.now { kept = c.put.new.self }) refl refl refl (waiting_ids c.args.word)
    (c.put.ensures.puts.sum waiting_ids)
