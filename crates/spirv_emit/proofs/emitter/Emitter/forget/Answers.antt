use Rattle.std.proofs.Common.{refl, ap, sym, ◌∙◌}
use Rattle.std.specs.Prelude.{sum_by}
use Rattle.spirv_emit.specs.Emission.{waiting_words, waiting_ids}
use Rattle.spirv_emit.proofs.RoomWaiting.{same_words, same_ids, emptied_begun}
use Rattle.spirv_emit.proofs.emitter.Emitter.forget.Goals as goal

pub returns-clause-words : goal.returns-clause-words
returns-clause-words c =
    same_words c.args.self.now (record c.args.self.now { kept = c.clear.new.self }) refl refl refl
    (ap (sum_by waiting_words) c.clear.ensures.empty.dirty ∙ sym (ap (sum_by waiting_words) c.requires.clean))

pub returns-clause-ids : goal.returns-clause-ids
returns-clause-ids c =
    same_ids c.args.self.now (record c.args.self.now { kept = c.clear.new.self }) refl refl refl
    (ap (sum_by waiting_ids) c.clear.ensures.empty.dirty ∙ sym (ap (sum_by waiting_ids) c.requires.clean))

pub returns-clause-begun : goal.returns-clause-begun
returns-clause-begun c =
    emptied_begun c.args.self.now (record c.args.self.now { kept = c.clear.new.self }) refl refl refl c.clear.ensures.empty c.requires.clean
    c.requires.begun
