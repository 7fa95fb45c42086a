use Rattle.std.proofs.Common.{refl, ap}
use Rattle.std.specs.Prelude.{sum_by}
use Rattle.spirv_emit.specs.Emission.{waiting_words, waiting_ids}
use Rattle.spirv_emit.proofs.RoomWaiting.{same_words, same_ids, dropped_begun}
use Rattle.spirv_emit.proofs.emitter.Emitter.drop_elements.Goals as goal

pub returns-clause-begun : goal.returns-clause-begun
returns-clause-begun c =
    dropped_begun c.args.self.now (record c.args.self.now { kept = c.drop_elements.new.self }) refl refl refl c.drop_elements.ensures.drops c.requires

pub returns-clause-words : goal.returns-clause-words
returns-clause-words c =
    same_words c.args.self.now (record c.args.self.now { kept = c.drop_elements.new.self }) refl refl refl
    (ap (sum_by waiting_words) c.drop_elements.ensures.drops.dirty)

pub returns-clause-ids : goal.returns-clause-ids
returns-clause-ids c =
    same_ids c.args.self.now (record c.args.self.now { kept = c.drop_elements.new.self }) refl refl refl
    (ap (sum_by waiting_ids) c.drop_elements.ensures.drops.dirty)
