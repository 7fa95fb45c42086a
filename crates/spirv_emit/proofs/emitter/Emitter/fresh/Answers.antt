use Rattle.std.proofs.Common.{refl, arith}
use Rattle.spirv_emit.proofs.emitter.Emitter.fresh.Goals as goal
use Rattle.spirv_emit.proofs.Room.{id_room, used_begun, used_ids, same_words}

pub fresh-requires : goal.fresh-requires
fresh-requires c = record { room = id_room c.args.self.now c.requires.ids }

pub returns-clause-begun : goal.returns-clause-begun
returns-clause-begun c = let f = c.fresh.ensures in
    used_begun c.args.self.now _ refl f.entries' f.limit' refl refl 0 1 (omega arith) (omega (arith, f.next')) (omega (arith, f.next')) (omega arith)
    c.requires.ids c.requires.begun

pub returns-clause-words : goal.returns-clause-words
returns-clause-words c = let f = c.fresh.ensures in same_words c.args.self.now _ refl f.entries' f.limit' refl refl refl

pub returns-clause-ids : goal.returns-clause-ids
returns-clause-ids c = let f = c.fresh.ensures in used_ids c.args.self.now _ refl f.entries' f.limit' refl refl 1 (omega (arith, f.next'))
