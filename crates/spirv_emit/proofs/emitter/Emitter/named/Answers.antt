use Rattle.std.proofs.Common.{refl}
use Rattle.spirv_emit.proofs.Room.{id_room, named_step, named_begun, named_words, named_ids}
use Rattle.spirv_emit.proofs.emitter.Emitter.named.Goals as goal

pub put-requires-clause-room : goal.put-requires-clause-room
put-requires-clause-room c = id_room c.args.self.now c.requires.ids

pub returns-clause-named : goal.returns-clause-named
returns-clause-named c = named_step c.args.self.now _ c.args.symbol c.put.result refl refl refl c.put.ensures c.requires.own

pub returns-clause-begun : goal.returns-clause-begun
returns-clause-begun c =
    named_begun c.args.self.now _ c.args.symbol c.put.result refl refl refl c.put.ensures c.requires.words c.requires.ids c.requires.begun

pub returns-clause-words : goal.returns-clause-words
returns-clause-words c = named_words c.args.self.now _ c.args.symbol c.put.result refl refl refl c.put.ensures

pub returns-clause-ids : goal.returns-clause-ids
returns-clause-ids c = named_ids c.args.self.now _ c.args.symbol c.put.result refl refl refl c.put.ensures
