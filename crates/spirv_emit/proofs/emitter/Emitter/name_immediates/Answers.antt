use Rattle.std.proofs.Common.{◌≡◌, ◌+◌, ◌*◌, length, refl, sym, subst, arith}
use Rattle.spirv_emit.proofs.Below.{constants_begun, constants_ids, constants_words}
use Rattle.spirv_emit.proofs.Room.{ids_room}
use Rattle.spirv_emit.proofs.emitter.Emitter.name_immediates.Goals as goal

pub put_constants-requires-clause-room : goal.put_constants-requires-clause-room
put_constants-requires-clause-room c =
    let room = ids_room c.args.self.now (length c.args.self.now.frame.context.immediates + 5) c.requires.ids c.requires.begun.ids' in
    omega (arith, room)

pub name_composite-requires-clause-begun : goal.name_composite-requires-clause-begun
name_composite-requires-clause-begun c =
    constants_begun c.args.self.now _ refl refl refl c.put_constants.ensures
    (let w = c.requires.words in omega (arith, w)) (let i = c.requires.ids in omega (arith, i)) c.requires.begun

pub name_composite-requires-clause-words : goal.name_composite-requires-clause-words
name_composite-requires-clause-words c =
    let w = constants_words c.args.self.now _ refl refl refl c.put_constants.ensures in let h = c.requires.words in omega (arith, w, h)

pub name_composite-requires-clause-ids : goal.name_composite-requires-clause-ids
name_composite-requires-clause-ids c =
    let i = constants_ids c.args.self.now _ refl refl refl c.put_constants.ensures in let h = c.requires.ids in omega (arith, i, h)

pub returns-clause-words : goal.returns-clause-words
returns-clause-words c =
    let w = constants_words c.args.self.now _ refl refl refl c.put_constants.ensures in
    let h = c.name_composite.ensures.words in omega (arith, w, h)

pub returns-clause-ids : goal.returns-clause-ids
returns-clause-ids c =
    let i = constants_ids c.args.self.now _ refl refl refl c.put_constants.ensures in
    let h = c.name_composite.ensures.ids in omega (arith, i, h)
