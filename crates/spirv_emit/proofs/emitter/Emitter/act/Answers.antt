use Rattle.std.proofs.Common.{refl, arith, ◌+◌, length}
use Rattle.spirv_emit.proofs.Room.{is_short, word_room, grown, used_begun, used_words, same_ids}
use Rattle.spirv_emit.proofs.emitter.Emitter.act.Goals as goal

pub put-requires-clause-short : goal.put-requires-clause-short
put-requires-clause-short c = let lt = is_short c.args.op c.args.operands.now c.requires.fits in omega (arith, lt)

pub put-requires-clause-room : goal.put-requires-clause-room
put-requires-clause-room c =
    let le = word_room c.args.self.now (length c.args.operands.now + 1) c.requires.words (omega arith) in omega (arith, le)

pub returns-clause-begun : goal.returns-clause-begun
returns-clause-begun c =
    let n = grown c.args.self.now.code.list _ c.args.operands.now _ c.put.ensures.list in
    used_begun c.args.self.now _ refl refl refl c.put.ensures.capacity refl (length c.args.operands.now + 1) 0 (omega (arith, n)) (omega arith)
    (omega arith) c.requires.words (omega arith) c.requires.begun

pub returns-clause-words : goal.returns-clause-words
returns-clause-words c =
    let n = grown c.args.self.now.code.list _ c.args.operands.now _ c.put.ensures.list in
    used_words c.args.self.now _ refl refl refl c.put.ensures.capacity refl (length c.args.operands.now + 1) (omega (arith, n))

pub returns-clause-ids : goal.returns-clause-ids
returns-clause-ids c = same_ids c.args.self.now _ refl refl refl c.put.ensures.capacity refl refl
