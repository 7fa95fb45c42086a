use Rattle.std.proofs.Common.{refl, arith, ◌+◌, length, ◌∷◌}
use Rattle.spirv_emit.proofs.Room.{id_room, is_short, word_room, grown, used_begun, used_words, used_ids}
use Rattle.spirv_emit.proofs.emitter.Emitter.value.Goals as goal

pub fresh-result-requires : goal.fresh-result-requires
fresh-result-requires c = record { room = id_room c.args.self.now c.requires.ids }

pub put-requires-clause-short : goal.put-requires-clause-short
put-requires-clause-short c =
    let lt = is_short c.args.op (c.args.type_id ∷ 0 ∷ c.args.operands.now) (c.requires.fits 0) in omega (arith, lt)

pub put-requires-clause-room : goal.put-requires-clause-room
put-requires-clause-room c =
    let le = word_room c.args.self.now (length c.args.operands.now + 3) c.requires.words (omega arith) in omega (arith, le)

pub returns-clause-begun : goal.returns-clause-begun
returns-clause-begun c =
    let f = c.fresh-result.ensures in
    let n = grown c.args.self.now.code.list _ (c.args.type_id ∷ c.fresh-result.result ∷ c.args.operands.now) _ c.put.ensures.list in
    used_begun c.args.self.now _ refl f.entries' f.limit' c.put.ensures.capacity refl (length c.args.operands.now + 3) 1 (omega (arith, n))
    (omega (arith, f.next')) (omega (arith, f.next')) c.requires.words c.requires.ids c.requires.begun

pub returns-clause-words : goal.returns-clause-words
returns-clause-words c =
    let f = c.fresh-result.ensures in
    let n = grown c.args.self.now.code.list _ (c.args.type_id ∷ c.fresh-result.result ∷ c.args.operands.now) _ c.put.ensures.list in
    used_words c.args.self.now _ refl f.entries' f.limit' c.put.ensures.capacity refl (length c.args.operands.now + 3) (omega (arith, n))

pub returns-clause-ids : goal.returns-clause-ids
returns-clause-ids c =
    let f = c.fresh-result.ensures in
    used_ids c.args.self.now _ refl f.entries' f.limit' c.put.ensures.capacity refl 1 (omega (arith, f.next'))
