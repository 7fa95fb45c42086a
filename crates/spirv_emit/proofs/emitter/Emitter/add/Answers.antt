use Rattle.std.proofs.Common.{refl, ap, ◌∙◌, arith, ◌∷◌, [], length, length-append}
use Rattle.spirv_emit.proofs.Room.{word_room, used_begun, used_words, same_ids}
use Rattle.spirv_emit.proofs.emitter.Emitter.add.Goals as goal

pub push-requires : goal.push-requires
push-requires c = let le = word_room c.args.self.now 1 c.requires.words (omega arith) in omega (arith, le)

pub returns-clause-begun : goal.returns-clause-begun
returns-clause-begun c =
    let n = ap length c.push.ensures.list ∙ length-append c.args.self.now.code.list (c.args.word ∷ []) in
    used_begun c.args.self.now (record c.args.self.now { code = c.push.new.self }) refl refl refl c.push.ensures.capacity refl 1 0 (omega (arith, n))
    (omega arith)
    (omega arith) c.requires.words (omega arith) c.requires.begun

pub returns-clause-words : goal.returns-clause-words
returns-clause-words c =
    let n = ap length c.push.ensures.list ∙ length-append c.args.self.now.code.list (c.args.word ∷ []) in
    used_words c.args.self.now (record c.args.self.now { code = c.push.new.self }) refl refl refl c.push.ensures.capacity refl 1 (omega (arith, n))

pub returns-clause-ids : goal.returns-clause-ids
returns-clause-ids c = same_ids c.args.self.now (record c.args.self.now { code = c.push.new.self }) refl refl refl c.push.ensures.capacity refl refl
