use Rattle.std.proofs.Common.{arith}
use Rattle.shader_tree.specs.Costs.{words_in, ids_in}
use Rattle.shader_tree.specs.Terms.{term_at}
use Rattle.spirv_symbols.specs.declared.symbol.Symbol.TheVariants.{Memory}
use Rattle.spirv_emit.proofs.Staying.{there_stays}
use Rattle.spirv_emit.proofs.Effects.{store_meets}
use Rattle.spirv_emit.proofs.StatementParts.{may_first, may_second, store_first, store_second}
use Rattle.spirv_emit.proofs.emitter.Emitter.store.Goals as goal

pub emit_word-at-requires-clause-may : goal.emit_word-at-requires-clause-may
emit_word-at-requires-clause-may c =
    let ns = c.args.tree.now.nodes in let x = term_at ns c.args.index in let y = term_at ns c.args.value in
    may_first ns c.args.self.now c.args.index (words_in y) (ids_in y) c.requires.index c.requires.ready.begun
    (store_first c.args.self.now c.args.room x y c.requires.ready.names)
    (let w = c.requires.ready.words in omega (arith, w)) (let i = c.requires.ready.ids in omega (arith, i))

pub emit_word-word-requires-clause-may : goal.emit_word-word-requires-clause-may
emit_word-word-requires-clause-may c =
    let ns = c.args.tree.now.nodes in let x = term_at ns c.args.index in let y = term_at ns c.args.value in
    may_second ns c.args.self.now c.emit_word-at.new.self c.args.index c.args.value c.emit_word-at.result 0 0 c.requires.value
    c.emit_word-at.ensures.did
    (store_second c.args.self.now c.args.room x y c.requires.ready.names) (let w = c.requires.ready.words in omega (arith, w))
    (let i = c.requires.ready.ids in omega (arith, i))

pub room_pointer-pointer-requires-clause-there : goal.room_pointer-pointer-requires-clause-there
room_pointer-pointer-requires-clause-there c =
    let g = c.emit_word-at.ensures.gives in let h = c.emit_word-word.ensures.gives in
    there_stays c.emit_word-at.new.self c.emit_word-word.new.self h.seg h.grows (Memory c.args.room)
    (there_stays c.args.self.now c.emit_word-at.new.self g.seg g.grows (Memory c.args.room) c.requires.ready.names.rooms.0)

pub returns-clause-meets : goal.returns-clause-meets
returns-clause-meets c =
    let ns = c.args.tree.now.nodes in
    store_meets c.args.self.now c.emit_word-at.new.self c.emit_word-word.new.self c.room_pointer-pointer.new.self c.act.new.self c.emit_word-at.result
    c.emit_word-word.result c.room_pointer-pointer.result c.args.room (term_at ns c.args.index) (term_at ns c.args.value) c.emit_word-at.ensures.gives
    c.emit_word-word.ensures.gives c.room_pointer-pointer.ensures.points c.act.ensures.acts
