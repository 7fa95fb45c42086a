use Rattle.std.proofs.Common.{◌+◌, arith}
use Rattle.shader_tree.specs.Costs.{words_in, ids_in}
use Rattle.shader_tree.specs.Terms.{term_at}
use Rattle.spirv_symbols.specs.declared.symbol.Symbol.TheVariants.{Memory}
use Rattle.spirv_emit.proofs.Staying.{there_stays}
use Rattle.spirv_emit.proofs.Changing.{change_meets}
use Rattle.spirv_emit.proofs.StatementParts.{may_first, may_second, atomic_names, store_first}
use Rattle.spirv_emit.proofs.emitter.Emitter.atomic_change.Goals as goal

pub emit_word-at-requires-clause-may : goal.emit_word-at-requires-clause-may
emit_word-at-requires-clause-may c =
    let ns = c.args.tree.now.nodes in let x = term_at ns c.args.index in let y = term_at ns c.args.a in let w = term_at ns c.args.b in let r =
    c.requires.ready in
    may_first ns c.args.self.now c.args.index (words_in y + words_in w) (ids_in y + ids_in w) c.requires.index r.begun
    (atomic_names c.args.self.now c.args.scratch c.args.room x c.args.kind y w r.names).0 (let l = r.words in omega (arith, l))
    (let l = r.ids in omega (arith, l))

pub emit_word-first-requires-clause-may : goal.emit_word-first-requires-clause-may
emit_word-first-requires-clause-may c =
    let ns = c.args.tree.now.nodes in let x = term_at ns c.args.index in let y = term_at ns c.args.a in let w = term_at ns c.args.b in let r =
    c.requires.ready in
    may_second ns c.args.self.now c.emit_word-at.new.self c.args.index c.args.a c.emit_word-at.result (words_in w) (ids_in w) c.requires.first
    c.emit_word-at.ensures.did
    (store_first c.args.self.now c.args.room y w (atomic_names c.args.self.now c.args.scratch c.args.room x c.args.kind y w r.names).1)
    (let l = r.words in omega (arith, l)) (let l = r.ids in omega (arith, l))

pub room_pointer-pointer-requires-clause-there : goal.room_pointer-pointer-requires-clause-there
room_pointer-pointer-requires-clause-there c =
    let g = c.emit_word-at.ensures.gives in let h = c.emit_word-first.ensures.gives in
    there_stays c.emit_word-at.new.self c.emit_word-first.new.self h.seg h.grows (Memory c.args.room)
    (there_stays c.args.self.now c.emit_word-at.new.self g.seg g.grows (Memory c.args.room) c.requires.ready.names.rooms.0)

pub returns-clause-meets : goal.returns-clause-meets
returns-clause-meets c =
    let ns = c.args.tree.now.nodes in let k = c.change-word.ensures.changes in
    change_meets c.args.self.now c.emit_word-at.new.self c.emit_word-first.new.self c.room_pointer-pointer.new.self c.change-word.new.self
    c.assign.new.self c.args.scratch
    c.emit_word-at.result c.emit_word-first.result c.room_pointer-pointer.result k.device k.unordered c.change-word.result k.type' c.args.room
    c.args.kind
    (term_at ns c.args.index) (term_at ns c.args.a) (term_at ns c.args.b) c.room_pointer-pointer.ensures.begun c.emit_word-at.ensures.gives
    c.emit_word-first.ensures.gives
    c.room_pointer-pointer.ensures.points k.typed k.one k.none c.requires.one k.adds c.assign.ensures.assigns
