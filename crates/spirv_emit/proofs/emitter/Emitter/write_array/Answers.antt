use Rattle.std.proofs.Common.{arith}
use Rattle.shader_tree.specs.Costs.{words_in, ids_in}
use Rattle.shader_tree.specs.Terms.{term_at}
use Rattle.spirv_emit.proofs.Staying.{there_stays}
use Rattle.spirv_emit.proofs.LaneWrites.{arrays_alter}
use Rattle.spirv_emit.proofs.StatementParts.{may_first, may_second, write_first, write_second}
use Rattle.spirv_emit.proofs.emitter.Emitter.write_array.Goals as goal

pub emit_word-at-requires-clause-may : goal.emit_word-at-requires-clause-may
emit_word-at-requires-clause-may c =
    let ns = c.args.tree.now.nodes in let x = term_at ns c.args.index in let y = term_at ns c.args.value in let r = c.requires.ready in
    may_first ns c.args.self.now c.args.index (words_in y) (ids_in y) c.requires.index r.begun (write_first c.args.self.now c.args.space x y r.names)
    (let w = r.words in omega (arith, w)) (let i = r.ids in omega (arith, i))

pub emit_word-word-requires-clause-may : goal.emit_word-word-requires-clause-may
emit_word-word-requires-clause-may c =
    let ns = c.args.tree.now.nodes in let x = term_at ns c.args.index in let y = term_at ns c.args.value in let r = c.requires.ready in
    may_second ns c.args.self.now c.emit_word-at.new.self c.args.index c.args.value c.emit_word-at.result 0 0 c.requires.value
    c.emit_word-at.ensures.did
    (write_second c.args.self.now c.args.space x y r.names) (let w = r.words in omega (arith, w)) (let i = r.ids in omega (arith, i))

pub id_of-array-requires : goal.id_of-array-requires
id_of-array-requires c =
    let g = c.emit_word-at.ensures.gives in let h = c.emit_word-word.ensures.gives in
    there_stays c.emit_word-at.new.self c.emit_word-word.new.self h.seg h.grows c.args.variable
    (there_stays c.args.self.now c.emit_word-at.new.self g.seg g.grows c.args.variable c.requires.there)

pub returns-clause-alters : goal.returns-clause-alters
returns-clause-alters c =
    let ns = c.args.tree.now.nodes in
    arrays_alter c.args.self.now c.emit_word-at.new.self c.emit_word-word.new.self c.value-place.new.self c.act.new.self c.drop_elements.new.self
    c.args.space c.args.variable
    c.emit_word-at.result c.emit_word-word.result c.id_of-array.result c.value-place.result c.pointer-pointer.result (term_at ns c.args.index)
    (term_at ns c.args.value)
    c.requires.array c.requires.used c.emit_word-at.ensures.gives c.emit_word-word.ensures.gives c.emit_word-word.ensures.did.begun
    c.id_of-array.ensures
    c.pointer-pointer.ensures c.value-place.ensures.adds c.act.ensures.acts c.drop_elements.ensures.dropped
