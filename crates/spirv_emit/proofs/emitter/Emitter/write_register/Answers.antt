use Rattle.shader_tree.specs.Terms.{term_at}
use Rattle.spirv_emit.proofs.LaneWrites.{register_alters}
use Rattle.spirv_emit.proofs.StatementParts.{literal_at}
use Rattle.spirv_emit.proofs.emitter.Emitter.write_register.Goals as goal

pub returns-clause-alters : goal.returns-clause-alters
returns-clause-alters c =
    let ns = c.args.tree.now.nodes in
    register_alters c.args.self.now c.emit_word-word.new.self c.assign.new.self c.in-Word.k c.emit_word-word.result (term_at ns c.args.index)
    (term_at ns c.args.value)
    (literal_at ns c.args.index c.in-Word.k c.expr_at.result c.expr_at.ensures c.in-Word.is) c.requires.separate c.emit_word-word.ensures.gives
    c.assign.ensures.assigns
