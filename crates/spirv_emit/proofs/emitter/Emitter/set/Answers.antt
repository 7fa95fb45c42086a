use Rattle.shader_tree.specs.Terms.{term_at}
use Rattle.spirv_emit.proofs.Effects.{set_alters}
use Rattle.spirv_emit.proofs.emitter.Emitter.set.Goals as goal

pub returns-clause-alters : goal.returns-clause-alters
returns-clause-alters c =
    set_alters c.args.self.now c.emit_word-word.new.self c.assign.new.self c.args.scratch c.emit_word-word.result
    (term_at c.args.tree.now.nodes c.args.value)
    c.emit_word-word.ensures.gives c.assign.ensures.assigns
