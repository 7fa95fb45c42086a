use Rattle.spirv_emit.proofs.StatementParts.{word_gives}
use Rattle.spirv_emit.proofs.emitter.Emitter.emit_word.Goals as goal

pub returns-clause-gives : goal.returns-clause-gives
returns-clause-gives c = word_gives c.args.tree.now.nodes c.args.id c.args.self.now _ c.emit_expression.result c.requires.word
    c.emit_expression.ensures.emitted
