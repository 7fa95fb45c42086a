use Rattle.spirv_emit.proofs.emitter.Emitter.+emit_expression.Given as goal

abbrev pub decreases-emit_expression : goal.decreases-emit_expression
decreases-emit_expression l = l.id
