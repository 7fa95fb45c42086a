use Rattle.std.proofs.Common.{sym, ◌∙◌}
use Rattle.shader_check.proofs.FirstUses.{used_stops, used_found, used_later}
use Rattle.shader_check.proofs.uses.refused_before.Goals as goal

pub returns-then-instruction-end : goal.returns-then-instruction-end
returns-then-instruction-end c =
    used_stops c.args.things.now c.args.end c.args.program.now.shader.instructions c.loop-i.i c.instruction-instruction.result c.instruction-instruction.ensures c.loop-i.invariant
    c.if-instruction-end.true

pub returns-in-Some : goal.returns-in-Some
returns-in-Some c =
    used_found c.args.things.now c.args.end c.args.program.now.shader.instructions c.loop-i.i c.instruction-instruction.result c.instruction-instruction.ensures c.loop-i.invariant
    c.if-instruction-end.false c.in-Some.rule (sym c.rule_of_uses.ensures ∙ c.in-Some.is)

pub loop-i-preserved : goal.loop-i-preserved
loop-i-preserved c =
    used_later c.args.things.now c.args.end c.args.program.now.shader.instructions c.loop-i.i c.instruction-instruction.result c.instruction-instruction.ensures c.loop-i.invariant
    c.if-instruction-end.false (sym c.rule_of_uses.ensures ∙ c.in_default.is)
