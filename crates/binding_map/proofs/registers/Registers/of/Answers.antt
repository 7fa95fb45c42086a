use Rattle.std.proofs.Common.{[], subst, sym, take, ◌+◌}
use Rattle.binding_map.specs.Marks.{HasMarks}
use Rattle.binding_map.proofs.Marked.{no_marks, declared, counted}
use Rattle.binding_map.proofs.registers.Registers.of.Goals as goal

pub loop-i-init : goal.loop-i-init
loop-i-init c = subst (λ r. HasMarks r [] []) (sym c.none-registers.ensures) no_marks

pub loop-i-preserved : goal.loop-i-preserved
loop-i-preserved c =
    subst (λ r. HasMarks r (take (c.loop-i.i + 1) c.args.program.now.shader.declarations) []) (sym c.declare.ensures)
    (declared c.args.program.now.shader.declarations [] c.loop-i.i c.declaration.result c.loop-i.registers c.declaration.ensures c.loop-i.invariant)

pub loop-i-2-preserved : goal.loop-i-2-preserved
loop-i-2-preserved c =
    subst (λ r. HasMarks r c.args.program.now.shader.declarations (take (c.loop-i-2.i + 1) c.args.program.now.shader.instructions)) (sym c.step.ensures)
    (counted c.args.program.now.shader.declarations c.args.program.now.shader.instructions c.loop-i-2.i c.instruction.result c.loop-i-2.registers c.instruction.ensures c.loop-i-2.invariant)
