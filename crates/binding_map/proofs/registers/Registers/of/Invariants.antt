use Rattle.std.proofs.Common.{[], take}
use Rattle.binding_map.specs.Marks.{HasMarks}
use Rattle.binding_map.proofs.registers.Registers.of.Given as goal

abbrev pub invariant-loop-i : goal.invariant-loop-i
invariant-loop-i l = HasMarks l.registers (take l.i l.program.shader.declarations) []

abbrev pub invariant-loop-i-2 : goal.invariant-loop-i-2
invariant-loop-i-2 l = HasMarks l.registers l.program.shader.declarations (take l.i l.program.shader.instructions)
