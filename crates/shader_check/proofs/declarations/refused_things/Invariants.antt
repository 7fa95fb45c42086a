use Rattle.shader_check.proofs.FirstThings.{Ordered, Passed}
use Rattle.shader_check.proofs.declarations.refused_things.Given as goal

abbrev pub invariant-loop-i : goal.invariant-loop-i
invariant-loop-i l = (o : Ordered l.program.shader) → Passed l.program.shader o l.i l.taken.bytes l.taken.registers l.things
