use Rattle.shader_check.proofs.NestedWalks.{Walked}
use Rattle.shader_check.proofs.nested.walk.Given as goal

abbrev pub invariant-loop-q : goal.invariant-loop-q
invariant-loop-q l = Walked l.program.shader.instructions l.q l.nesting
