use Rattle.std.proofs.Common.{◌≡◌, drop}
use Rattle.shader_check.specs.Things.{used_before}
use Rattle.shader_check.proofs.uses.refused_before.Given as goal

-- those passed over do not decide
abbrev pub invariant-loop-i : goal.invariant-loop-i
invariant-loop-i l = used_before l.things l.end (drop l.i l.program.shader.instructions) ≡ used_before l.things l.end l.program.shader.instructions
