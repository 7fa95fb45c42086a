use Rattle.std.proofs.Common.{◌≡◌, drop}
use Rattle.tpf_program.specs.Sizes.{temps_of}
use Rattle.tpf_program.proofs.program.Program.temps.Given as goal

-- those passed over do not decide
abbrev pub invariant-loop-i : goal.invariant-loop-i
invariant-loop-i l = temps_of (drop l.i l.self.shader.declarations) ≡ temps_of l.self.shader.declarations
