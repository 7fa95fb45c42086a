use Rattle.std.proofs.Common.{◌≡◌, drop}
use Rattle.tpf_program.specs.Sizes.{vectors_of}
use Rattle.tpf_program.proofs.program.Program.vectors.Given as goal

-- those passed over do not decide
abbrev pub invariant-loop-i : goal.invariant-loop-i
invariant-loop-i l = vectors_of l.slot (drop l.i l.self.shader.declarations) ≡ vectors_of l.slot l.self.shader.declarations
