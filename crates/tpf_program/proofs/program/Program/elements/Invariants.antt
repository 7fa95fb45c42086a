use Rattle.std.proofs.Common.{◌≡◌, drop}
use Rattle.tpf_program.specs.Sizes.{elements_of}
use Rattle.tpf_program.proofs.program.Program.elements.Given as goal

-- those passed over do not decide
abbrev pub invariant-loop-i : goal.invariant-loop-i
invariant-loop-i l = elements_of l.slot (drop l.i l.self.shader.declarations) ≡ elements_of l.slot l.self.shader.declarations
