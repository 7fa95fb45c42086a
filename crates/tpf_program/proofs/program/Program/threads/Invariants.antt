use Rattle.std.proofs.Common.{◌≡◌, drop}
use Rattle.tpf_program.specs.Declarations.{threads_in}
use Rattle.tpf_program.proofs.program.Program.threads.Given as goal

abbrev pub invariant-loop-i : goal.invariant-loop-i
invariant-loop-i l = threads_in (drop l.i l.self.shader.declarations) ≡ threads_in l.self.shader.declarations
