use Rattle.std.proofs.Common.{◌≡◌, drop}
use Rattle.tpf_program.specs.Extents.{words_declared}
use Rattle.tpf_program.specs.Sizes.{first_size}
use Rattle.tpf_program.proofs.program.Program.shared_words.Given as goal

-- those passed over give the slot no words
abbrev pub invariant-loop-i : goal.invariant-loop-i
invariant-loop-i l = first_size (words_declared l.slot) (drop l.i l.self.shader.declarations) ≡ first_size (words_declared l.slot) l.self.shader.declarations
