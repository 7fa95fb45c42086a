use Rattle.word_base.specs.Words.{words_of}
use Rattle.tpf_program.proofs.Parts.{AreRead}
use Rattle.tpf_program.proofs.operands.read_operands.Given as goal

-- the operands in front of the place are read
abbrev pub invariant-loop-k : goal.invariant-loop-k
invariant-loop-k l = AreRead l.code l.roles l.k l.places (words_of l.bytes) l.at l.place l.end
