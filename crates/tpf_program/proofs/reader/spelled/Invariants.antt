use Rattle.std.proofs.Common.{◌≡◌, ◌-◌}
use Rattle.word_base.specs.Words.{words_of}
use Rattle.tpf_program.proofs.Walk.{IsWalked}
use Rattle.tpf_program.proofs.reader.spelled.Given as goal

-- the words in front of the place are read
abbrev pub invariant-loop-at : goal.invariant-loop-at
invariant-loop-at l = record {
  walked : IsWalked (words_of l.bytes) l.words l.at l.program.shader;
  room : l.program.room ≡ l.initial.program.room;
}

abbrev pub decreases-loop-at : goal.decreases-loop-at
decreases-loop-at l = l.words - l.at
