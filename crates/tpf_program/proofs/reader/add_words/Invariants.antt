use Rattle.std.proofs.Common.{◌≡◌, ◌++◌}
use Rattle.tpf_decode.specs.Spelling.{words_between}
use Rattle.tpf_program.proofs.reader.add_words.Given as goal

-- the words in front of the place are added
abbrev pub invariant-loop-place : goal.invariant-loop-place
invariant-loop-place l = record {
  added : l.words.list ≡ l.initial.words.list ++ words_between l.bytes l.start l.place;
  capacity : l.words.capacity ≡ l.initial.words.capacity;
}
