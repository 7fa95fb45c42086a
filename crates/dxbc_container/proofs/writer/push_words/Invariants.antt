use Rattle.std.proofs.Common.{◌≡◌, ◌++◌, take}
use Rattle.word_base.specs.Words.{bytes_of}
use Rattle.dxbc_container.proofs.writer.push_words.Given as goal

abbrev pub invariant-loop-word : goal.invariant-loop-word
invariant-loop-word l = l.out.items ≡ l.initial.out.items ++ bytes_of (take l.word-index l.words)
