use Rattle.std.proofs.Common.{◌≡◌, ◌++◌, take}
use Rattle.spirv_emit.proofs.writing.extend.Given as goal

abbrev pub invariant-loop-word : goal.invariant-loop-word
invariant-loop-word l = record {
  list : l.words.list ≡ l.fn.words.list ++ take l.word-index l.more;
  capacity : l.words.capacity ≡ l.fn.words.capacity;
}
