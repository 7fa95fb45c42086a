use Rattle.std.proofs.Common.{◌≡◌, ◌++◌, take}
use Rattle.spirv_words.specs.Text.{words_of_code}
use Rattle.spirv_symbols.specs.Sections.{decorations_of}
use Rattle.spirv_symbols.proofs.table.Symbols.put_decorations.Given as goal

abbrev pub invariant-loop-k : goal.invariant-loop-k
invariant-loop-k l = record {
  list : l.words.list ≡ l.initial.words.list ++ words_of_code (decorations_of l.context (take l.k l.self.entries));
  capacity : l.words.capacity ≡ l.initial.words.capacity;
}
