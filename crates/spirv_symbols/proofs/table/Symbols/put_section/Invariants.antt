use Rattle.std.proofs.Common.{◌≡◌, ◌++◌, take}
use Rattle.spirv_words.specs.Text.{words_of_code}
use Rattle.spirv_symbols.specs.Sections.{part_of, code_of}
use Rattle.spirv_symbols.proofs.table.Symbols.put_section.Given as goal

abbrev pub invariant-loop-k : goal.invariant-loop-k
invariant-loop-k l = record {
  list : l.words.list ≡ l.initial.words.list ++ words_of_code
      (code_of l.context l.self.entries (part_of l.context l.section (take l.k l.self.entries)));
  capacity : l.words.capacity ≡ l.initial.words.capacity;
}
