use Rattle.std.proofs.Common.{◌≡◌, ◌++◌, take}
use Rattle.spirv_symbols.specs.Modules.{interface}
use Rattle.spirv_symbols.proofs.module.put_listed.Given as goal

abbrev pub invariant-loop-k : goal.invariant-loop-k
invariant-loop-k l = record {
  list : l.words.list ≡ l.initial.words.list ++ interface l.version (take l.k l.symbols.entries);
  capacity : l.words.capacity ≡ l.initial.words.capacity;
}
