use Rattle.std.proofs.Common.{◌≡◌, ◌+◌, ◌++◌, length, take}
use Rattle.spirv_symbols.proofs.putting.put.Given as goal

abbrev pub invariant-loop-operand : goal.invariant-loop-operand
invariant-loop-operand l = record {
  list : l.words.list ≡ l.initial.words.list ++ take l.operand-index l.operands;
  count : length l.words.list ≡ length l.initial.words.list + l.operand-index;
  capacity : l.words.capacity ≡ l.initial.words.capacity;
}
