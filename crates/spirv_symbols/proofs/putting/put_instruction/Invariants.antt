use Rattle.std.proofs.Common.{◌≡◌, ◌++◌, take, map}
use Rattle.spirv_symbols.specs.RowValues.{parts_of}
use Rattle.spirv_symbols.specs.Rows.{operand}
use Rattle.spirv_symbols.specs.Tables.{id_of}
use Rattle.spirv_symbols.proofs.putting.put_instruction.Given as goal

abbrev pub invariant-loop-k : goal.invariant-loop-k
invariant-loop-k l = record {
  list : l.words.list ≡ l.initial.words.list ++ map (operand (id_of l.symbols.entries) l.entry.id) (take l.k (parts_of l.context l.row));
  capacity : l.words.capacity ≡ l.initial.words.capacity;
}
