use Rattle.std.proofs.Common.{take}
use Rattle.spirv_symbols.specs.Rows.{rank, needs_in}
use Rattle.spirv_symbols.specs.RowValues.{parts_of}
use Rattle.spirv_symbols.proofs.Needs.{Needed}
use Rattle.spirv_symbols.proofs.table.Symbols.+symbol.Given as goal

abbrev pub decreases-symbol : goal.decreases-symbol
decreases-symbol l = rank l.symbol

abbrev pub invariant-loop-k : goal.invariant-loop-k
invariant-loop-k l = Needed l.context l.initial.self l.self (needs_in (take l.k (parts_of l.context l.row)))
