use Rattle.std.proofs.Common.{take}
use Rattle.spirv_emit.specs.Naming.{PutsAll}
use Rattle.spirv_emit.proofs.naming.put_all.Given as goal

abbrev pub invariant-loop-symbol : goal.invariant-loop-symbol
invariant-loop-symbol l = PutsAll l.context l.initial.symbols l.symbols (take l.symbol-index l.all)
