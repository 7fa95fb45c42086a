use Rattle.std.proofs.Common.{take}
use Rattle.std.specs.Prelude.{map}
use Rattle.spirv_symbols.specs.declared.symbol.Symbol.TheVariants.{Constant}
use Rattle.spirv_emit.specs.Naming.{PutsAll}
use Rattle.spirv_emit.proofs.immediates.put_constants.Given as goal

abbrev pub invariant-loop-i : goal.invariant-loop-i
invariant-loop-i l = PutsAll l.context l.initial.symbols l.symbols (take l.i (map (λ w. Constant w) l.context.immediates))
