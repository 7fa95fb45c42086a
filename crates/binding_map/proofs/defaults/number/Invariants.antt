use Rattle.binding_map.proofs.Numbered.{Numbering}
use Rattle.binding_map.proofs.defaults.number.Given as goal

abbrev pub invariant-loop-slot : goal.invariant-loop-slot
invariant-loop-slot l = Numbering l.group l.marks l.fn.bindings l.slot l.bindings
