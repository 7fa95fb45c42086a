use Rattle.binding_map.specs.Numbering.{register_in}
use Rattle.binding_map.specs.Growing.{Grows}
use Rattle.binding_map.proofs.Placed.{run_below}
use Rattle.binding_map.proofs.root.Growing.bind_run.Given as goal

abbrev pub invariant-loop-slot : goal.invariant-loop-slot
invariant-loop-slot l = Grows l.fn.self l.self (run_below (register_in l.group) l.words l.base l.count l.marks l.slot)
