use Rattle.std.proofs.Common.{◌-◌}
use Rattle.root_signature.specs.Runs.{Marking}
use Rattle.root_signature.proofs.marks.mark.Given as goal

abbrev pub invariant-loop-j : goal.invariant-loop-j
invariant-loop-j l = Marking l.step l.start l.count l.j l.fn.marks l.marks

abbrev pub decreases-loop-j : goal.decreases-loop-j
decreases-loop-j l = l.count - l.j
