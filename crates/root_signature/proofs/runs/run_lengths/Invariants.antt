use Rattle.std.proofs.Common.{length}
use Rattle.root_signature.specs.Runs.{passes}
use Rattle.root_signature.specs.Lengths.{RunsFrom}
use Rattle.root_signature.proofs.runs.run_lengths.Given as goal

abbrev pub invariant-loop-at : goal.invariant-loop-at
invariant-loop-at l = RunsFrom (passes l.test l.content) l.step (length l.content) l.at l.runs.items

abbrev pub decreases-loop-at : goal.decreases-loop-at
decreases-loop-at l = l.at
