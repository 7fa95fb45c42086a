use Rattle.std.specs.Prelude.{take}
use Rattle.root_signature.specs.Covering.{spans_of}
use Rattle.root_signature.specs.Overlaps.{Overlapping}
use Rattle.root_signature.proofs.overlaps.overlap_refusal.Given as goal

abbrev pub invariant-loop-entry : goal.invariant-loop-entry
invariant-loop-entry l = Overlapping l.rows.items (spans_of (take l.entry-index l.entries)) l.marks.items l.best
