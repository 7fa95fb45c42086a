use Rattle.std.proofs.Common.{◌≡◌}
use Rattle.std.specs.Prelude.{map, take}
use Rattle.root_signature.specs.Covers.{lowest}
use Rattle.root_signature.proofs.overlaps.sorted_rows.Given as goal

abbrev pub invariant-loop-entry : goal.invariant-loop-entry
invariant-loop-entry l = l.rows.items ≡ map (λ e. lowest e.covers) (take l.entry-index l.entries)
