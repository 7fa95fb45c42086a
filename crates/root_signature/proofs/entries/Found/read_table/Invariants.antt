use Rattle.std.proofs.Common.{ℕ, ◌-◌, ◌≤◌, List, ◌++◌}
use Rattle.root_signature.specs.declared.covers.Entry.{Entry}
use Rattle.root_signature.specs.Covering.{table_covered}
use Rattle.root_signature.specs.Thinning.{Finds, IsReadyIn, room_of}
use Rattle.root_signature.proofs.entries.Found.read_table.Given as goal

abbrev pub invariant-loop-j : goal.invariant-loop-j
invariant-loop-j l = record {
  found : (every : List Entry) (words : ℕ) → Finds l.content every words l.initial.self → Finds l.content (every ++ table_covered l.content l.start l.j) words l.self;
  ready : IsReadyIn l.content l.self;
  room : room_of l.self ≤ room_of l.initial.self;
  within : l.j ≤ l.count;
}

abbrev pub decreases-loop-j : goal.decreases-loop-j
decreases-loop-j l = l.count - l.j
