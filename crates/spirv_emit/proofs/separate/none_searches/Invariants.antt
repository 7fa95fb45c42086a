use Rattle.std.proofs.Common.{◌≡◌, true, take}
use Rattle.spirv_emit.specs.Naming.{none_searches}
use Rattle.spirv_emit.proofs.separate.none_searches.Given as goal

abbrev pub invariant-loop-id : goal.invariant-loop-id
invariant-loop-id l = none_searches l.tree.nodes (take l.id l.tree.nodes) ≡ true
