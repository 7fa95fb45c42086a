use Rattle.std.proofs.Common.{◌<◌, ◌-◌, ℕ, length}
use Rattle.node_pool.specs.KeyTrees.{path_of, Walk}
use Rattle.node_pool.proofs.key_tree.free_spot.Given as goal

abbrev pub invariant-down : goal.invariant-down
invariant-down l = record {
  within : l.at < length l.links.list;
  steps : ℕ;
  walk : Walk l.links.list steps (path_of l.fn.key) 0 l.path l.at;
}

abbrev pub decreases-down : goal.decreases-down
decreases-down l = length l.links.list - l.at
