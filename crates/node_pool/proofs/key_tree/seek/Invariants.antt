use Rattle.std.proofs.Common.{◌<◌, ◌-◌, length}
use Rattle.node_pool.proofs.KeyWalks.{LeadsTo}
use Rattle.node_pool.proofs.key_tree.seek.Given as goal

abbrev pub invariant-down : goal.invariant-down
invariant-down l = record {
  within : l.at < length l.links.list;
  leads : LeadsTo l.keys.list l.links.list l.key l.path l.at;
}

abbrev pub decreases-down : goal.decreases-down
decreases-down l = length l.links.list - l.at
