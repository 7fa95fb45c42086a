use Rattle.std.proofs.Common.{sym, subst, ◌++◌, ◌∷◌, []}
use Rattle.node_pool.specs.KeyTrees.{IsTree}
use Rattle.node_pool.proofs.KeyWalks.{grown_tree}
use Rattle.node_pool.proofs.key_tree.plant.Goals as goal

pub returns-clause-tree : goal.returns-clause-tree
returns-clause-tree c =
    subst (λ l. IsTree (c.args.keys.now.list ++ c.args.key ∷ []) l) (sym c.hang.ensures.list)
    (grown_tree c.args.keys.now.list c.args.links.now.list c.args.key c.free_spot-spot.result.at c.free_spot-spot.result.path c.requires.tree c.free_spot-spot.ensures)
