use Rattle.std.specs.Prelude.{◌≢◌}
use Rattle.std.proofs.Common.{suc, sym, ◌∙◌, subst, arith}
use Rattle.node_pool.specs.KeyTrees.{path_of}
use Rattle.node_pool.proofs.KeyWalks.{walk_on, at_child, stepped}
use Rattle.node_pool.proofs.key_tree.free_spot.Goals as goal

pub returns-then-next-eq0 : goal.returns-then-next-eq0
returns-then-next-eq0 c =
    let next = at_child c.args.links.now.list c.down.at c.down.path c.get.result c.side-next.result c.get.ensures c.side-next.ensures in
    record {
      steps = c.down.invariant.steps;
      walk = c.down.invariant.walk;
      within = c.down.invariant.within;
      free = sym next ∙ c.if-next-eq0.true;
    }

pub down-smaller : goal.down-smaller
down-smaller c =
    let next = at_child c.args.links.now.list c.down.at c.down.path c.get.result c.side-next.result c.get.ensures c.side-next.ensures in
    let s = stepped c.args.keys.now.list c.args.links.now.list c.down.at c.down.path c.side-next.result c.requires.tree next c.if-next-eq0.false in
    omega (arith, s.0, s.1)

pub down-preserved : goal.down-preserved
down-preserved c =
    let next = at_child c.args.links.now.list c.down.at c.down.path c.get.result c.side-next.result c.get.ensures c.side-next.ensures in
    let s = stepped c.args.keys.now.list c.args.links.now.list c.down.at c.down.path c.side-next.result c.requires.tree next c.if-next-eq0.false in
    let on = walk_on c.args.links.now.list c.down.invariant.steps (path_of c.args.key) 0 c.down.path c.down.at c.down.invariant.walk (subst (λ n. n ≢ 0) next c.if-next-eq0.false) in
    record {
      within = s.1;
      steps = suc c.down.invariant.steps;
      walk = rw (next, c.behind-path.ensures) on;
    }
