use Rattle.std.proofs.Common.{sym, ◌∙◌, arith}
use Rattle.node_pool.proofs.KeyWalks.{differ, sought_on, sought_in_vain, at_child, stepped}
use Rattle.node_pool.proofs.key_tree.seek.Goals as goal

pub returns-then-next-eq0-clause-absent : goal.returns-then-next-eq0-clause-absent
returns-then-next-eq0-clause-absent c =
    let next = at_child c.args.links.now.list c.down.at c.down.path c.get-in-down.result c.side-next.result c.get-in-down.ensures c.side-next.ensures in
    sought_in_vain c.args.keys.now.list c.args.links.now.list c.args.key c.get.result c.down.path c.down.at c.get.ensures
    (differ c.get.result c.args.key c.eq.result c.eq.ensures c.if-eq.false) c.down.invariant.leads (sym next ∙ c.if-next-eq0.true)

pub down-smaller : goal.down-smaller
down-smaller c =
    let next = at_child c.args.links.now.list c.down.at c.down.path c.get-in-down.result c.side-next.result c.get-in-down.ensures c.side-next.ensures in
    let s = stepped c.args.keys.now.list c.args.links.now.list c.down.at c.down.path c.side-next.result c.requires.tree next c.if-next-eq0.false in
    omega (arith, s.0, s.1)

pub down-preserved : goal.down-preserved
down-preserved c =
    let next = at_child c.args.links.now.list c.down.at c.down.path c.get-in-down.result c.side-next.result c.get-in-down.ensures c.side-next.ensures in
    let s = stepped c.args.keys.now.list c.args.links.now.list c.down.at c.down.path c.side-next.result c.requires.tree next c.if-next-eq0.false in
    let on = sought_on c.args.keys.now.list c.args.links.now.list c.args.key c.get.result c.down.path c.down.at c.get.ensures
    (differ c.get.result c.args.key c.eq.result c.eq.ensures c.if-eq.false) c.down.invariant.leads in
    record { within = s.1; leads = rw (next, c.behind-path.ensures) on }
