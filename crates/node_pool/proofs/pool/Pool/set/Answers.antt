use Rattle.std.proofs.Common.{◌<◌, length, Some, set, ap, ◌∙◌, arith, length-set}
use Rattle.node_pool.specs.Pools.{Pooled}
use Rattle.node_pool.specs.Places.{stored}
use Rattle.node_pool.proofs.Stored.{stored_again}
use Rattle.node_pool.proofs.pool.Pool.set.Goals as goal

pub invariant_of-self : goal.invariant_of-self
invariant_of-self g c =
    let p = c.self.inside in let is = c.self.invariant in let wrote = c.write.ensures in let x = c.args.value in
    let same = ap (λ (s : Pooled g.row.T.Denot). length s.list) c.self.view_is in
    let below : c.args.id < p.count = omega (arith, same, is.0.2, c.requires) in
    let long = ap length (ap (stored p.count) wrote.1 ∙ stored_again p.count p.region.places c.args.id x below is.0.2) in
    ((ap length wrote.1 ∙ length-set p.region.places c.args.id (Some x) ∙ is.0.0, is.0.1, long ∙ length-set (stored p.count p.region.places) c.args.id x ∙ is.0.2), wrote.0 ∙ is.1, is.2, is.3, is.4)

pub returns-clause-list : goal.returns-clause-list
returns-clause-list g c =
    let p = c.self.inside in let is = c.self.invariant in let wrote = c.write.ensures in let x = c.args.value in
    let same = ap (λ (s : Pooled g.row.T.Denot). length s.list) c.self.view_is in
    let below : c.args.id < p.count = omega (arith, same, is.0.2, c.requires) in
    ap (stored p.count) wrote.1 ∙ stored_again p.count p.region.places c.args.id x below is.0.2 ∙ ap (λ (s : Pooled g.row.T.Denot). set s.list c.args.id x) c.self.view_is
