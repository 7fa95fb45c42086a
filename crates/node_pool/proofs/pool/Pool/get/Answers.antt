use Rattle.std.proofs.Common.{slice_get, ◌<◌, length, sym, ap, ◌∙◌, arith}
use Rattle.node_pool.specs.Pools.{Pooled}
use Rattle.node_pool.proofs.Stored.{stored_at, stored_holds}
use Rattle.node_pool.proofs.pool.Pool.get.Goals as goal

pub lend-requires : goal.lend-requires
lend-requires g c =
    let p = c.self.inside in let is = c.self.invariant in
    let same = ap (λ (s : Pooled g.row.T.Denot). length s.list) c.self.view_is in
    let below : c.args.id < p.count = omega (arith, same, is.0.2, c.requires) in
    (sym is.1, stored_holds p.count p.region.places c.args.id below is.0.2)

pub returns : goal.returns
returns g c =
    let p = c.self.inside in let is = c.self.invariant in
    let same = ap (λ (s : Pooled g.row.T.Denot). length s.list) c.self.view_is in
    let below : c.args.id < p.count = omega (arith, same, is.0.2, c.requires) in
    sym (ap (λ (s : Pooled g.row.T.Denot). slice_get s.list c.args.id) c.self.view_is) ∙ stored_at p.count p.region.places c.args.id below is.0.2 ∙ c.lend.ensures
