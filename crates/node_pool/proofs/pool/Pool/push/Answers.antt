use Rattle.std.proofs.Common.{◌<◌, [], ◌∷◌, ◌++◌, length, Some, set, ◌+◌, ap, ◌∙◌, arith, length-set, length-append}
use Rattle.node_pool.specs.Pools.{Pooled}
use Rattle.node_pool.specs.Places.{stored}
use Rattle.node_pool.proofs.Stored.{stored_next}
use Rattle.node_pool.proofs.pool.Pool.push.Goals as goal

pub invariant_of-self : goal.invariant_of-self
invariant_of-self g c =
    let p = c.self.inside in let is = c.self.invariant in let wrote = c.write.ensures in
    let x = c.args.value in let places = set p.region.places p.count (Some x) in
    let lists = ap (λ (s : Pooled g.row.T.Denot). length s.list) c.self.view_is in let room = ap (λ (s : Pooled g.row.T.Denot). s.capacity) c.self.view_is in
    let free : p.count < length p.region.places = omega (arith, lists, room, is.0.0, is.0.2, c.requires) in
    let long = ap length (ap (stored (p.count + 1)) wrote.1 ∙ stored_next p.count p.region.places x free is.0.2) in
    ((ap length wrote.1 ∙ length-set p.region.places p.count (Some x) ∙ is.0.0, omega (arith, free, is.0.0), omega (arith, long, length-append (stored p.count p.region.places) (x ∷ []), is.0.2)), wrote.0 ∙ is.1, is.2, is.3, is.4)

pub returns-clause-list : goal.returns-clause-list
returns-clause-list g c =
    let p = c.self.inside in let is = c.self.invariant in let wrote = c.write.ensures in let x = c.args.value in
    let lists = ap (λ (s : Pooled g.row.T.Denot). length s.list) c.self.view_is in let room = ap (λ (s : Pooled g.row.T.Denot). s.capacity) c.self.view_is in
    let free : p.count < length p.region.places = omega (arith, lists, room, is.0.0, is.0.2, c.requires) in
    ap (stored (p.count + 1)) wrote.1 ∙ stored_next p.count p.region.places x free is.0.2 ∙ ap (λ (s : Pooled g.row.T.Denot). s.list ++ x ∷ []) c.self.view_is
