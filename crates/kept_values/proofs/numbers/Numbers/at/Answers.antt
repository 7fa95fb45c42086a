use Rattle.std.proofs.Common.{ℕ, ◌<◌, length, take, ap, ◌∙◌, sym, arith}
use Rattle.std.proofs.lemmas.List.{length-take}
use Rattle.node_pool.specs.Pools.{Pooled}
use Rattle.kept_values.specs.Numbers.{has}
use Rattle.kept_values.proofs.Indexed.{has_from, within, at_take}
use Rattle.kept_values.proofs.numbers.Numbers.at.Goals as goal

pub returns-clause-has : goal.returns-clause-has
returns-clause-has c =
    let p = c.self.inside in
    let few = ap (λ (v : Pooled ℕ). length v.list) c.self.view_is in
    let below : c.args.place < p.count = omega (arith, few, c.requires, length-take p.count p.items.list) in
    sym (ap (λ (v : Pooled ℕ). has v.list c.get.result) c.self.view_is)
    ∙ has_from (take p.count p.items.list) c.args.place c.get.result (at_take p.count p.items.list c.args.place below ∙ c.get.ensures)

pub returns-clause-within : goal.returns-clause-within
returns-clause-within c =
    let p = c.self.inside in
    let few = ap (λ (v : Pooled ℕ). length v.list) c.self.view_is in
    let below : c.args.place < p.count = omega (arith, few, c.requires, length-take p.count p.items.list) in
    let cap = ap (λ (v : Pooled ℕ). v.capacity) c.self.view_is in
    let lt = within p.places.list (take p.count p.items.list) c.get.result c.self.invariant.3
    (has_from (take p.count p.items.list) c.args.place c.get.result (at_take p.count p.items.list c.args.place below ∙ c.get.ensures)) in
    omega (arith, lt, cap)
