use Rattle.std.proofs.Common.{ℕ, ap, ◌∙◌, arith}
use Rattle.node_pool.specs.Pools.{Pooled}
use Rattle.kept_values.specs.Numbers.{has}
use Rattle.kept_values.proofs.Indexed.{by_place, past, beyond}
use Rattle.kept_values.proofs.numbers.Numbers.has.Goals as goal

pub returns-then-number-len-clause-has : goal.returns-then-number-len-clause-has
returns-then-number-len-clause-has c =
    beyond c.self.inside.places.list _ c.args.number c.self.invariant.3 (omega (arith, c.len.ensures.len, c.if-number-len.true))
    ∙ ap (λ (p : Pooled ℕ). has p.list c.args.number) c.self.view_is

pub returns-then-place-self-clause-has : goal.returns-then-place-self-clause-has
returns-then-place-self-clause-has c =
    past c.self.inside.places.list c.self.inside.items.list c.self.inside.count c.args.number c.get-place.result c.self.invariant.3 c.get-place.ensures
    c.if-place-self.true
    ∙ ap (λ (p : Pooled ℕ). has p.list c.args.number) c.self.view_is

pub returns-clause-has : goal.returns-clause-has
returns-clause-has c =
    by_place c.self.inside.places.list c.self.inside.items.list c.self.inside.count c.args.number c.get-place.result c.get.result c.self.invariant.3
    c.get-place.ensures c.get.ensures c.if-place-self.false
    ∙ ap (λ (p : Pooled ℕ). has p.list c.args.number) c.self.view_is
