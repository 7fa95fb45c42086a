use Rattle.std.proofs.Common.{ℕ, ◌+◌, ◌∷◌, ◌++◌, [], length, take, ap, ◌∙◌, arith, length-set}
use Rattle.node_pool.specs.Pools.{Pooled}
use Rattle.kept_values.specs.Numbers.{has}
use Rattle.kept_values.proofs.Indexed.{added}
use Rattle.kept_values.proofs.numbers.Numbers.add.Goals as goal

pub set-requires-2 : goal.set-requires-2
set-requires-2 c =
    let p = c.self.inside in let is = c.self.invariant in
    let cap = ap (λ (v : Pooled ℕ). v.capacity) c.self.view_is in
    (added p.places.list p.items.list p.count c.args.number is.0 is.1 is.3
    (ap (λ (v : Pooled ℕ). has v.list c.args.number) c.self.view_is ∙ c.requires.absent) (omega (arith, cap, c.requires.within))).free

pub overflow_add-self : goal.overflow_add-self
overflow_add-self c =
    let p = c.self.inside in let is = c.self.invariant in
    let cap = ap (λ (v : Pooled ℕ). v.capacity) c.self.view_is in
    let free = (added p.places.list p.items.list p.count c.args.number is.0 is.1 is.3
    (ap (λ (v : Pooled ℕ). has v.list c.args.number) c.self.view_is ∙ c.requires.absent) (omega (arith, cap, c.requires.within))).free in
    omega (arith, free, is.0, is.2)

pub invariant_of-self : goal.invariant_of-self
invariant_of-self c =
    let p = c.self.inside in let is = c.self.invariant in let n = c.args.number in
    let cap = ap (λ (v : Pooled ℕ). v.capacity) c.self.view_is in
    let more = added p.places.list p.items.list p.count n is.0 is.1 is.3
    (ap (λ (v : Pooled ℕ). has v.list n) c.self.view_is ∙ c.requires.absent) (omega (arith, cap, c.requires.within)) in
    let places = ap length c.set.ensures.list ∙ length-set p.places.list n p.count in
    let items = ap length c.set-2.ensures.list ∙ length-set p.items.list p.count n in (
      omega (arith, places, items, is.0),
      omega (arith, items, more.free),
      omega (arith, places, is.2),
      rw (c.set.ensures.list, c.set-2.ensures.list) more.indexed,
    )

pub returns-clause-list : goal.returns-clause-list
returns-clause-list c =
    let p = c.self.inside in let is = c.self.invariant in let n = c.args.number in
    let cap = ap (λ (v : Pooled ℕ). v.capacity) c.self.view_is in
    let more = added p.places.list p.items.list p.count n is.0 is.1 is.3
    (ap (λ (v : Pooled ℕ). has v.list n) c.self.view_is ∙ c.requires.absent) (omega (arith, cap, c.requires.within)) in
    ap (take (p.count + 1)) c.set-2.ensures.list ∙ (more.list ∙ ap (λ (v : Pooled ℕ). v.list ++ n ∷ []) c.self.view_is)
