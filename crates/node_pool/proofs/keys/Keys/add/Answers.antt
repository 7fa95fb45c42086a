use Rattle.std.proofs.Common.{sym, subst, ap, ◌∙◌}
use Rattle.std.specs.Prelude.{Contains}
use Rattle.node_pool.specs.declared.key.Key.{Key}
use Rattle.node_pool.specs.Pools.{Pooled}
use Rattle.node_pool.proofs.KeyWalks.{distinct_more}
use Rattle.node_pool.proofs.keys.Keys.add.Goals as goal

pub invariant_of-self : goal.invariant_of-self
invariant_of-self c = rw c.push-i.ensures.list (record {
  distinct = distinct_more c.self.inside.keys.list c.args.key c.self.invariant.distinct
      (λ h. c.requires.absent (subst (λ l. Contains l c.args.key) (ap (λ (p : Pooled Key). p.list) c.self.view_is) h));
  tree = c.plant.ensures.tree;
  room = c.plant.ensures.capacity ∙ c.self.invariant.room ∙ sym c.push-i.ensures.capacity;
})
