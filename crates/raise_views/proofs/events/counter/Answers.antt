use Rattle.std.proofs.Common.{◌∙◌}
use Rattle.shader_tree.specs.Nodes.{AWord}
use Rattle.raise_views.proofs.Growing.{as_step, extends_on, node_on, step_itself, step_on, three}
use Rattle.raise_views.proofs.Joining.{atomic_same, followed_is}
use Rattle.raise_views.proofs.events.counter.Goals as goal

pub stmt-next-requires-clause-fits : goal.stmt-next-requires-clause-fits
stmt-next-requires-clause-fits c =
    let word = node_on _ _ AWord _ _ (extends_on _ _ _ c.expr-a.ensures.grows.extends c.expr-b.ensures.grows.extends) c.expr-word.ensures.makes in
    let a = node_on _ _ AWord _ _ c.expr-b.ensures.grows.extends c.expr-a.ensures.makes in
    three _ _ _ word.sorted a.sorted c.expr-b.ensures.makes.sorted

pub then-requires-clause-front : goal.then-requires-clause-front
then-requires-clause-front c =
    let e = extends_on _ _ _ (extends_on _ _ _ (extends_on _ _ _ c.expr-word.ensures.grows.extends c.expr-a.ensures.grows.extends)
    c.expr-b.ensures.grows.extends) c.stmt-next.ensures.grows.extends in
    step_itself _ _ _ (step_on _ _ _ _ e c.requires.front)

pub returns-clause-makes : goal.returns-clause-makes
returns-clause-makes c =
    let e = extends_on _ _ _ (extends_on _ _ _ (extends_on _ _ _ c.expr-word.ensures.grows.extends c.expr-a.ensures.grows.extends)
    c.expr-b.ensures.grows.extends) c.stmt-next.ensures.grows.extends in
    let s = step_on _ _ _ _ e c.requires.front in
    let word = node_on _ _ AWord _ _ (extends_on _ _ _ c.expr-a.ensures.grows.extends c.expr-b.ensures.grows.extends) c.expr-word.ensures.makes in
    let a = node_on _ _ AWord _ _ c.expr-b.ensures.grows.extends c.expr-a.ensures.makes in
    as_step _ _ _ _ c.then.ensures.makes
    (followed_is _ _ _ _ s.term (c.stmt-next.ensures.makes.term ∙ atomic_same 12 c.args.room c.args.kind _ _ _ _ _ _ word.term a.term
    c.expr-b.ensures.makes.term))
