use Rattle.std.proofs.Common.{arith, ◌∙◌}
use Rattle.shader_tree.specs.Nodes.{AWord}
use Rattle.raise_views.proofs.Growing.{as_step, at_most, extends_on, grows_on, node_on, step_itself, step_on}
use Rattle.raise_views.proofs.Joining.{followed_is, part_same}
use Rattle.raise_views.proofs.events.atomic_one.Goals as goal

pub then-requires-clause-front : goal.then-requires-clause-front
then-requires-clause-front c =
    let e = extends_on _ _ _ (extends_on _ _ _ (extends_on _ _ _ c.source-a.ensures.grows.extends c.id_of-a.ensures.grows.extends)
    c.expr-b.ensures.grows.extends) c.atomic_part-part.ensures.grows.extends in
    step_itself _ _ _ (step_on _ _ _ _ e c.requires.front)

pub returns-clause-grows : goal.returns-clause-grows
returns-clause-grows c =
    let two = grows_on _ _ _ _ _ _ c.source-a.ensures.grows c.id_of-a.ensures.grows (at_most _ _) in
    let three = grows_on _ _ _ _ _ _ two c.expr-b.ensures.grows (at_most _ _) in
    let four = grows_on _ _ _ _ _ _ three c.atomic_part-part.ensures.grows (at_most _ _) in
    grows_on _ _ _ _ _ _ four c.then.ensures.grows (omega arith)

pub returns-clause-makes : goal.returns-clause-makes
returns-clause-makes c =
    let e = extends_on _ _ _ (extends_on _ _ _ (extends_on _ _ _ c.source-a.ensures.grows.extends c.id_of-a.ensures.grows.extends)
    c.expr-b.ensures.grows.extends) c.atomic_part-part.ensures.grows.extends in
    let s = step_on _ _ _ _ e c.requires.front in
    let a = node_on _ _ AWord _ _ c.expr-b.ensures.grows.extends c.id_of-a.ensures.makes in
    as_step _ _ _ _ c.then.ensures.makes
    (followed_is _ _ _ _ s.term
    (c.atomic_part-part.ensures.makes.term ∙ part_same c.args.reach c.args.kind c.args.answers _ _ _ _ (a.term ∙ c.source-a.ensures.makes.term)
    c.expr-b.ensures.makes.term))
