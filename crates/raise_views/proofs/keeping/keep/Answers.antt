use Rattle.std.proofs.Common.{sym, ◌∙◌}
use Rattle.raise_views.proofs.Growing.{as_step, keep_node, step_itself, step_on}
use Rattle.raise_views.proofs.Joining.{followed_is}
use Rattle.raise_views.proofs.keeping.keep.Goals as goal

pub then-requires-clause-front : goal.then-requires-clause-front
then-requires-clause-front c = step_itself _ _ _ (step_on _ _ _ _ c.stmt-next.ensures.grows.extends c.requires.front)

pub returns-in-Node-clause-makes : goal.returns-in-Node-clause-makes
returns-in-Node-clause-makes c =
    let s = step_on _ _ _ _ c.stmt-next.ensures.grows.extends c.requires.front in
    let k = keep_node c.args.tree.now.nodes c.args.value _ c.args.scratch c.in-Node.is c.requires.value in
    as_step _ _ _ _ c.then.ensures.makes (followed_is _ _ _ _ s.term (c.stmt-next.ensures.makes.term ∙ sym k))
