use Rattle.std.proofs.Common.{◌∙◌}
use Rattle.raise_views.proofs.Growing.{as_step, step_itself, step_on}
use Rattle.raise_views.proofs.Joining.{followed_is}
use Rattle.raise_views.proofs.Worked.{sync_same}
use Rattle.raise_views.proofs.work.sync.Goals as goal

pub then-requires-clause-front : goal.then-requires-clause-front
then-requires-clause-front c = step_itself _ _ _ (step_on _ _ _ _ c.stmt-next.ensures.grows.extends c.requires.front)

pub returns-clause-makes : goal.returns-clause-makes
returns-clause-makes c =
    let s = step_on _ _ _ _ c.stmt-next.ensures.grows.extends c.requires.front in
    as_step _ _ _ _ c.then.ensures.makes
    (followed_is _ _ _ _ s.term
    (c.stmt-next.ensures.makes.term ∙ sync_same _ _ _ _ _ _ c.has_bit-threads.ensures c.scope_of-scope.ensures c.classes_of-classes.ensures))
