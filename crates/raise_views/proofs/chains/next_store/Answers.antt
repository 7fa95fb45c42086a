use Rattle.std.proofs.Common.{sym, arith, ◌∙◌}
use Rattle.raise_views.proofs.Growing.{as_step, grows_on, next_is, step_itself, step_on}
use Rattle.raise_views.proofs.chains.next_store.Goals as goal

pub then-requires-clause-front : goal.then-requires-clause-front
then-requires-clause-front c = step_itself _ _ _ (step_on _ _ _ _ c.store_part-part.ensures.grows.extends c.requires.front)

pub returns-then-in_mask-clause-grows : goal.returns-then-in_mask-clause-grows
returns-then-in_mask-clause-grows c = grows_on _ _ _ _ _ _ c.store_part-part.ensures.grows c.then.ensures.grows (omega arith)

pub returns-then-in_mask-clause-makes : goal.returns-then-in_mask-clause-makes
returns-then-in_mask-clause-makes c =
    let s = step_on _ _ _ _ c.store_part-part.ensures.grows.extends c.requires.front in
    as_step _ _ _ _ c.then.ensures.makes (next_is _ _ _ _ _ (sym c.in_mask.ensures ∙ c.if-in_mask.true) s.term c.store_part-part.ensures.makes.term)
