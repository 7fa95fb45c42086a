use Rattle.std.proofs.Common.{sym, ap, arith, ◌∙◌}
use Rattle.raise_views.specs.Reaching.{load_of}
use Rattle.raise_views.proofs.Growing.{as_step, grows_on, next_is, step_itself, step_on}
use Rattle.raise_views.proofs.chains.next_bare.Goals as goal

pub then-requires-clause-front : goal.then-requires-clause-front
then-requires-clause-front c = step_itself _ _ _ (step_on _ _ _ _ c.load_bare-part.ensures.grows.extends c.requires.front)

pub returns-then-is_written-clause-grows : goal.returns-then-is_written-clause-grows
returns-then-is_written-clause-grows c = grows_on _ _ _ _ _ _ c.load_bare-part.ensures.grows c.then.ensures.grows (omega arith)

pub returns-then-is_written-clause-makes : goal.returns-then-is_written-clause-makes
returns-then-is_written-clause-makes c =
    let s = step_on _ _ _ _ c.load_bare-part.ensures.grows.extends c.requires.front in
    as_step _ _ _ _ c.then.ensures.makes (next_is _ _ _ _ _ (sym c.is_written.ensures ∙ c.if-is_written.true) s.term
    (c.load_bare-part.ensures.makes.term ∙ ap (λ x. load_of c.args.reach c.args.d x) c.selected.ensures.component))
