use Rattle.std.proofs.Common.{ap, arith, ◌∙◌}
use Rattle.raise_views.specs.Reaching.{keep}
use Rattle.raise_views.proofs.Growing.{as_step, extends_on, grows_on, step_itself, step_on, value_itself, value_on}
use Rattle.raise_views.proofs.Joining.{followed_is}
use Rattle.raise_views.proofs.keeping.located.Goals as goal

pub keep-front-requires-clause-front : goal.keep-front-requires-clause-front
keep-front-requires-clause-front c = step_itself _ _ _ (step_on _ _ _ _ c.quarter-word.ensures.grows.extends c.requires.front)

pub keep-front-requires-clause-value : goal.keep-front-requires-clause-value
keep-front-requires-clause-value c = value_itself _ _ _ c.quarter-word.ensures.makes

pub keep-front-requires-2-clause-front : goal.keep-front-requires-2-clause-front
keep-front-requires-2-clause-front c = step_itself _ _ _ c.keep-front.ensures.makes

pub keep-front-requires-2-clause-value : goal.keep-front-requires-2-clause-value
keep-front-requires-2-clause-value c =
    value_itself _ _ _ (value_on _ _ _ _ (extends_on _ _ _ c.quarter-word.ensures.grows.extends c.keep-front.ensures.grows.extends) c.requires.index)

pub returns-clause-grows : goal.returns-clause-grows
returns-clause-grows c =
    let a = grows_on _ _ _ _ _ 3 c.quarter-word.ensures.grows c.keep-front.ensures.grows (omega arith) in
    grows_on _ _ _ _ _ _ a c.keep-front-2.ensures.grows (omega arith)

pub returns-clause-front : goal.returns-clause-front
returns-clause-front c =
    let s = step_on _ _ _ _ c.quarter-word.ensures.grows.extends c.requires.front in
    let i = value_on _ _ _ _ (extends_on _ _ _ c.quarter-word.ensures.grows.extends c.keep-front.ensures.grows.extends) c.requires.index in
    let first = c.keep-front.ensures.makes.term ∙ followed_is _ _ _ _ s.term (ap (λ t. keep 10 t) c.quarter-word.ensures.makes.term) in
    as_step _ _ _ _ c.keep-front-2.ensures.makes (followed_is _ _ _ _ first (ap (λ t. keep 11 t) i.term))
