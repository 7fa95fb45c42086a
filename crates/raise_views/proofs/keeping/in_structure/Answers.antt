use Rattle.raise_views.specs.declared.address.Way.TheVariants.{Structures}
use Rattle.raise_views.proofs.Joining.{address_same, kept_same}
use Rattle.std.proofs.Common.{arith, ◌∙◌}
use Rattle.raise_views.proofs.Growing.{as_step, at_most, extends_on, grows_on, step_itself, step_on, value_itself, value_on}
use Rattle.raise_views.proofs.keeping.in_structure.Goals as goal

pub located-requires-clause-front : goal.located-requires-clause-front
located-requires-clause-front c =
    step_itself _ _ _ (step_on _ _ _ _ (extends_on _ _ _ c.source-first.ensures.grows.extends c.source-second.ensures.grows.extends) c.requires.front)

pub located-requires-clause-index : goal.located-requires-clause-index
located-requires-clause-index c = value_itself _ _ _ (value_on _ _ _ _ c.source-second.ensures.grows.extends c.source-first.ensures.makes)

pub returns-clause-grows : goal.returns-clause-grows
returns-clause-grows c =
    let two = grows_on _ _ _ _ _ _ c.source-first.ensures.grows c.source-second.ensures.grows (at_most _ _) in
    grows_on _ _ _ _ _ _ two c.located.ensures.grows (omega arith)

pub returns-clause-address : goal.returns-clause-address
returns-clause-address c =
    let i = value_on _ _ _ _ c.source-second.ensures.grows.extends c.source-first.ensures.makes in
    c.located.ensures.address ∙ address_same (Structures c.args.words) _ _ _ _ c.source-second.ensures.makes.term i.term

pub returns-clause-front : goal.returns-clause-front
returns-clause-front c =
    let i = value_on _ _ _ _ c.source-second.ensures.grows.extends c.source-first.ensures.makes in
    let s = step_on _ _ _ _ (extends_on _ _ _ c.source-first.ensures.grows.extends c.source-second.ensures.grows.extends) c.requires.front in
    as_step _ _ _ _ c.located.ensures.front (kept_same _ _ (Structures c.args.words) _ _ _ _ s.term c.source-second.ensures.makes.term i.term)
