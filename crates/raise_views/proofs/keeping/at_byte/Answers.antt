use Rattle.std.proofs.Common.{refl}
use Rattle.raise_views.proofs.Joining.{kept_same}
use Rattle.shader_tree.specs.Terms.{Word}
use Rattle.raise_views.specs.declared.address.Way.TheVariants.{Bytes}
use Rattle.raise_views.proofs.Growing.{as_step, step_itself, step_on}
use Rattle.raise_views.proofs.keeping.at_byte.Goals as goal

pub located-requires-clause-front : goal.located-requires-clause-front
located-requires-clause-front c = step_itself _ _ _ (step_on _ _ _ _ c.source-word.ensures.grows.extends c.requires.front)

pub returns-clause-front : goal.returns-clause-front
returns-clause-front c =
    let s = step_on _ _ _ _ c.source-word.ensures.grows.extends c.requires.front in
    as_step _ _ _ _ c.located.ensures.front (kept_same _ _ Bytes _ _ (Word 0) _ s.term c.source-word.ensures.makes.term refl)
