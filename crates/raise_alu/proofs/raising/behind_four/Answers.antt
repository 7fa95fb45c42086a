use Rattle.std.proofs.Common.{refl}
use Rattle.raise_alu.proofs.Chained.{followed_both}
use Rattle.raise_alu.proofs.raising.behind_four.Goals as goal

pub behind_two-requires-clause-a : goal.behind_two-requires-clause-a
behind_two-requires-clause-a c = c.growing_laws.ensures.step_on_itself _ _ _ _ c.behind_two-front.ensures.grows.extends c.requires.four.z

pub behind_two-requires-clause-b : goal.behind_two-requires-clause-b
behind_two-requires-clause-b c = c.growing_laws.ensures.step_on_itself _ _ _ _ c.behind_two-front.ensures.grows.extends c.requires.four.w

pub returns-clause-grows : goal.returns-clause-grows
returns-clause-grows c = c.growing_laws.ensures.grows_on _ _ _ _ _ _ c.behind_two-front.ensures.grows c.behind_two.ensures.grows refl

pub returns-clause-makes : goal.returns-clause-makes
returns-clause-makes c =
    let x = c.growing_laws.ensures.step_on _ _ _ _ c.behind_two-front.ensures.grows.extends c.requires.four.z in
    let y = c.growing_laws.ensures.step_on _ _ _ _ c.behind_two-front.ensures.grows.extends c.requires.four.w in
    c.growing_laws.ensures.as_step _ _ _ _ c.behind_two.ensures.makes
    (followed_both _ _ _ _ (followed_both _ _ _ _ c.behind_two-front.ensures.makes.term x.term) y.term)
