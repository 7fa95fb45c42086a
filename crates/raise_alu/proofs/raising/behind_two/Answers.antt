use Rattle.raise_alu.proofs.Chained.{followed_both}
use Rattle.raise_alu.proofs.raising.behind_two.Goals as goal

pub followed-requires-clause-b : goal.followed-requires-clause-b
followed-requires-clause-b c = c.growing_laws.ensures.step_on_itself _ _ _ _ c.followed-front.ensures.grows.extends c.requires.b

pub returns-clause-makes : goal.returns-clause-makes
returns-clause-makes c =
    let b = c.growing_laws.ensures.step_on _ _ _ _ c.followed-front.ensures.grows.extends c.requires.b in
    c.growing_laws.ensures.as_step _ _ _ _ c.followed.ensures.makes (followed_both _ _ _ _ c.followed-front.ensures.makes.term b.term)
