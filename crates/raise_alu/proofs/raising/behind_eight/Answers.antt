use Rattle.std.proofs.Common.{refl}
use Rattle.raise_alu.proofs.Chained.{four_on, fours_on}
use Rattle.raise_alu.proofs.raising.behind_eight.Goals as goal

pub behind_four-requires-clause-four : goal.behind_four-requires-clause-four
behind_four-requires-clause-four c = four_on c.growing_laws.ensures _ _ _ c.behind_four-front.ensures.grows.extends c.requires.next

pub returns-clause-grows : goal.returns-clause-grows
returns-clause-grows c = c.growing_laws.ensures.grows_on _ _ _ _ _ _ c.behind_four-front.ensures.grows c.behind_four.ensures.grows refl

pub returns-clause-makes : goal.returns-clause-makes
returns-clause-makes c =
    let e = c.behind_four-front.ensures.grows.extends in
    c.growing_laws.ensures.as_step _ _ _ _ c.behind_four.ensures.makes
    (fours_on c.growing_laws.ensures _ _ _ _ _ e c.requires.next c.behind_four-front.ensures.makes.term)
