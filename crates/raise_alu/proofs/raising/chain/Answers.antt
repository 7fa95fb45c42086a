use Rattle.std.proofs.Common.{◌≡◌, true, sym, ◌∙◌}
use Rattle.raise_alu.specs.Computing.{is_double}
use Rattle.raise_alu.proofs.Chained.{all_double, double_more, four_on, fours_on}
use Rattle.raise_alu.proofs.raising.chain.Goals as goal

pub behind_eight-requires-clause-four : goal.behind_eight-requires-clause-four
behind_eight-requires-clause-four c =
    four_on c.growing_laws.ensures _ _ _ c.behind_eight-now.ensures.grows.extends c.requires.steps.first_behind'

pub behind_eight-requires-clause-next : goal.behind_eight-requires-clause-next
behind_eight-requires-clause-next c = four_on c.growing_laws.ensures _ _ _ c.behind_eight-now.ensures.grows.extends c.requires.steps.second_behind'

pub returns-then-is_double-clause-grows : goal.returns-then-is_double-clause-grows
returns-then-is_double-clause-grows c =
    let double : is_double c.args.meaning ≡ true = sym c.is_double.ensures ∙ c.if-is_double.true in
    c.growing_laws.ensures.grows_on _ _ _ _ _ _ c.behind_eight-now.ensures.grows c.behind_eight.ensures.grows (double_more c.args.meaning double)

pub returns-then-is_double-clause-makes : goal.returns-then-is_double-clause-makes
returns-then-is_double-clause-makes c =
    let e = c.behind_eight-now.ensures.grows.extends in
    let s = c.requires.steps in
    let l = c.growing_laws.ensures in
    let double : is_double c.args.meaning ≡ true = sym c.is_double.ensures ∙ c.if-is_double.true in
    l.as_step _ _ _ _ c.behind_eight.ensures.makes
    (fours_on l _ _ _ _ _ e s.second_behind' (fours_on l _ _ _ _ _ e s.first_behind' c.behind_eight-now.ensures.makes.term)
    ∙ sym (all_double c.args.tree.now.nodes c.args.meaning c.args.components.now _ double))
