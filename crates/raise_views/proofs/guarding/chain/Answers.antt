use Rattle.std.proofs.Common.{◌∙◌}
use Rattle.raise_operands.specs.Building.{step_of}
use Rattle.raise_operands.specs.Vectors.{spaces_of}
use Rattle.raise_views.specs.Giving.{given_word}
use Rattle.raise_views.specs.Guarding.{results, work_by, writes}
use Rattle.raise_views.proofs.Growing.{as_step, at_most, grows_on}
use Rattle.raise_views.proofs.Worked.{all_behind, behind_same, writes_same}
use Rattle.raise_views.proofs.guarding.chain.Goals as goal

pub returns-clause-grows : goal.returns-clause-grows
returns-clause-grows c = grows_on _ _ _ _ _ _ c.work-next.ensures.grows c.results.ensures.grows (at_most _ _)

pub returns-clause-makes : goal.returns-clause-makes
returns-clause-makes c =
    let m = c.args.meaning in
    let p = c.args.program.now.shader in
    let i = c.args.os.now.instruction in
    let g = spaces_of p in
    let w = work_by m c.args.null p i in
    as_step _ _ _ _ c.results.ensures.makes
    (behind_same _ _ _ _ c.work-next.ensures.makes.term (writes_same g i (given_word c.args.given) w.values (results m i) c.requires.words)
    ∙ all_behind (step_of c.args.tree.now.nodes c.args.front) w.kept w.parts (writes g i w.values (results m i)))
