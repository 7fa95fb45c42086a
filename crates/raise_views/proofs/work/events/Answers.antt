use Rattle.std.proofs.Common.{arith}
use Rattle.raise_views.proofs.Growing.{as_step, grows_on}
use Rattle.raise_views.proofs.Worked.{behind_same, parts_same, way_same}
use Rattle.raise_views.proofs.work.events.Goals as goal

pub returns-clause-grows : goal.returns-clause-grows
returns-clause-grows c =
    let r = c.reach-front.ensures in
    let same = way_same c.args.meaning c.args.program.now.shader c.args.os.now.instruction _ c.args.os.now r.reach in
    grows_on _ _ _ _ _ _ r.grows c.parts.ensures.grows (omega (arith, same))

pub returns-clause-makes : goal.returns-clause-makes
returns-clause-makes c =
    let m = c.args.meaning in
    let p = c.args.program.now.shader in
    let i = c.args.os.now.instruction in
    let r = c.reach-front.ensures in
    as_step _ _ _ _ c.parts.ensures.makes
    (behind_same _ _ _ _ r.front.term (parts_same m p i _ r.reach))
