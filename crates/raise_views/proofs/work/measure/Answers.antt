use Rattle.std.proofs.Common.{sym, ap, ◌∙◌}
use Rattle.tpf_program.specs.Sizes.{addressing_of}
use Rattle.raise_views.proofs.Growing.{as_step, extends_on, step_itself, step_on}
use Rattle.raise_views.proofs.Worked.{measured_is}
use Rattle.raise_views.proofs.work.measure.Goals as goal

pub then-requires-clause-front : goal.then-requires-clause-front
then-requires-clause-front c =
    step_itself _ _ _ (step_on _ _ _ _ (extends_on _ _ _ c.length_of-value.ensures.grows.extends c.stmt-next.ensures.grows.extends) c.requires.front)

pub returns-clause-makes : goal.returns-clause-makes
returns-clause-makes c =
    let e = extends_on _ _ _ c.length_of-value.ensures.grows.extends c.stmt-next.ensures.grows.extends in
    let s = step_on _ _ _ _ e c.requires.front in
    let p = c.args.program.now.shader in
    let a = c.args.at in
    let way = c.view.ensures ∙ ap (λ ts. addressing_of ts a.kind a.slot p.declarations) (sym c.requires.typed) in
    as_step _ _ _ _ c.then.ensures.makes
    (measured_is c.args.null _ _ _ _ c.view.result _ _ _ c.if-null.false s.term way c.room_of.ensures c.stmt-next.ensures.makes.term
    c.length_of-value.ensures.makes.term)
