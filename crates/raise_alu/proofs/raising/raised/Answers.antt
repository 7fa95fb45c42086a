use Rattle.std.proofs.Common.{refl, sym, ap, arith, ◌∙◌}
use Rattle.raise_alu.specs.Waits.{parts_most}
use Rattle.raise_operands.specs.Building.{front_of}
use Rattle.raise_operands.specs.Raising.{raised_by}
use Rattle.raise_operands.specs.Vectors.{spaces_of}
use Rattle.raise_alu.proofs.Chained.{all_is}
use Rattle.raise_alu.proofs.Counted.{parts_few}
use Rattle.raise_alu.proofs.raising.raised.Goals as goal

pub components-components-requires-clause-room : goal.components-components-requires-clause-room
components-components-requires-clause-room c =
    let b = c.begin-begun.ensures in
    let p = parts_few _ _ c.args.meaning c.begin-begun.result.0 b.operands in
    let same = ap (λ i. parts_most c.args.meaning i) b.instruction in
    omega (arith, p, same, b.grows.few, b.grows.capacity, c.requires.room)

pub statement-requires-clause-front : goal.statement-requires-clause-front
statement-requires-clause-front c = c.growing_laws.ensures.step_on_itself _ _ _ _ c.components-components.ensures.grows.extends
    c.begin-begun.ensures.front

pub statement-requires-clause-room : goal.statement-requires-clause-room
statement-requires-clause-room c =
    let b = c.begin-begun.ensures in
    let p = parts_few _ _ c.args.meaning c.begin-begun.result.0 b.operands in
    let same = ap (λ i. parts_most c.args.meaning i) b.instruction in
    let g = c.components-components.ensures.grows in
    omega (arith, p, same, b.grows.few, b.grows.capacity, g.few, g.capacity, c.requires.room)

pub returns-clause-grows : goal.returns-clause-grows
returns-clause-grows c =
    let b = c.begin-begun.ensures in
    let p = parts_few _ _ c.args.meaning c.begin-begun.result.0 b.operands in
    let same = ap (λ i. parts_most c.args.meaning i) b.instruction in
    let more = c.growing_laws.ensures.grows_more _ _ _ (parts_most c.args.meaning c.args.instruction) c.components-components.ensures.grows
    (omega (arith, p, same)) in
    c.growing_laws.ensures.grows_on _ _ _ _ _ _ (c.growing_laws.ensures.grows_on _ _ _ _ _ _ b.grows more refl) c.statement.ensures.grows refl

pub returns-clause-makes : goal.returns-clause-makes
returns-clause-makes c =
    let g = spaces_of c.args.program.now.shader in
    let m = c.args.meaning in
    let b = c.begin-begun.ensures in
    let i = c.begin-begun.result.0.instruction in
    let front = c.growing_laws.ensures.step_on _ _ _ _ c.components-components.ensures.grows.extends b.front in
    c.growing_laws.ensures.as_term _ _ _ _ (raised_by m g c.args.instruction) c.statement.ensures.makes
    (all_is _ m g i c.components-components.result _ c.components-components.ensures.components
    (front.term ∙ ap (λ x. front_of g x) (sym b.instruction))
    ∙ ap (λ x. raised_by m g x) b.instruction)
