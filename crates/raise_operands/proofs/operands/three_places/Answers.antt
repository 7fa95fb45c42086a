use Rattle.std.proofs.Common.{refl, arith}
use Rattle.raise_operands.specs.Building.{indexed_by}
use Rattle.raise_operands.proofs.Begun.{begun_most}
use Rattle.raise_operands.proofs.Growing.{extends_on, grows_on, grows_more, operand_of_on}
use Rattle.raise_operands.proofs.operands.three_places.Goals as goal

pub place-front-requires-2-clause-room : goal.place-front-requires-2-clause-room
place-front-requires-2-clause-room c =
    let g = c.place-front.ensures.grows in
    omega (arith, g.few, g.capacity, c.requires.room, begun_most (indexed_by c.args.instruction.now.o1) c.place-front.result.1)

pub place-front-requires-3-clause-room : goal.place-front-requires-3-clause-room
place-front-requires-3-clause-room c =
    let g = c.place-front.ensures.grows in
    let h = c.place-front-2.ensures.grows in
    omega (
      arith,
      g.few,
      g.capacity,
      h.few,
      h.capacity,
      c.requires.room,
      begun_most (indexed_by c.args.instruction.now.o1) c.place-front.result.1,
      begun_most (indexed_by c.args.instruction.now.o2) c.place-front-2.result.1,
    )

pub returns-clause-grows : goal.returns-clause-grows
returns-clause-grows c =
    let h = grows_more _ _ _ _ c.place-front-2.ensures.grows (begun_most (indexed_by c.args.instruction.now.o1) c.place-front.result.1) in
    let k = grows_more _ _ _ _ c.place-front-3.ensures.grows (begun_most (indexed_by c.args.instruction.now.o2) c.place-front-2.result.1) in
    grows_on _ _ _ _ _ _ (grows_on _ _ _ _ _ _ c.place-front.ensures.grows h refl) k refl

pub returns-clause-o0 : goal.returns-clause-o0
returns-clause-o0 c =
    let later = extends_on _ _ _ c.place-front-2.ensures.grows.extends c.place-front-3.ensures.grows.extends in
    operand_of_on _ _ _ _ _ _ later c.place-front.ensures.operand

pub returns-clause-o1 : goal.returns-clause-o1
returns-clause-o1 c = operand_of_on _ _ _ _ _ _ c.place-front-3.ensures.grows.extends c.place-front-2.ensures.operand
