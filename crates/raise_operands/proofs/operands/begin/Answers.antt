use Rattle.std.proofs.Common.{refl, arith}
use Rattle.raise_operands.specs.Building.{indexed_by}
use Rattle.raise_operands.proofs.Begun.{begun_most}
use Rattle.raise_operands.proofs.Growing.{extends_on, grows_on, grows_more, operand_of_on}
use Rattle.raise_operands.proofs.operands.begin.Goals as goal

pub place-front-requires-clause-room : goal.place-front-requires-clause-room
place-front-requires-clause-room c =
    let g = c.three_places-front.ensures.grows in
    omega (arith, g.few, g.capacity, c.requires.room, begun_most (indexed_by c.args.instruction.o3) c.three_places-front.result.3)

pub place-front-requires-2-clause-room : goal.place-front-requires-2-clause-room
place-front-requires-2-clause-room c =
    let g = c.three_places-front.ensures.grows in
    let h = c.place-front.ensures.grows in
    omega (
      arith,
      g.few,
      g.capacity,
      h.few,
      h.capacity,
      c.requires.room,
      begun_most (indexed_by c.args.instruction.o3) c.three_places-front.result.3,
      begun_most (indexed_by c.args.instruction.o4) c.place-front.result.1,
    )

pub returns-clause-grows : goal.returns-clause-grows
returns-clause-grows c =
    let h = grows_more _ _ _ _ c.place-front.ensures.grows (begun_most (indexed_by c.args.instruction.o3) c.three_places-front.result.3) in
    let k = grows_more _ _ _ _ c.place-front-2.ensures.grows (begun_most (indexed_by c.args.instruction.o4) c.place-front.result.1) in
    grows_on _ _ _ _ _ _ (grows_on _ _ _ _ _ _ c.three_places-front.ensures.grows h refl) k refl

pub returns-clause-operands : goal.returns-clause-operands
returns-clause-operands c =
    let later = extends_on _ _ _ c.place-front.ensures.grows.extends c.place-front-2.ensures.grows.extends in
    record {
      o0 = operand_of_on _ _ _ _ _ _ later c.three_places-front.ensures.o0;
      o1 = operand_of_on _ _ _ _ _ _ later c.three_places-front.ensures.o1;
      o2 = operand_of_on _ _ _ _ _ _ later c.three_places-front.ensures.o2;
      o3 = operand_of_on _ _ _ _ _ _ c.place-front-2.ensures.grows.extends c.place-front.ensures.operand;
      o4 = c.place-front-2.ensures.operand;
    }
