use Rattle.std.proofs.Common.{refl}
use Rattle.raise_operands.proofs.Begun.{then_none}
use Rattle.raise_operands.proofs.Growing.{as_step, grows_itself}
use Rattle.raise_operands.proofs.index.place.Goals as goal

pub returns-in_default : goal.returns-in_default
returns-in_default c = record {
  grows = rw c.plain_place.ensures.none (grows_itself _);
  operand = record {
    operand = c.plain_place.ensures.operand _;
    number = c.plain_place.ensures.number;
    argument = refl;
  };
  front = as_step _ _ _ _ c.requires.front (then_none _ _ c.plain_place.ensures.nothing);
}
