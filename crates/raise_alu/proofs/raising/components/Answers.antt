use Rattle.std.proofs.Common.{refl}
use Rattle.raise_alu.proofs.Chained.{component_on}
use Rattle.raise_alu.proofs.raising.components.Goals as goal

pub two_components-requires-2-clause-operands : goal.two_components-requires-2-clause-operands
two_components-requires-2-clause-operands c = c.operand_laws.ensures.operands_on _ _ _ _ c.two_components.ensures.grows.extends c.requires.operands

pub returns-clause-grows : goal.returns-clause-grows
returns-clause-grows c = c.growing_laws.ensures.grows_on _ _ _ _ _ _ c.two_components.ensures.grows c.two_components-2.ensures.grows refl

pub returns-clause-components : goal.returns-clause-components
returns-clause-components c =
    let later = c.two_components-2.ensures.grows.extends in
    let x = component_on c.growing_laws.ensures _ _ _ _ _ _ _ later c.two_components.ensures.c in
    let y = component_on c.growing_laws.ensures _ _ _ _ _ _ _ later c.two_components.ensures.d in
    let z = c.two_components-2.ensures.c in
    let w = c.two_components-2.ensures.d in
    record {
      first_now' = record { x = x.first_now'; y = y.first_now'; z = z.first_now'; w = w.first_now' };
      second_now' = record { x = x.second_now'; y = y.second_now'; z = z.second_now'; w = w.second_now' };
      first_behind' = record { x = x.first_behind'; y = y.first_behind'; z = z.first_behind'; w = w.first_behind' };
      second_behind' = record { x = x.second_behind'; y = y.second_behind'; z = z.second_behind'; w = w.second_behind' };
    }
