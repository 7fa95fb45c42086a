use Rattle.std.proofs.Common.{refl}
use Rattle.raise_alu.proofs.Chained.{component_on}
use Rattle.raise_alu.proofs.raising.two_components.Goals as goal

pub component-y-requires-clause-operands : goal.component-y-requires-clause-operands
component-y-requires-clause-operands c = c.operand_laws.ensures.operands_on _ _ _ _ c.component-x.ensures.grows.extends c.requires.operands

pub returns-clause-grows : goal.returns-clause-grows
returns-clause-grows c = c.growing_laws.ensures.grows_on _ _ _ _ _ _ c.component-x.ensures.grows c.component-y.ensures.grows refl

pub returns-clause-c : goal.returns-clause-c
returns-clause-c c = component_on c.growing_laws.ensures _ _ _ _ _ _ _ c.component-y.ensures.grows.extends c.component-x.ensures.component
