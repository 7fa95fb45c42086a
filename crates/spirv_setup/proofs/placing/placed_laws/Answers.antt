use Rattle.std.proofs.Common.{◌∙◌}
use Rattle.spirv_setup.proofs.Bound.{rooms_placed}
use Rattle.spirv_setup.proofs.Owed.{named_there}
use Rattle.spirv_setup.proofs.placing.placed_laws.Goals as goal

pub returns-clause-placed : goal.returns-clause-placed
returns-clause-placed x = λ p bindings e es h map su globals.
    rooms_placed p bindings h e.frame.context su.described.variables (x.binding_laws.ensures.finds_each bindings map) es (globals ∙ su.globals)

pub returns-clause-named : goal.returns-clause-named
returns-clause-named x = λ p bindings e y h map complete su named.
    named_there p bindings h map (x.binding_laws.ensures.looks_up bindings) complete e su y named
