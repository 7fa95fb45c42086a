use Rattle.std.proofs.Common.{take}
use Rattle.spirv_setup.specs.Naming.{NamesAll}
use Rattle.spirv_setup.specs.Variables.{bound_variables}
use Rattle.spirv_setup.proofs.variables.name_bound.Given as goal

abbrev pub invariant-loop-i : goal.invariant-loop-i
invariant-loop-i l = NamesAll l.initial.emitter l.emitter (bound_variables l.program.shader (take l.i l.bindings))
