use Rattle.std.proofs.Common.{take}
use Rattle.spirv_setup.specs.Naming.{NamesArrays}
use Rattle.spirv_setup.proofs.variables.name_arrays.Given as goal

abbrev pub invariant-loop-i : goal.invariant-loop-i
invariant-loop-i l = NamesArrays l.initial.emitter l.emitter (take l.i l.program.shader.declarations)
