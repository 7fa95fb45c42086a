use Rattle.std.proofs.Common.{◌≡◌, false, take}
use Rattle.std.specs.List.{list_any}
use Rattle.tpf_program.specs.Extents.{steps_counter}
use Rattle.spirv_setup.proofs.registers.steps_counter.Given as goal

abbrev pub invariant-loop-i : goal.invariant-loop-i
invariant-loop-i l = list_any (steps_counter l.slot) (take l.i l.program.shader.instructions) ≡ false
