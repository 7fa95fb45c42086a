use Rattle.std.proofs.Common.{◌≡◌, false, take}
use Rattle.std.specs.List.{list_any}
use Rattle.tpf_program.specs.Extents.{is_uav}
use Rattle.spirv_setup.proofs.registers.declares_uav.Given as goal

abbrev pub invariant-loop-i : goal.invariant-loop-i
invariant-loop-i l = list_any (λ d. is_uav l.slot d.what) (take l.i l.program.shader.declarations) ≡ false
