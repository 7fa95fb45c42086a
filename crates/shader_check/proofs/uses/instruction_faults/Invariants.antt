use Rattle.std.proofs.Common.{◌≡◌, take}
use Rattle.std.specs.Prelude.{flat_map}
use Rattle.tpf_program.specs.Spelling.{operands}
use Rattle.tpf_program.specs.Uses.{operand_uses}
use Rattle.shader_check.specs.Things.{faults_of}
use Rattle.shader_check.proofs.uses.instruction_faults.Given as goal

abbrev pub invariant-loop-i : goal.invariant-loop-i
invariant-loop-i l = l.faults ≡ faults_of l.things l.meaning (flat_map operand_uses (take l.i (operands l.instruction)))
