use Rattle.std.proofs.Common.{sym, ◌∙◌}
use Rattle.tpf_program.specs.Extents.{steps_counter}
use Rattle.spirv_setup.proofs.Tests.{any_met, any_next}
use Rattle.spirv_setup.proofs.registers.steps_counter.Goals as goal

pub returns-then-steps : goal.returns-then-steps
returns-then-steps c =
    sym (any_met (steps_counter c.args.slot) c.args.program.now.shader.instructions c.loop-i.i c.instruction-instruction.result
    c.instruction-instruction.ensures (sym c.steps.ensures ∙ c.if-steps.true))

pub loop-i-preserved : goal.loop-i-preserved
loop-i-preserved c =
    any_next (steps_counter c.args.slot) c.args.program.now.shader.instructions c.loop-i.i c.instruction-instruction.result
    c.instruction-instruction.ensures (sym c.steps.ensures ∙ c.if-steps.false) c.loop-i.invariant
