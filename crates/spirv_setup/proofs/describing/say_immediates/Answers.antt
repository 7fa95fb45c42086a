use Rattle.std.proofs.Common.{take}
use Rattle.spirv_setup.proofs.Walked.{take_next}
use Rattle.spirv_setup.proofs.Said.{immediates_next}
use Rattle.spirv_setup.proofs.describing.say_immediates.Goals as goal

pub loop-i-preserved : goal.loop-i-preserved
loop-i-preserved c =
    immediates_next c.args.emitter.now c.loop-i.emitter c.push_immediate.new.self (take c.loop-i.i c.args.program.now.shader.constants) _
    c.icb_word-word.result c.loop-i.invariant c.push_immediate.ensures (take_next c.args.program.now.shader.constants c.loop-i.i
    c.icb_word-word.result c.icb_word-word.ensures)
