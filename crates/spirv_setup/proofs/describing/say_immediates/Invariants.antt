use Rattle.std.proofs.Common.{◌≡◌, take}
use Rattle.spirv_setup.proofs.describing.say_immediates.Given as goal

abbrev pub invariant-loop-i : goal.invariant-loop-i
invariant-loop-i l =
    l.emitter
    ≡ record l.initial.emitter {
      frame = record l.initial.emitter.frame {
        context = record l.initial.emitter.frame.context { immediates = take l.i l.program.shader.constants };
      };
    }
