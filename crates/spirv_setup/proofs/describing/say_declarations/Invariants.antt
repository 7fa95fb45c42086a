use Rattle.std.proofs.Common.{take}
use Rattle.std.specs.Prelude.{flat_map}
use Rattle.std.specs.List.{filter_map}
use Rattle.spirv_setup.specs.Describing.{Describes}
use Rattle.spirv_setup.specs.Descriptions.{buffer_by, described_by}
use Rattle.spirv_setup.proofs.describing.say_declarations.Given as goal

abbrev pub invariant-loop-i : goal.invariant-loop-i
invariant-loop-i l =
    Describes l.initial.emitter l.emitter
    (flat_map (λ d. described_by l.bindings d.what) (take l.i l.program.shader.declarations))
    (filter_map (λ d. buffer_by l.bindings d.what) (take l.i l.program.shader.declarations))
