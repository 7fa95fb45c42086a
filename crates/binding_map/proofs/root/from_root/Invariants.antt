use Rattle.std.specs.Prelude.{take, flat_map}
use Rattle.binding_map.specs.Growing.{Grows, marked_by}
use Rattle.binding_map.proofs.root.from_root.Given as goal

abbrev pub invariant-loop-i : goal.invariant-loop-i
invariant-loop-i l = Grows l.initial.growing l.growing (flat_map (marked_by l.registers) (take l.i l.root))
