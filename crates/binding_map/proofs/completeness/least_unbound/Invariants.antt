use Rattle.std.proofs.Common.{◌≡◌, take}
use Rattle.binding_map.proofs.Least.{least, unbound_places}
use Rattle.binding_map.proofs.completeness.least_unbound.Given as goal

abbrev pub invariant-loop-i : goal.invariant-loop-i
invariant-loop-i l = l.least ≡ least (unbound_places l.bindings (take l.i l.program.shader.declarations))
