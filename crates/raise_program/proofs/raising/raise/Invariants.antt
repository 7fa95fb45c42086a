use Rattle.binding_map.specs.Fits.{is_null_in}
use Rattle.raise_program.specs.Walking.{StandsAt}
use Rattle.raise_program.proofs.raising.raise.Given as goal

abbrev pub invariant-loop-number : goal.invariant-loop-number
invariant-loop-number l = StandsAt (is_null_in l.bindings) l.program.shader l.fn.tree l.tree l.walk l.number
