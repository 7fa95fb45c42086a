use Rattle.std.proofs.Common.{◌+◌, sym, ◌∙◌, ap, arith}
use Rattle.outside.specs.Memory.{is_planned}
use Rattle.outside.proofs.Counting.{none_past}
use Rattle.outside.proofs.plan.Plan.is_next.Goals as goal

pub returns-in-None : goal.returns-in-None
returns-in-None c = sym (ap is_planned (sym c.self.view_is) ∙ none_past c.self.inside.failing.items (c.self.inside.calls + 1) (grind (arith, c.in-None.ensures)) c.self.invariant)
