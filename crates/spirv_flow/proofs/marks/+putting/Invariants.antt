use Rattle.std.proofs.Common.{◌+◌, ◌*◌, ◌≤◌}
use Rattle.spirv_flow.specs.Marks.{PutsOn}
use Rattle.spirv_flow.proofs.marks.+putting.Given as goal

abbrev pub decreases-put_cases : goal.decreases-put_cases
decreases-put_cases l = 2 * l.chain.id + 1

abbrev pub decreases-put_first : goal.decreases-put_first
decreases-put_first l = 2 * l.from.id

abbrev pub invariant-put_cases-loop-next : goal.invariant-put_cases-loop-next
invariant-put_cases-loop-next l = PutsOn l.tree.nodes l.fn.emitter l.emitter l.fn.chain l.rest × (l.rest.id ≤ l.fn.chain.id)

abbrev pub decreases-put_cases-loop-next : goal.decreases-put_cases-loop-next
decreases-put_cases-loop-next l = l.rest.id
