use Rattle.std.proofs.Common.{◌+◌, ◌*◌, ◌≤◌, max}
use Rattle.spirv_flow.specs.Emitting.{LeadsOn}
use Rattle.spirv_flow.proofs.emit.+emitting.Given as goal

abbrev pub decreases-emit : goal.decreases-emit
decreases-emit l = 3 * l.chain.id + 2

abbrev pub decreases-emit_first : goal.decreases-emit_first
decreases-emit_first l = 3 * l.from.id + 1

abbrev pub decreases-emit_guard : goal.decreases-emit_guard
decreases-emit_guard l = 3 * l.body.id + 3

abbrev pub decreases-emit_choice : goal.decreases-emit_choice
decreases-emit_choice l = 3 * max l.yes.id l.no + 3

abbrev pub decreases-emit_loop : goal.decreases-emit_loop
decreases-emit_loop l = 3 * l.body.id + 3

abbrev pub decreases-emit_switch : goal.decreases-emit_switch
decreases-emit_switch l = 3 * l.cases + 3

abbrev pub invariant-emit-loop-next : goal.invariant-emit-loop-next
invariant-emit-loop-next l = LeadsOn l.tree.nodes l.fn.emitter l.emitter l.around l.fn.chain l.rest × (l.rest.id ≤ l.fn.chain.id)

abbrev pub decreases-emit-loop-next : goal.decreases-emit-loop-next
decreases-emit-loop-next l = l.rest.id
