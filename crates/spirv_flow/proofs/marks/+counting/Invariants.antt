use Rattle.std.proofs.Common.{◌≡◌, ◌+◌, ◌*◌, ◌≤◌}
use Rattle.std.specs.Prelude.{IsTrue}
use Rattle.shader_tree.specs.Nodes.{has, a_statement}
use Rattle.shader_tree.specs.Terms.{term_at}
use Rattle.spirv_flow.specs.Marks.{counted}
use Rattle.spirv_flow.proofs.marks.+counting.Given as goal

abbrev pub decreases-count : goal.decreases-count
decreases-count l = 2 * l.id + 1

abbrev pub decreases-count_first : goal.decreases-count_first
decreases-count_first l = 2 * l.from.id

abbrev pub invariant-count-loop-next : goal.invariant-count-loop-next
invariant-count-loop-next l =
    IsTrue (has l.tree.nodes (a_statement l.rest.id)) × (l.rest.id ≤ l.fn.id)
    × (counted l.rest.marks (term_at l.tree.nodes l.rest.id) ≡ counted l.fn.before (term_at l.tree.nodes l.fn.id))

abbrev pub decreases-count-loop-next : goal.decreases-count-loop-next
decreases-count-loop-next l = l.rest.id
