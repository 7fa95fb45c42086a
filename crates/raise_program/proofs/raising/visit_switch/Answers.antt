use Rattle.std.proofs.Common.{ℕ, sym, ap, subst, ◌∙◌}
use Rattle.shader_tree.specs.Nodes.{AStatement}
use Rattle.shader_tree.specs.Terms.{Then, Switch, term_at}
use Rattle.raise_operands.specs.Building.{IsNode}
use Rattle.raise_operands.specs.Raising.{scalar_front, scalar_word}
use Rattle.raise_program.proofs.Kept.{left_walk, put_is, walk_on, walk_itself, walk_itself_kept, node_itself}
use Rattle.raise_program.proofs.raising.visit_switch.Goals as goal

pub switch-statement-requires-clause-cases : goal.switch-statement-requires-clause-cases
switch-statement-requires-clause-cases c =
    let P : ℕ → Type 0 = λ id. IsNode c.args.tree.now.nodes AStatement id (term_at c.args.tree.now.nodes id) in
    subst P (sym c.leave-bodies.ensures.body) c.requires.walk.here

pub put-requires-clause-walk : goal.put-requires-clause-walk
put-requires-clause-walk c =
    let k = left_walk c.args.tree.now.nodes c.args.walk.now c.leave-bodies.new.self c.leave-bodies.result.other c.requires.walk
    c.leave-bodies.ensures.around in
    walk_itself_kept _ _ _ (walk_on c.growing_laws.ensures _ _ c.switch-statement.ensures.grows.extends _ _ k.walk')

pub put-requires-clause-statement : goal.put-requires-clause-statement
put-requires-clause-statement c = node_itself _ _ _ _ c.switch-statement.ensures.makes

pub returns-clause-walk : goal.returns-clause-walk
returns-clause-walk c =
    let p = c.args.program.now.shader in
    let i = c.args.at.instruction in
    let nodes = c.args.tree.now.nodes in
    let k = left_walk nodes c.args.walk.now c.leave-bodies.new.self c.leave-bodies.result.other c.requires.walk c.leave-bodies.ensures.around in
    let walk = walk_on c.growing_laws.ensures _ _ c.switch-statement.ensures.grows.extends _ _ k.walk' in
    put_is _ _ _ _ _ _ c.put.ensures.walk
    (c.switch-statement.ensures.makes.term
    ∙ ap (λ id. Then (scalar_front p i) (Switch (scalar_word p i) (term_at nodes id))) c.leave-bodies.ensures.body)
    (walk_itself _ _ _ walk)
