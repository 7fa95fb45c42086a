use Rattle.std.proofs.Common.{ℕ, IsTrue, ap, sym, subst, ◌∙◌}
use Rattle.shader_tree.specs.Nodes.{a_statement, has}
use Rattle.shader_tree.specs.Terms.{Loop, term_at}
use Rattle.raise_program.proofs.Grown.{one}
use Rattle.raise_program.proofs.Kept.{left_walk, put_is, walk_on, walk_itself, walk_itself_kept, node_itself}
use Rattle.raise_program.proofs.raising.visit_loop.Goals as goal

pub stmt-statement-requires-clause-fits : goal.stmt-statement-requires-clause-fits
stmt-statement-requires-clause-fits c =
    let P : ℕ → Type 0 = λ id. IsTrue (has c.args.tree.now.nodes (a_statement id)) in
    one _ (subst P (sym c.leave-bodies.ensures.body) c.requires.walk.here.sorted)

pub put-requires-clause-walk : goal.put-requires-clause-walk
put-requires-clause-walk c =
    let k = left_walk c.args.tree.now.nodes c.args.walk.now c.leave-bodies.new.self c.leave-bodies.result.other c.requires.walk
    c.leave-bodies.ensures.around in
    walk_itself_kept _ _ _ (walk_on c.growing_laws.ensures _ _ c.stmt-statement.ensures.grows.extends _ _ k.walk')

pub put-requires-clause-statement : goal.put-requires-clause-statement
put-requires-clause-statement c = node_itself _ _ _ _ c.stmt-statement.ensures.makes

pub returns-clause-walk : goal.returns-clause-walk
returns-clause-walk c =
    let nodes = c.args.tree.now.nodes in
    let k = left_walk nodes c.args.walk.now c.leave-bodies.new.self c.leave-bodies.result.other c.requires.walk c.leave-bodies.ensures.around in
    let walk = walk_on c.growing_laws.ensures _ _ c.stmt-statement.ensures.grows.extends _ _ k.walk' in
    put_is _ _ _ _ _ _ c.put.ensures.walk
    (c.stmt-statement.ensures.makes.term ∙ ap (λ id. Loop (term_at nodes id)) c.leave-bodies.ensures.body) (walk_itself _ _ _ walk)
