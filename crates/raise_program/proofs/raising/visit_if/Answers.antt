use Rattle.std.proofs.Common.{ℕ, Option, sym, ap, subst, ◌∙◌}
use Rattle.std.specs.Prelude.{option_map}
use Rattle.shader_tree.specs.Nodes.{AStatement}
use Rattle.shader_tree.specs.Terms.{Term, term_at}
use Rattle.raise_operands.specs.Building.{IsNode}
use Rattle.raise_operands.specs.Raising.{scalar_front}
use Rattle.raise_program.specs.Parts.{truth_of}
use Rattle.raise_program.specs.Walked.{chosen}
use Rattle.raise_program.proofs.Kept.{left_walk, put_is, walk_on, walk_itself, walk_itself_kept, node_itself}
use Rattle.raise_program.proofs.raising.visit_if.Goals as goal

pub selection-statement-requires-clause-body : goal.selection-statement-requires-clause-body
selection-statement-requires-clause-body c =
    let P : ℕ → Type 0 = λ id. IsNode c.args.tree.now.nodes AStatement id (term_at c.args.tree.now.nodes id) in
    subst P (sym c.leave-bodies.ensures.body) c.requires.walk.here

pub selection-statement-requires-clause-other : goal.selection-statement-requires-clause-other
selection-statement-requires-clause-other c =
    (left_walk c.args.tree.now.nodes c.args.walk.now c.leave-bodies.new.self c.leave-bodies.result.other c.requires.walk
    c.leave-bodies.ensures.around).other

pub put-requires-clause-walk : goal.put-requires-clause-walk
put-requires-clause-walk c =
    let k = left_walk c.args.tree.now.nodes c.args.walk.now c.leave-bodies.new.self c.leave-bodies.result.other c.requires.walk
    c.leave-bodies.ensures.around in
    walk_itself_kept _ _ _ (walk_on c.growing_laws.ensures _ _ c.selection-statement.ensures.grows.extends _ _ k.walk')

pub put-requires-clause-statement : goal.put-requires-clause-statement
put-requires-clause-statement c = node_itself _ _ _ _ c.selection-statement.ensures.makes

pub returns-clause-walk : goal.returns-clause-walk
returns-clause-walk c =
    let p = c.args.program.now.shader in
    let i = c.args.at.instruction in
    let nodes = c.args.tree.now.nodes in
    let k = left_walk nodes c.args.walk.now c.leave-bodies.new.self c.leave-bodies.result.other c.requires.walk c.leave-bodies.ensures.around in
    let walk = walk_on c.growing_laws.ensures _ _ c.selection-statement.ensures.grows.extends _ _ k.walk' in
    let body = ap (term_at nodes) c.leave-bodies.ensures.body in
    put_is _ _ _ _ _ _ c.put.ensures.walk
    (c.selection-statement.ensures.makes.term
    ∙ ap (λ (t : Term). chosen (scalar_front p i) (truth_of p i) t (option_map (term_at nodes) c.leave-bodies.result.other)) body
    ∙ ap (λ (o : Option Term). chosen (scalar_front p i) (truth_of p i) (term_at nodes c.args.walk.now.here) o) k.same)
    (walk_itself _ _ _ walk)
