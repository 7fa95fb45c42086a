use Rattle.std.proofs.Common.{sym, ap, subst, arith}
use Rattle.std.specs.Prelude.{IsTrue}
use Rattle.shader_tree.specs.Costs.{words_in, ids_in}
use Rattle.shader_tree.specs.Placed.{is_placed}
use Rattle.spirv_flow.specs.Emitting.{FitsTree}
use Rattle.library_tests.proofs.Example.{nodes_fit, filled, whole_fits, whole_placed, whole_words, whole_ids}
use Rattle.library_tests.proofs.blocks.a_loop_with_a_switch.Goals as goal

pub fill-requires-clause-nodes : goal.fill-requires-clause-nodes
fill-requires-clause-nodes g c = nodes_fit

pub emit_tree-requires-clause-fits : goal.emit_tree-requires-clause-fits
emit_tree-requires-clause-fits g c =
    let e = filled c.in_ok-tree.tree c.fill.new.tree c.set_root.new.self c.fill.ensures c.set_root.ensures in
    subst (λ x. FitsTree c.start.new.self x) (sym e) (whole_fits c.start.new.self)

pub emit_tree-requires-clause-placed : goal.emit_tree-requires-clause-placed
emit_tree-requires-clause-placed g c =
    let e = filled c.in_ok-tree.tree c.fill.new.tree c.set_root.new.self c.fill.ensures c.set_root.ensures in
    subst (λ x. IsTrue (is_placed x)) (sym e) whole_placed

pub emit_tree-requires-clause-words : goal.emit_tree-requires-clause-words
emit_tree-requires-clause-words g c =
    let e = ap words_in (filled c.in_ok-tree.tree c.fill.new.tree c.set_root.new.self c.fill.ensures c.set_root.ensures) in
    let few = whole_words in
    let left = c.start.ensures.words in let room = c.in_ok-emitter.ensures.words in omega (arith, e, few, left, room)

pub emit_tree-requires-clause-ids : goal.emit_tree-requires-clause-ids
emit_tree-requires-clause-ids g c =
    let e = ap ids_in (filled c.in_ok-tree.tree c.fill.new.tree c.set_root.new.self c.fill.ensures c.set_root.ensures) in
    let few = whole_ids in
    let left = c.start.ensures.ids in let room = c.in_ok-emitter.ensures.ids in omega (arith, e, few, left, room)
