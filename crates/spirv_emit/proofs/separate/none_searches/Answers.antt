use Rattle.std.proofs.Common.{◌<◌, length, sym, ap, arith}
use Rattle.spirv_emit.proofs.Ordered.{index_at}
use Rattle.spirv_emit.proofs.Searching.{none_next, one_searches}
use Rattle.shader_tree.specs.declared.node.Node.TheVariants as node
use Rattle.shader_tree.specs.declared.node.Stmt.TheVariants as stmt
use Rattle.spirv_emit.proofs.separate.none_searches.Goals as goal

pub returns-then-searches-clause-none : goal.returns-then-searches-clause-none
returns-then-searches-clause-none c =
    let i = index_at c.args.tree.now.nodes c.loop-id.id (node.Stmt stmt.Nothing)
    (omega (arith, c.loop-id-test.true, c.len-id-end.ensures.len, ap length c.nodes-nodes.ensures.nodes)) in
    sym (one_searches c.args.tree.now.nodes c.args.tree.now.nodes c.loop-id.id _ i (sym (c.if-searches.ensures _ i)))

pub loop-id-preserved : goal.loop-id-preserved
loop-id-preserved c =
    let i = index_at c.args.tree.now.nodes c.loop-id.id (node.Stmt stmt.Nothing)
    (omega (arith, c.loop-id-test.true, c.len-id-end.ensures.len, ap length c.nodes-nodes.ensures.nodes)) in
    none_next c.args.tree.now.nodes c.args.tree.now.nodes c.loop-id.id _ i (sym (c.if-searches.ensures _ i)) c.loop-id.invariant
