use Rattle.std.proofs.Common.{sym, ap, subst}
use Rattle.std.specs.Prelude.{take, IsTrue}
use Rattle.shader_tree.specs.declared.node.Expr.TheVariants as expr
use Rattle.shader_tree.specs.declared.node.Node.TheVariants as node
use Rattle.shader_tree.specs.Nodes.{fits}
use Rattle.library_tests.proofs.Example.{fits_next}
use Rattle.library_tests.proofs.blocks.fill.Goals as goal

pub expr-requires-clause-fits : goal.expr-requires-clause-fits
expr-requires-clause-fits c =
    let ns = c.args.nodes.now in
    let i = c.loop-node.node-index in
    subst (λ l. IsTrue (fits l (node.Expr c.in-Expr.e))) (sym (ap (λ t. t.nodes) c.loop-node.invariant))
    (subst (λ n. IsTrue (fits (take i ns) n)) c.in-Expr.is (fits_next ns i (node.Expr (expr.Word 0)) c.loop-node-test.true c.requires.nodes))

pub stmt-requires-clause-fits : goal.stmt-requires-clause-fits
stmt-requires-clause-fits c =
    let ns = c.args.nodes.now in
    let i = c.loop-node.node-index in
    subst (λ l. IsTrue (fits l (node.Stmt c.in-Stmt.s))) (sym (ap (λ t. t.nodes) c.loop-node.invariant))
    (subst (λ n. IsTrue (fits (take i ns) n)) c.in-Stmt.is (fits_next ns i (node.Expr (expr.Word 0)) c.loop-node-test.true c.requires.nodes))
