use Rattle.std.proofs.Common.{subst, sym, ap, ◌∙◌}
use Rattle.std.specs.Prelude.{Some}
use Rattle.shader_tree.specs.declared.node.Node.TheVariants as node
use Rattle.shader_tree.specs.Terms.{Stands}
use Rattle.shader_tree.proofs.TermLemmas.{stands}
use Rattle.shader_tree.proofs.tree.Tree.stmt_at.Goals as goal

pub returns : goal.returns
returns c =
    let seen = sym (ap (λ t. t.nodes) c.self.view_is) in
    let here = stands _ _ (node.Stmt c.in-Stmt.s) c.self.invariant.0 (c.get.ensures ∙ ap Some c.in-Stmt.is) in
    subst (λ l. Stands l c.args.id (node.Stmt c.in-Stmt.s)) (sym seen) here
