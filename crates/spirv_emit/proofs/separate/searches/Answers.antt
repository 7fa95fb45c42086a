use Rattle.std.proofs.Common.{Some, sym, ap, ◌∙◌, subst}
use Rattle.std.specs.Prelude.{IsTrue}
use Rattle.shader_tree.specs.Nodes.{are_nodes}
use Rattle.shader_tree.specs.declared.node.Node.TheVariants as node
use Rattle.spirv_emit.proofs.Searching.{read_below, write_below}
use Rattle.spirv_emit.proofs.separate.searches.Goals as goal

pub is_word-requires : goal.is_word-requires
is_word-requires c =
    let w = c.in-Expr-Read-Temps-default in
    read_below c.nodes-nodes.result.now.list c.args.id w.field-0-0 w.word
    (c.node_laws.ensures.stands c.nodes-nodes.result.now.list c.args.id) (subst (λ l. IsTrue (are_nodes l)) (sym c.nodes-nodes.ensures.nodes) c.nodes-nodes.ensures.earlier)
    (c.get.ensures ∙ ap (λ n. Some n) (w.is ∙ ap (λ e. node.Expr e) w.field-0-is))

pub is_word-requires-in-Stmt-Write-Temps-default-default : goal.is_word-requires-in-Stmt-Write-Temps-default-default
is_word-requires-in-Stmt-Write-Temps-default-default c =
    let w = c.in-Stmt-Write-Temps-default-default in
    write_below c.nodes-nodes.result.now.list c.args.id w.field-0-0 w.word w.field-0-2
    (c.node_laws.ensures.stands c.nodes-nodes.result.now.list c.args.id) (subst (λ l. IsTrue (are_nodes l)) (sym c.nodes-nodes.ensures.nodes) c.nodes-nodes.ensures.earlier)
    (c.get.ensures ∙ ap (λ n. Some n) (w.is ∙ ap (λ e. node.Stmt e) w.field-0-is))
