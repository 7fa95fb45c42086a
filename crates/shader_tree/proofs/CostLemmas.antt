-- The sums of a node's term are the node's own numbers and the sums of what it names.
use Rattle.std.proofs.Common.{◌≡◌, ℕ, ◌+◌, arith}
use Rattle.shader_tree.specs.declared.node.Expr.TheVariants as expr
use Rattle.shader_tree.specs.declared.node.Stmt.TheVariants as stmt
use Rattle.shader_tree.specs.declared.node.Node.{Node}
use Rattle.shader_tree.specs.declared.node.Node.TheVariants as node
use Rattle.shader_tree.specs.Costs.{words_in, ids_in, node_cost, sum_over}
use Rattle.shader_tree.specs.Nodes.{named}
use Rattle.shader_tree.specs.Terms.{Term, term_by}

none_more : (n : ℕ) → n ≡ n + 0
none_more n = omega arith

one_more : (n x : ℕ) → n + x ≡ n + (x + 0)
one_more n x = omega arith

two_more : (n x y : ℕ) → n + (x + y) ≡ n + (x + (y + 0))
two_more n x y = omega arith

three_more : (n x y z : ℕ) → n + (x + (y + z)) ≡ n + (x + (y + (z + 0)))
three_more n x y z = omega arith

four_more : (n w x y z : ℕ) → n + (w + (x + (y + z))) ≡ n + (w + (x + (y + (z + 0))))
four_more n w x y z = omega arith

pub words_in-node : (f : ℕ → Term) (n : Node) → words_in (term_by f n) ≡ (node_cost n).words + sum_over (λ id. words_in (f id)) (named n)
words_in-node f (node.Expr (expr.Read space a)) = one_more _ _
words_in-node f (node.Expr (expr.One op a)) = one_more _ _
words_in-node f (node.Expr (expr.Two op a b)) = two_more _ _ _
words_in-node f (node.Expr (expr.Three op a b c)) = three_more _ _ _ _
words_in-node f (node.Expr (expr.Insert a b c d)) = four_more _ _ _ _ _
words_in-node f (node.Expr (expr.First op a b)) = two_more _ _ _
words_in-node f (node.Expr (expr.Second op a b)) = two_more _ _ _
words_in-node f (node.Expr (expr.Quotient a by)) = one_more _ _
words_in-node f (node.Expr (expr.Product a by)) = one_more _ _
words_in-node f (node.Expr (expr.Pick a b c)) = three_more _ _ _ _
words_in-node f (node.Expr (expr.Compare how a b)) = two_more _ _ _
words_in-node f (node.Expr (expr.Both a b)) = two_more _ _ _
words_in-node f (node.Stmt (stmt.Set n a)) = one_more _ _
words_in-node f (node.Stmt (stmt.Write space a b)) = two_more _ _ _
words_in-node f (node.Stmt (stmt.Load n room a)) = one_more _ _
words_in-node f (node.Stmt (stmt.Store room a b)) = two_more _ _ _
words_in-node f (node.Stmt (stmt.Atomic n room a kind b c)) = three_more _ _ _ _
words_in-node f (node.Stmt (stmt.Guard a b)) = two_more _ _ _
words_in-node f (node.Stmt (stmt.If a b c)) = three_more _ _ _ _
words_in-node f (node.Stmt (stmt.Loop a)) = one_more _ _
words_in-node f (node.Stmt (stmt.Switch a b)) = two_more _ _ _
words_in-node f (node.Stmt (stmt.Case v a)) = one_more _ _
words_in-node f (node.Stmt (stmt.Default a)) = one_more _ _
words_in-node f (node.Stmt (stmt.Then a b)) = two_more _ _ _
words_in-node f other = none_more _

pub ids_in-node : (f : ℕ → Term) (n : Node) → ids_in (term_by f n) ≡ (node_cost n).ids + sum_over (λ id. ids_in (f id)) (named n)
ids_in-node f (node.Expr (expr.Read space a)) = one_more _ _
ids_in-node f (node.Expr (expr.One op a)) = one_more _ _
ids_in-node f (node.Expr (expr.Two op a b)) = two_more _ _ _
ids_in-node f (node.Expr (expr.Three op a b c)) = three_more _ _ _ _
ids_in-node f (node.Expr (expr.Insert a b c d)) = four_more _ _ _ _ _
ids_in-node f (node.Expr (expr.First op a b)) = two_more _ _ _
ids_in-node f (node.Expr (expr.Second op a b)) = two_more _ _ _
ids_in-node f (node.Expr (expr.Quotient a by)) = one_more _ _
ids_in-node f (node.Expr (expr.Product a by)) = one_more _ _
ids_in-node f (node.Expr (expr.Pick a b c)) = three_more _ _ _ _
ids_in-node f (node.Expr (expr.Compare how a b)) = two_more _ _ _
ids_in-node f (node.Expr (expr.Both a b)) = two_more _ _ _
ids_in-node f (node.Stmt (stmt.Set n a)) = one_more _ _
ids_in-node f (node.Stmt (stmt.Write space a b)) = two_more _ _ _
ids_in-node f (node.Stmt (stmt.Load n room a)) = one_more _ _
ids_in-node f (node.Stmt (stmt.Store room a b)) = two_more _ _ _
ids_in-node f (node.Stmt (stmt.Atomic n room a kind b c)) = three_more _ _ _ _
ids_in-node f (node.Stmt (stmt.Guard a b)) = two_more _ _ _
ids_in-node f (node.Stmt (stmt.If a b c)) = three_more _ _ _ _
ids_in-node f (node.Stmt (stmt.Loop a)) = one_more _ _
ids_in-node f (node.Stmt (stmt.Switch a b)) = two_more _ _ _
ids_in-node f (node.Stmt (stmt.Case v a)) = one_more _ _
ids_in-node f (node.Stmt (stmt.Default a)) = one_more _ _
ids_in-node f (node.Stmt (stmt.Then a b)) = two_more _ _ _
ids_in-node f other = none_more _
