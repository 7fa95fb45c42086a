-- A statement of a tree, by its node.
use Rattle.std.proofs.Common.{◌≡◌, ℕ, List, sym, subst}
use Rattle.shader_tree.specs.declared.node.Node.{Node}
use Rattle.shader_tree.specs.declared.node.Node.TheVariants as node
use Rattle.shader_tree.specs.declared.node.Stmt.{Stmt}
use Rattle.shader_tree.specs.Terms.{Term, Stands, term_at, term_by}

pub stand : (nodes : List Node) (id : ℕ) (r x : Stmt) → Stands nodes id (node.Stmt r) → r ≡ x → Stands nodes id (node.Stmt x)
stand nodes id r x st e = subst (λ x. Stands nodes id (node.Stmt x)) e st

-- what holds of the term of the node holds of the term of its id, and the other way round
pub by_node : (nodes : List Node) (id : ℕ) (x : Stmt) (P : Term → Type 0) → Stands nodes id (node.Stmt x) → P (term_by (term_at nodes) (node.Stmt x))
    → P (term_at nodes id)
by_node nodes id x P st h = subst P (sym st.term) h

pub to_node : (nodes : List Node) (id : ℕ) (x : Stmt) (P : Term → Type 0) → Stands nodes id (node.Stmt x) → P (term_at nodes id)
    → P (term_by (term_at nodes) (node.Stmt x))
to_node nodes id x P st h = subst P st.term h
