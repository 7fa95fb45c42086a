-- Where the literals of nodes are words, so are those of their terms, and so they stay when a node is added.
use Rattle.std.proofs.Common.{◌≡◌, ℕ, zero, suc, ◌^◌, true, false, Bool, IsTrue, List, [], ◌∷◌, ◌++◌, Option, Some, None, refl, subst}
use Rattle.std.specs.Prelude.{nat_lt, not, slice_get}
use Rattle.std.specs.List.{list_all}
use Rattle.shader_tree.specs.declared.node.Expr.TheVariants as expr
use Rattle.shader_tree.specs.declared.node.Stmt.TheVariants as stmt
use Rattle.shader_tree.specs.declared.node.Node.{Node}
use Rattle.shader_tree.specs.declared.node.Node.TheVariants as node
use Rattle.shader_tree.specs.Holding.{OfWords}
use Rattle.shader_tree.specs.Nodes.{Name, named, is_short, are_short}
use Rattle.shader_tree.specs.Terms.{Term, term_by, term_for, term_within, term_at}
use Rattle.shader_tree.proofs.Truths.{split, join}

-- ONE MORE NODE.
all_more : (nodes : List Node) (n : Node) → IsTrue (list_all is_short nodes) → IsTrue (is_short n) → IsTrue (list_all is_short (nodes ++ n ∷ []))
all_more [] n are s = join (is_short n) true s refl
all_more (x ∷ nodes) n are s =
    let p = split (is_short x) (list_all is_short nodes) are in
    join (is_short x) (list_all is_short (nodes ++ n ∷ [])) p.0 (all_more nodes n p.1 s)

pub short_more : (nodes : List Node) (n : Node) → IsTrue (are_short nodes) → IsTrue (is_short n) → IsTrue (are_short (nodes ++ n ∷ []))
unfolding are_short
short_more nodes n are s = all_more nodes n are s

pub none_short : IsTrue (are_short [])
unfolding are_short
none_short = refl

-- A NODE OF A LIST.
short_in : (nodes : List Node) (id : ℕ) (n : Node) → IsTrue (list_all is_short nodes) → slice_get nodes id ≡ Some n → IsTrue (is_short n)
short_in [] id n are e = absurd (cc e)
short_in (x ∷ nodes) zero n are e =
    let same : x ≡ n = cc e in subst (λ m. IsTrue (is_short m)) same (split (is_short x) (list_all is_short nodes) are).0
short_in (x ∷ nodes) (suc id) n are e = short_in nodes id n (split (is_short x) (list_all is_short nodes) are).1 e

-- ITS TERM, by the terms of the nodes that it names.
abbrev AreOfWords : (ℕ → Term) → List Name → Type 0
AreOfWords f [] = Unit {0}
AreOfWords f (name ∷ names) = OfWords (f name.id) × AreOfWords f names

are_of_words : (f : ℕ → Term) (names : List Name) → ((id : ℕ) → OfWords (f id)) → AreOfWords f names
are_of_words f [] h = tt
are_of_words f (name ∷ names) h = (h name.id, are_of_words f names h)

literal : (b : Bool) → IsTrue b → IsTrue (not (not b))
literal true h = refl
literal false h = absurd (cc h)

by_node : (f : ℕ → Term) (n : Node) → IsTrue (is_short n) → AreOfWords f (named n) → OfWords (term_by f n)
by_node f (node.Expr (expr.Word w)) s h = literal (nat_lt w (2 ^ 32)) s
by_node f (node.Expr (expr.Read space a)) s h = h.0
by_node f (node.Expr (expr.One op a)) s h = h.0
by_node f (node.Expr (expr.Two op a b)) s h = join _ _ h.0 h.1.0
by_node f (node.Expr (expr.Three op a b c)) s h = join _ _ h.0 (join _ _ h.1.0 h.1.1.0)
by_node f (node.Expr (expr.Insert a b c d)) s h = join _ _ h.0 (join _ _ h.1.0 (join _ _ h.1.1.0 h.1.1.1.0))
by_node f (node.Expr (expr.First op a b)) s h = join _ _ h.0 h.1.0
by_node f (node.Expr (expr.Second op a b)) s h = join _ _ h.0 h.1.0
by_node f (node.Expr (expr.Quotient a by)) s h = h.0
by_node f (node.Expr (expr.Product a by)) s h = h.0
by_node f (node.Expr (expr.Pick a b c)) s h = join _ _ h.0 (join _ _ h.1.0 h.1.1.0)
by_node f (node.Expr (expr.Compare how a b)) s h = join _ _ h.0 h.1.0
by_node f (node.Expr (expr.Both a b)) s h = join _ _ h.0 h.1.0
by_node f (node.Stmt (stmt.Set n a)) s h = h.0
by_node f (node.Stmt (stmt.Write space a b)) s h = join _ _ h.0 h.1.0
by_node f (node.Stmt (stmt.Load n room a)) s h = h.0
by_node f (node.Stmt (stmt.Store room a b)) s h = join _ _ h.0 h.1.0
by_node f (node.Stmt (stmt.Atomic n room a kind b c)) s h = join _ _ h.0 (join _ _ h.1.0 h.1.1.0)
by_node f (node.Stmt (stmt.Guard a b)) s h = join _ _ h.0 h.1.0
by_node f (node.Stmt (stmt.If a b c)) s h = join _ _ h.0 (join _ _ h.1.0 h.1.1.0)
by_node f (node.Stmt (stmt.Loop a)) s h = h.0
by_node f (node.Stmt (stmt.Switch a b)) s h = join _ _ h.0 h.1.0
by_node f (node.Stmt (stmt.Case v a)) s h = h.0
by_node f (node.Stmt (stmt.Default a)) s h = h.0
by_node f (node.Stmt (stmt.Then a b)) s h = join _ _ h.0 h.1.0
by_node f other s h = refl

by_option : (f : ℕ → Term) (o : Option Node) → ((n : Node) → o ≡ Some n → IsTrue (is_short n)) → ((id : ℕ) → OfWords (f id)) → OfWords (term_for f o)
by_option f None s h = refl
by_option f (Some n) s h = by_node f n (s n refl) (are_of_words f (named n) h)

within_words : (nodes : List Node) (d id : ℕ) → IsTrue (list_all is_short nodes) → OfWords (term_within d nodes id)
unfolding term_within
within_words nodes zero id are = refl
within_words nodes (suc d) id are =
    by_option (term_within d nodes) (slice_get nodes id) (λ n e. short_in nodes id n are e) (λ i. within_words nodes d i are)

pub of_words : (nodes : List Node) (id : ℕ) → IsTrue (are_short nodes) → OfWords (term_at nodes id)
unfolding are_short term_at
of_words nodes id are = within_words nodes (suc id) id are
