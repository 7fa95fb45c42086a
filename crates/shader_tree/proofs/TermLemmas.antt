-- The terms of nodes, by the terms of the nodes that they name; and more nodes, which change none.
use Rattle.std.proofs.Common.{◌≡◌, ℕ, zero, suc, ◌<◌, IsTrue, List, [], ◌∷◌, ◌++◌, length, Option, Some, None, refl, sym, ap, subst, arith, ◌∙◌, length-append}
use Rattle.std.specs.Prelude.{slice_get}
use Rattle.shader_tree.specs.declared.node.Expr.TheVariants as expr
use Rattle.shader_tree.specs.declared.node.Stmt.TheVariants as stmt
use Rattle.shader_tree.specs.declared.node.Node.{Node}
use Rattle.shader_tree.specs.declared.node.Node.TheVariants as node
use Rattle.shader_tree.specs.Nodes.{Name, named, has, is_of_sort, are_nodes}
use Rattle.shader_tree.specs.Terms.{Term, term_by, term_for, term_within, term_at, AreEarlier, Stands, Extends}
use Rattle.shader_tree.proofs.Earlier.{earlier, proper}
use Rattle.shader_tree.proofs.Truths.{get_more, get_below}

-- two readings give the same terms to the names
abbrev pub Alike : (ℕ → Term) → (ℕ → Term) → List Name → Type 0
Alike f g [] = Unit {0}
Alike f g (name ∷ names) = (f name.id ≡ g name.id) × Alike f g names

pub alike : (f g : ℕ → Term) (n : Node) → Alike f g (named n) → term_by f n ≡ term_by g n
alike f g (node.Expr (expr.Read space word)) h = rw (h.0) refl
alike f g (node.Expr (expr.One op a)) h = rw (h.0) refl
alike f g (node.Expr (expr.Two op a b)) h = rw (h.0, h.1.0) refl
alike f g (node.Expr (expr.Three op a b c)) h = rw (h.0, h.1.0, h.1.1.0) refl
alike f g (node.Expr (expr.Insert width offset inserted base)) h = rw (h.0, h.1.0, h.1.1.0, h.1.1.1.0) refl
alike f g (node.Expr (expr.First op a b)) h = rw (h.0, h.1.0) refl
alike f g (node.Expr (expr.Second op a b)) h = rw (h.0, h.1.0) refl
alike f g (node.Expr (expr.Quotient a by)) h = rw (h.0) refl
alike f g (node.Expr (expr.Product a by)) h = rw (h.0) refl
alike f g (node.Expr (expr.Pick truth yes' no')) h = rw (h.0, h.1.0, h.1.1.0) refl
alike f g (node.Expr (expr.Compare how a b)) h = rw (h.0, h.1.0) refl
alike f g (node.Expr (expr.Both a b)) h = rw (h.0, h.1.0) refl
alike f g (node.Stmt (stmt.Set n value)) h = rw (h.0) refl
alike f g (node.Stmt (stmt.Write space word value)) h = rw (h.0, h.1.0) refl
alike f g (node.Stmt (stmt.Load n room word)) h = rw (h.0) refl
alike f g (node.Stmt (stmt.Store room word value)) h = rw (h.0, h.1.0) refl
alike f g (node.Stmt (stmt.Atomic n room word kind a b)) h = rw (h.0, h.1.0, h.1.1.0) refl
alike f g (node.Stmt (stmt.Guard truth body)) h = rw (h.0, h.1.0) refl
alike f g (node.Stmt (stmt.If truth yes' no')) h = rw (h.0, h.1.0, h.1.1.0) refl
alike f g (node.Stmt (stmt.Loop body)) h = rw (h.0) refl
alike f g (node.Stmt (stmt.Switch on cases)) h = rw (h.0, h.1.0) refl
alike f g (node.Stmt (stmt.Case value next)) h = rw (h.0) refl
alike f g (node.Stmt (stmt.Default next)) h = rw (h.0) refl
alike f g (node.Stmt (stmt.Then first next)) h = rw (h.0, h.1.0) refl
alike f g other h = refl

pub alike_below : (nodes : List Node) (id : ℕ) (f g : ℕ → Term) (names : List Name) → ((i : ℕ) → i < id → f i ≡ g i)
    → AreEarlier nodes id names → Alike f g names
alike_below nodes id f g [] same h = tt
alike_below nodes id f g (name ∷ names) same h = (same name.id h.0, alike_below nodes id f g names same h.2)

-- the term of an option, where the readings are alike below a place
alike_for : (nodes : List Node) (id : ℕ) (f g : ℕ → Term) (o : Option Node) → slice_get nodes id ≡ o → IsTrue (are_nodes nodes)
    → ((i : ℕ) → i < id → f i ≡ g i) → term_for f o ≡ term_for g o
alike_for nodes id f g None e are same = refl
alike_for nodes id f g (Some n) e are same = alike f g n (alike_below nodes id f g (named n) same (earlier nodes id n are e))

-- more depth than the id changes nothing
deeper : (nodes : List Node) (d e id : ℕ) → IsTrue (are_nodes nodes) → id < d → id < e → term_within d nodes id ≡ term_within e nodes id
unfolding term_within
deeper nodes zero e id are l k = absurd (omega arith)
deeper nodes (suc d) zero id are l k = absurd (omega arith)
deeper nodes (suc d) (suc e) id are l k =
    alike_for nodes id (term_within d nodes) (term_within e nodes) (slice_get nodes id) refl are
    (λ i lt. deeper nodes d e i are (omega (arith, l, lt)) (omega (arith, k, lt)))

-- THE ONE EQUATION.
pub term_here : (nodes : List Node) (id : ℕ) (n : Node) → IsTrue (are_nodes nodes) → slice_get nodes id ≡ Some n → term_at nodes id ≡ term_by (term_at nodes) n
unfolding term_at term_within
term_here nodes id n are e =
    ap (term_for (term_within id nodes)) e
    ∙ alike_for nodes id (term_within id nodes) (term_at nodes) (Some n) e are (λ i lt. deeper nodes id (suc i) i are lt (omega arith))

pub stands : (nodes : List Node) (id : ℕ) (n : Node) → IsTrue (are_nodes nodes) → slice_get nodes id ≡ Some n → Stands nodes id n
stands nodes id n are e =
    record { node = e; term = term_here nodes id n are e; names = earlier nodes id n are e; proper = proper nodes id n are e }

-- MORE NODES.
abbrev pub Keeps : List Node → List Node → Type 0
Keeps old new = (id : ℕ) (n : Node) → slice_get old id ≡ Some n → slice_get new id ≡ Some n

has_kept : (old new : List Node) (name : Name) (o : Option Node) → Keeps old new → slice_get old name.id ≡ o
    → IsTrue (is_of_sort name.sort o) → IsTrue (has new name)
has_kept old new name None keeps e h = absurd (cc h)
has_kept old new name (Some n) keeps e h = subst (λ o. IsTrue (is_of_sort name.sort o)) (sym (keeps name.id n e)) h

pub kept_names : (old new : List Node) → Keeps old new → (name : Name) → IsTrue (has old name) → IsTrue (has new name)
kept_names old new keeps name h = has_kept old new name (slice_get old name.id) keeps refl h

kept_within : (old new : List Node) (d id : ℕ) → IsTrue (are_nodes old) → Keeps old new → id < length old → term_within d new id ≡ term_within d old id
unfolding term_within
kept_within old new zero id are keeps lt = refl
kept_within old new (suc d) id are keeps lt =
    let x = get_below old id lt in
    rw (x.1, keeps id x.0 x.1)
    (alike (term_within d new) (term_within d old) x.0 (alike_below old id (term_within d new) (term_within d old) (named x.0)
    (λ i l. kept_within old new d i are keeps (omega (arith, l, lt))) (earlier old id x.0 are x.1)))

pub kept_terms : (old new : List Node) → IsTrue (are_nodes old) → Keeps old new → (id : ℕ) → id < length old → term_at new id ≡ term_at old id
unfolding term_at
kept_terms old new are keeps id lt = kept_within old new (suc id) id are keeps lt

pub extended : (old : List Node) (n : Node) → IsTrue (are_nodes old) → Extends old (old ++ n ∷ [])
extended old n are =
    let keeps : Keeps old (old ++ n ∷ []) = λ id m e. get_more old (n ∷ []) id m e in
    record {
      count = omega (arith, length-append old (n ∷ []));
      nodes = keeps;
      names = kept_names old _ keeps;
      terms = kept_terms old _ are keeps;
    }
