-- The tree of the test: its nodes are added one behind the other, and its root is a loop with a switch.
use Rattle.std.proofs.Common.{◌≡◌, ℕ, zero, suc, ◌<◌, ◌≤◌, List, [], ◌∷◌, ◌++◌, length, Some, refl, sym, ap, ◌∙◌, subst, arith, append_assoc, append-nil}
use Rattle.std.specs.Prelude.{take, get_or, nat_le, IsTrue}
use Rattle.std.proofs.lemmas.Bool.Decides.{nat_tests}
use Rattle.shader_tree.specs.declared.node.Comparison.TheVariants.{ULess}
use Rattle.shader_tree.specs.declared.node.Expr.TheVariants as expr
use Rattle.shader_tree.specs.declared.node.Node.{Node}
use Rattle.shader_tree.specs.declared.node.Node.TheVariants as node
use Rattle.shader_tree.specs.declared.node.Stmt.TheVariants as stmt
use Rattle.shader_tree.specs.Costs.{words_in, ids_in}
use Rattle.shader_tree.specs.Nodes.{are_nodes, fit_behind, fits}
use Rattle.shader_tree.specs.Placed.{is_placed}
use Rattle.shader_tree.specs.Terms.{Term, Word, Scratch, Compare, Set, Guard, Loop, Switch, Case, Default, Break, Continue, Return, Then, Nothing, term_at, term_within}
use Rattle.shader_tree.specs.Trees.{Grown}
use Rattle.spirv_emit.specs.declared.emitter.Emitter.{Emitter as Emission}
use Rattle.spirv_flow.specs.Emitting.{FitsTree, root_of}
use Rattle.spirv_emit.proofs.Lists.{and_left, and_right}

-- EACH NODE of a list fits behind those in front of it.
fit_at : (before nodes : List Node) (i : ℕ) (d : Node) → i < length nodes → IsTrue (fit_behind before nodes)
    → IsTrue (fits (before ++ take i nodes) (get_or nodes i d))
fit_at before [] i d l h = absurd (omega (arith, l))
fit_at before (m ∷ nodes) zero d l h =
    subst (λ k. IsTrue (fits k m)) (sym (append-nil before)) (and_left (fits before m) (fit_behind (before ++ m ∷ []) nodes) h)
fit_at before (m ∷ nodes) (suc i) d l h =
    subst (λ k. IsTrue (fits k (get_or nodes i d))) (append_assoc before (m ∷ []) (take i nodes))
    (fit_at (before ++ m ∷ []) nodes i d (omega (arith, l)) (and_right (fits before m) (fit_behind (before ++ m ∷ []) nodes) h))

pub fits_next : (nodes : List Node) (i : ℕ) (d : Node) → i < length nodes → IsTrue (are_nodes nodes)
    → IsTrue (fits (take i nodes) (get_or nodes i d))
unfolding are_nodes
fits_next nodes i d l h = fit_at [] nodes i d l h

-- THE NODES, and the term of the last.
abbrev pub nodes_of_test : List Node
nodes_of_test =
    node.Expr (expr.Word 1) ∷ node.Expr (expr.Scratch 0) ∷ node.Expr (expr.Compare ULess 1 0) ∷ node.Stmt (stmt.Set 0 0) ∷ node.Stmt stmt.Break ∷
    node.Stmt stmt.Continue ∷ node.Stmt stmt.Return ∷ node.Stmt stmt.Nothing ∷ node.Stmt (stmt.Case 1 7) ∷ node.Stmt (stmt.Default 7) ∷
    node.Stmt (stmt.Case 7 7) ∷ node.Stmt (stmt.Guard 2 5) ∷ node.Stmt (stmt.Then 11 4) ∷ node.Stmt (stmt.Then 10 12) ∷
    node.Stmt (stmt.Then 3 13) ∷ node.Stmt (stmt.Then 9 14) ∷ node.Stmt (stmt.Then 3 15) ∷ node.Stmt (stmt.Then 4 16) ∷
    node.Stmt (stmt.Then 3 17) ∷ node.Stmt (stmt.Then 8 18) ∷ node.Stmt (stmt.Switch 1 19) ∷ node.Stmt (stmt.Then 5 3) ∷
    node.Stmt (stmt.Then 20 21) ∷ node.Stmt (stmt.Guard 2 6) ∷ node.Stmt (stmt.Then 23 22) ∷ node.Stmt (stmt.Loop 24) ∷ []

pub nodes_fit : IsTrue (are_nodes nodes_of_test)
unfolding are_nodes
nodes_fit = refl

abbrev truth : Term
truth = Compare ULess (Scratch 0) (Word 1)

abbrev set : Term
set = Set 0 (Word 1)

abbrev cases : Term
cases =
    Then (Case 1 Nothing) (Then set (Then Break (Then set (Then (Default Nothing) (Then set (Then (Case 7 Nothing)
    (Then (Guard truth Continue) Break)))))))

abbrev pub whole : Term
whole = Loop (Then (Guard truth Return) (Then (Switch (Scratch 0) cases) (Then Continue set)))

root_is : term_at nodes_of_test 25 ≡ whole
unfolding term_at term_within
root_is = refl

pub filled : (empty tree rooted : Grown) → tree ≡ record empty { nodes = nodes_of_test } → rooted ≡ record tree { root = Some 25 }
    → root_of rooted ≡ whole
filled empty tree rooted e f = ap root_of f ∙ (ap (λ (t : Grown). root_of (record t { root = Some 25 })) e ∙ root_is)

at_most : (a b : ℕ) → IsTrue (nat_le a b) → a ≤ b
at_most a b h = grind (arith, nat_tests)

-- What emit_tree asks of it.
pub whole_fits : (e : Emission) → FitsTree e whole
whole_fits e = record {
  spaces = tt;
  rooms = tt;
  threads = tt;
  changed = tt;
}

pub whole_placed : IsTrue (is_placed whole)
whole_placed = refl

pub whole_words : words_in whole ≤ 800
whole_words = at_most (words_in whole) 800 refl

pub whole_ids : ids_in whole ≤ 800
whole_ids = at_most (ids_in whole) 800 refl
