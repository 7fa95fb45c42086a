-- Nodes and their terms: r0.x plus the thread's number, kept in a scratch word, under a guard.
use Rattle.std.specs.Prelude.{◌≡◌, true, false, List, [], ◌∷◌, refl}
use Rattle.word_base.specs.declared.arithmetic.Binary.TheVariants.{Iadd}
use Rattle.tpf_decode.specs.declared.argument.Kind.TheVariants.{ThreadId, FlatId, Temp}
use Rattle.shader_tree.specs.declared.node.Comparison.TheVariants.{ULess}
use Rattle.shader_tree.specs.declared.node.Space.TheVariants.{Temps}
use Rattle.shader_tree.specs.declared.node.Expr.TheVariants as expr
use Rattle.shader_tree.specs.declared.node.Stmt.TheVariants as stmt
use Rattle.shader_tree.specs.declared.node.Node.{Node}
use Rattle.shader_tree.specs.declared.node.Node.TheVariants.{Expr, Stmt}
use Rattle.shader_tree.specs.Nodes.{fits, are_nodes}
use Rattle.shader_tree.specs.Terms.{term_within, term_at, Word, Read, Thread, Two, Compare, Set, Guard}

-- ids 0 to 6
abbrev pub nodes : List Node
nodes =
    Expr (expr.Word 0) ∷ Expr (expr.Read Temps 0) ∷ Expr (expr.Thread ThreadId 1) ∷ Expr (expr.Two Iadd 1 2) ∷
    Expr (expr.Compare ULess 1 0) ∷ Stmt (stmt.Set 5 3) ∷ Stmt (stmt.Guard 4 5) ∷ []

pub each_names_earlier : are_nodes nodes ≡ true
unfolding are_nodes
each_names_earlier = refl

pub root : term_at nodes 6
    ≡ Guard (Compare ULess (Read Temps (Word 0)) (Word 0)) (Set 5 (Two Iadd (Read Temps (Word 0)) (Thread ThreadId 1)))
unfolding term_at term_within
root = refl

-- what may not stand behind them: an id that is not there, the node's own id, a truth for a word, a statement for a
-- truth, a word for a statement, a divisor 0, a component past the third, a kind that is no thread id
pub later : fits nodes (Expr (expr.Read Temps 9)) ≡ false
later = refl

pub own : fits nodes (Stmt (stmt.Loop 7)) ≡ false
own = refl

pub truth_for_word : fits nodes (Stmt (stmt.Set 0 4)) ≡ false
truth_for_word = refl

pub statement_for_truth : fits nodes (Stmt (stmt.Guard 5 6)) ≡ false
statement_for_truth = refl

pub word_for_statement : fits nodes (Stmt (stmt.Then 6 3)) ≡ false
word_for_statement = refl

pub by_nothing : fits nodes (Expr (expr.Quotient 0 0)) ≡ false
by_nothing = refl

pub fourth_component : fits nodes (Expr (expr.Thread FlatId 3)) ≡ false
fourth_component = refl

pub no_thread : fits nodes (Expr (expr.Thread Temp 0)) ≡ false
no_thread = refl

pub sound : fits nodes (Stmt (stmt.Then 6 5)) ≡ true
sound = refl
