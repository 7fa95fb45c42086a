-- Nodes: the sort of each, and which others it names. A node is named by its id, which is its place in the list of
-- nodes.
use Rattle.std.specs.Prelude.{ℕ, ◌^◌, nat_lt, Bool, true, false, ◌&&◌, ◌||◌, List, [], ◌∷◌, ◌++◌, Option, Some, None, slice_get}
use Rattle.std.specs.List.{list_all}
use Rattle.tpf_decode.specs.declared.argument.Kind.{Kind}
use Rattle.tpf_decode.specs.declared.argument.Kind.TheVariants as kind
use Rattle.shader_tree.specs.declared.node.Expr.TheVariants as expr
use Rattle.shader_tree.specs.declared.node.Stmt.TheVariants as stmt
use Rattle.shader_tree.specs.declared.node.Node.{Node}
use Rattle.shader_tree.specs.declared.node.Node.TheVariants as node

pub data Sort : Type 0 where
  AWord : Sort
  ATruth : Sort
  AStatement : Sort

abbrev pub same_sort : Sort → Sort → Bool
same_sort AWord AWord = true
same_sort ATruth ATruth = true
same_sort AStatement AStatement = true
same_sort one other = false

abbrev pub sort_of : Node → Sort
sort_of (node.Expr (expr.Compare how a b)) = ATruth
sort_of (node.Expr (expr.Both a b)) = ATruth
sort_of (node.Expr other) = AWord
sort_of (node.Stmt any) = AStatement

-- a node of that sort, by its id
pub record Name : Type 0 where
  pub sort : Sort
  pub id : ℕ

abbrev pub a_word : ℕ → Name
a_word id = record { sort = AWord; id = id }

abbrev pub a_truth : ℕ → Name
a_truth id = record { sort = ATruth; id = id }

abbrev pub a_statement : ℕ → Name
a_statement id = record { sort = AStatement; id = id }

-- WHICH NODES A NODE NAMES, and of which sorts they must be.
abbrev pub named : Node → List Name
named (node.Expr (expr.Word w)) = []
named (node.Expr (expr.Scratch n)) = []
named (node.Expr (expr.Thread kind c)) = []
named (node.Expr (expr.Read space word)) = a_word word ∷ []
named (node.Expr (expr.Length room)) = []
named (node.Expr (expr.One op a)) = a_word a ∷ []
named (node.Expr (expr.Two op a b)) = a_word a ∷ a_word b ∷ []
named (node.Expr (expr.Three op a b c)) = a_word a ∷ a_word b ∷ a_word c ∷ []
named (node.Expr (expr.Insert width offset inserted base)) =
    a_word width ∷ a_word offset ∷ a_word inserted ∷ a_word base ∷ []
named (node.Expr (expr.First op a b)) = a_word a ∷ a_word b ∷ []
named (node.Expr (expr.Second op a b)) = a_word a ∷ a_word b ∷ []
named (node.Expr (expr.Quotient a by)) = a_word a ∷ []
named (node.Expr (expr.Product a by)) = a_word a ∷ []
named (node.Expr (expr.Pick truth yes' no')) = a_truth truth ∷ a_word yes' ∷ a_word no' ∷ []
named (node.Expr (expr.Compare how a b)) = a_word a ∷ a_word b ∷ []
named (node.Expr (expr.Both a b)) = a_truth a ∷ a_truth b ∷ []
named (node.Stmt (stmt.Set n value)) = a_word value ∷ []
named (node.Stmt (stmt.Write space word value)) = a_word word ∷ a_word value ∷ []
named (node.Stmt (stmt.Load n room word)) = a_word word ∷ []
named (node.Stmt (stmt.Store room word value)) = a_word word ∷ a_word value ∷ []
named (node.Stmt (stmt.Atomic n room word kind a b)) = a_word word ∷ a_word a ∷ a_word b ∷ []
named (node.Stmt (stmt.Sync threads scope classes)) = []
named (node.Stmt (stmt.Guard truth body)) = a_truth truth ∷ a_statement body ∷ []
named (node.Stmt (stmt.If truth yes' no')) = a_truth truth ∷ a_statement yes' ∷ a_statement no' ∷ []
named (node.Stmt (stmt.Loop body)) = a_statement body ∷ []
named (node.Stmt (stmt.Switch on cases)) = a_word on ∷ a_statement cases ∷ []
named (node.Stmt (stmt.Case value next)) = a_statement next ∷ []
named (node.Stmt (stmt.Default next)) = a_statement next ∷ []
named (node.Stmt stmt.Break) = []
named (node.Stmt stmt.Continue) = []
named (node.Stmt stmt.Return) = []
named (node.Stmt (stmt.Then first next)) = a_statement first ∷ a_statement next ∷ []
named (node.Stmt stmt.Nothing) = []

-- the node of that id is there, and of that sort
abbrev pub is_of_sort : Sort → Option Node → Bool
is_of_sort sort None = false
is_of_sort sort (Some n) = same_sort (sort_of n) sort

abbrev pub has : List Node → Name → Bool
has nodes name = is_of_sort name.sort (slice_get nodes name.id)

abbrev pub is_expr : List Node → ℕ → Bool
is_expr nodes id = has nodes (a_word id) || has nodes (a_truth id)

abbrev pub is_thread_id : Kind → Bool
is_thread_id kind.ThreadId = true
is_thread_id kind.GroupId = true
is_thread_id kind.IdInGroup = true
is_thread_id kind.FlatId = true
is_thread_id other = false

-- a divisor is not 0, and a thread id has a component below 3
abbrev pub is_proper : Node → Bool
is_proper (node.Expr (expr.Thread kind c)) = is_thread_id kind && nat_lt c 3
is_proper (node.Expr (expr.Quotient a by)) = nat_lt 0 by
is_proper other = true

-- Behind these nodes the node may stand.
abbrev pub fits : List Node → Node → Bool
fits nodes n = list_all (has nodes) (named n) && is_proper n

-- EACH NODE NAMES EARLIER ONES of the right sorts.
abbrev pub fit_behind : List Node → List Node → Bool
fit_behind before [] = true
fit_behind before (n ∷ nodes) = fits before n && fit_behind (before ++ n ∷ []) nodes

unfoldable pub are_nodes : List Node → Bool
are_nodes nodes = fit_behind [] nodes

-- THE LITERAL OF EACH NODE IS A WORD, a number below 2 ^ 32.
abbrev pub is_short : Node → Bool
is_short (node.Expr (expr.Word w)) = nat_lt w (2 ^ 32)
is_short other = true

unfoldable pub are_short : List Node → Bool
are_short nodes = list_all is_short nodes
