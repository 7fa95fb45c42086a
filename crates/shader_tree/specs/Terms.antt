-- Terms: what the nodes of a tree stand for. A term has the name of its node and holds the terms of the nodes that it
-- names.
use Rattle.std.specs.Prelude.{◌≡◌, ℕ, zero, suc, ◌<◌, ◌≤◌, Bool, IsTrue, List, [], ◌∷◌, length, Option, Some, None, slice_get}
use Rattle.word_base.specs.declared.arithmetic.Unary.{Unary}
use Rattle.word_base.specs.declared.arithmetic.Binary.{Binary}
use Rattle.word_base.specs.declared.arithmetic.Ternary.{Ternary}
use Rattle.word_base.specs.declared.arithmetic.Paired.{Paired}
use Rattle.word_base.specs.declared.event.Act.{Act}
use Rattle.word_base.specs.declared.event.Classes.{Classes}
use Rattle.word_base.specs.declared.event.Room.{Room}
use Rattle.word_base.specs.declared.event.Scope.{Scope}
use Rattle.tpf_decode.specs.declared.argument.Kind.{Kind}
use Rattle.shader_tree.specs.declared.node.Comparison.{Comparison}
use Rattle.shader_tree.specs.declared.node.Space.{Space}
use Rattle.shader_tree.specs.declared.node.Expr.TheVariants as expr
use Rattle.shader_tree.specs.declared.node.Stmt.TheVariants as stmt
use Rattle.shader_tree.specs.declared.node.Node.{Node}
use Rattle.shader_tree.specs.declared.node.Node.TheVariants as node
use Rattle.shader_tree.specs.Nodes.{Sort, Name, named, sort_of, has, is_proper}

pub data Term : Type 0 where
  Word : (word : ℕ) → Term
  Scratch : (n : ℕ) → Term
  Thread : (kind : Kind) (component : ℕ) → Term
  Read : (space : Space) (word : Term) → Term
  Length : (room : Room) → Term
  One : (op : Unary) (a : Term) → Term
  Two : (op : Binary) (a b : Term) → Term
  Three : (op : Ternary) (a b c : Term) → Term
  Insert : (width offset inserted base : Term) → Term
  First : (op : Paired) (a b : Term) → Term
  Second : (op : Paired) (a b : Term) → Term
  Quotient : (a : Term) (by : ℕ) → Term
  Product : (a : Term) (by : ℕ) → Term
  Pick : (truth yes' no' : Term) → Term
  Compare : (how : Comparison) (a b : Term) → Term
  Both : (a b : Term) → Term
  Set : (n : ℕ) (value : Term) → Term
  Write : (space : Space) (word value : Term) → Term
  Load : (n : ℕ) (room : Room) (word : Term) → Term
  Store : (room : Room) (word value : Term) → Term
  Atomic : (n : ℕ) (room : Room) (word : Term) (kind : Act) (a b : Term) → Term
  Sync : (threads : Bool) (scope : Scope) (classes : Classes) → Term
  Guard : (truth body : Term) → Term
  If : (truth yes' no' : Term) → Term
  Loop : (body : Term) → Term
  Switch : (on cases : Term) → Term
  Case : (value : ℕ) (next : Term) → Term
  Default : (next : Term) → Term
  Break : Term
  Continue : Term
  Return : Term
  Then : (first next : Term) → Term
  Nothing : Term

-- THE TERM OF A NODE, by the terms of the ids that it names.
abbrev pub term_by : (ℕ → Term) → Node → Term
term_by term (node.Expr (expr.Word w)) = Word w
term_by term (node.Expr (expr.Scratch n)) = Scratch n
term_by term (node.Expr (expr.Thread kind c)) = Thread kind c
term_by term (node.Expr (expr.Read space word)) = Read space (term word)
term_by term (node.Expr (expr.Length room)) = Length room
term_by term (node.Expr (expr.One op a)) = One op (term a)
term_by term (node.Expr (expr.Two op a b)) = Two op (term a) (term b)
term_by term (node.Expr (expr.Three op a b c)) = Three op (term a) (term b) (term c)
term_by term (node.Expr (expr.Insert width offset inserted base)) =
    Insert (term width) (term offset) (term inserted) (term base)
term_by term (node.Expr (expr.First op a b)) = First op (term a) (term b)
term_by term (node.Expr (expr.Second op a b)) = Second op (term a) (term b)
term_by term (node.Expr (expr.Quotient a by)) = Quotient (term a) by
term_by term (node.Expr (expr.Product a by)) = Product (term a) by
term_by term (node.Expr (expr.Pick truth yes' no')) = Pick (term truth) (term yes') (term no')
term_by term (node.Expr (expr.Compare how a b)) = Compare how (term a) (term b)
term_by term (node.Expr (expr.Both a b)) = Both (term a) (term b)
term_by term (node.Stmt (stmt.Set n value)) = Set n (term value)
term_by term (node.Stmt (stmt.Write space word value)) = Write space (term word) (term value)
term_by term (node.Stmt (stmt.Load n room word)) = Load n room (term word)
term_by term (node.Stmt (stmt.Store room word value)) = Store room (term word) (term value)
term_by term (node.Stmt (stmt.Atomic n room word kind a b)) = Atomic n room (term word) kind (term a) (term b)
term_by term (node.Stmt (stmt.Sync threads scope classes)) = Sync threads scope classes
term_by term (node.Stmt (stmt.Guard truth body)) = Guard (term truth) (term body)
term_by term (node.Stmt (stmt.If truth yes' no')) = If (term truth) (term yes') (term no')
term_by term (node.Stmt (stmt.Loop body)) = Loop (term body)
term_by term (node.Stmt (stmt.Switch on cases)) = Switch (term on) (term cases)
term_by term (node.Stmt (stmt.Case value next)) = Case value (term next)
term_by term (node.Stmt (stmt.Default next)) = Default (term next)
term_by term (node.Stmt stmt.Break) = Break
term_by term (node.Stmt stmt.Continue) = Continue
term_by term (node.Stmt stmt.Return) = Return
term_by term (node.Stmt (stmt.Then first next)) = Then (term first) (term next)
term_by term (node.Stmt stmt.Nothing) = Nothing

-- The term of an id. A node names earlier ones, so a depth above the id is enough; an id of no node stands for no
-- statement.
abbrev pub term_for : (ℕ → Term) → Option Node → Term
term_for term None = Nothing
term_for term (Some n) = term_by term n

unfoldable pub term_within : ℕ → List Node → ℕ → Term
term_within zero nodes id = Nothing
term_within (suc depth) nodes id = term_for (term_within depth nodes) (slice_get nodes id)

unfoldable pub term_at : List Node → ℕ → Term
term_at nodes id = term_within (suc id) nodes id

-- Nodes were added at the end: old ids keep their nodes, and so their terms.
pub record Extends (old new : List Node) : Type 0 where
  pub count : length old ≤ length new
  pub nodes : (id : ℕ) (n : Node) → slice_get old id ≡ Some n → slice_get new id ≡ Some n
  pub names : (name : Name) → IsTrue (has old name) → IsTrue (has new name)
  pub terms : (id : ℕ) → id < length old → term_at new id ≡ term_at old id

-- The nodes that a node at that place names stand in front of it, and are of the right sorts.
abbrev pub AreEarlier : List Node → ℕ → List Name → Type 0
AreEarlier nodes id [] = Unit {0}
AreEarlier nodes id (name ∷ names) = (name.id < id) × IsTrue (has nodes name) × AreEarlier nodes id names

-- What a node that stands there says of its id: its term is that of the node, which names earlier ones.
pub record Stands (nodes : List Node) (id : ℕ) (n : Node) : Type 0 where
  pub node : slice_get nodes id ≡ Some n
  pub term : term_at nodes id ≡ term_by (term_at nodes) n
  pub names : AreEarlier nodes id (named n)
  pub proper : IsTrue (is_proper n)

-- Nodes were added, and the one with that id is of that sort and stands for that term.
pub record Makes (old new : List Node) (sort : Sort) (id : ℕ) (t : Term) : Type 0 where
  pub extends : Extends old new
  pub sorted : IsTrue (has new (record { sort = sort; id = id }))
  pub term : term_at new id ≡ t

-- The node was added: it is of its sort, and stands for its term by the nodes in front of it.
abbrev pub Adds : List Node → List Node → Node → ℕ → Type 0
Adds old new n id = Makes old new (sort_of n) id (term_by (term_at old) n)
