-- What a contract sees of a tree.
use Rattle.std.specs.Prelude.{ℕ, Bool, true, List, Option, Some, None}
use Rattle.shader_tree.specs.declared.node.Node.{Node}
use Rattle.shader_tree.specs.Nodes.{has, a_statement}

-- the nodes in their order, how many there may be, and the statement that is its root, once it is set
pub record Grown : Type 0 where
  pub nodes : List Node
  pub capacity : ℕ
  pub root : Option ℕ

abbrev pub grown : List Node → ℕ → Option ℕ → Grown
grown nodes capacity root = record { nodes = nodes; capacity = capacity; root = root }

-- a root is a statement of the tree
abbrev pub is_root : List Node → Option ℕ → Bool
is_root nodes None = true
is_root nodes (Some id) = has nodes (a_statement id)
