-- A whole program as a tree.
use Rattle.std.specs.Prelude.{◌≡◌, ℕ, Bool, List, Some}
use Rattle.word_base.specs.declared.event.Room.{Room}
use Rattle.tpf_program.specs.Program.{Shader}
use Rattle.shader_check.specs.Statements.{IsNested}
use Rattle.shader_tree.specs.Terms.{term_at}
use Rattle.shader_tree.specs.Trees.{Grown}
use Rattle.raise_operands.specs.Raises.{IsChecked}
use Rattle.raise_program.specs.Parts.{parts_of}
use Rattle.raise_program.specs.Raised.{raised}

-- A PROGRAM THAT IS RAISED: words spell it, it breaks no rule, and its instructions are nested statements with a `ret`
-- behind.
pub record CanBeRaised (p : Shader) : Type 0 where
  pub tokens : List ℕ
  pub checked : IsChecked p tokens
  pub nested : IsNested p

-- WHAT IT IS RAISED TO: the root of the tree is what the statements of its nesting are raised to.
pub record IsRaisedTo (is_null : Room → Bool) (p : Shader) (tree : Grown) : Type 0 where
  pub nested : IsNested p
  pub root : ℕ
  pub is_root : tree.root ≡ Some root
  pub term : term_at tree.nodes root ≡ raised (parts_of is_null p) nested.front
