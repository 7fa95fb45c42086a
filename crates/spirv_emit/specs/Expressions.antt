-- What a node of a tree needs so that the code of its expression can be written, and what is written then.
use Rattle.std.specs.Prelude.{ℕ, ◌+◌, ◌≤◌, List, IsTrue}
use Rattle.shader_tree.specs.declared.node.Node.{Node}
use Rattle.shader_tree.specs.Costs.{words_in, ids_in}
use Rattle.shader_tree.specs.Nodes.{is_expr}
use Rattle.shader_tree.specs.Terms.{Term, term_at}
use Rattle.spirv_emit.specs.Begun.{IsBegun, Names}
use Rattle.spirv_emit.specs.Emission.{Emission, words_left, ids_left}
use Rattle.spirv_emit.specs.Values.{Emitted}

pub record May (nodes : List Node) (e : Emission) (id : ℕ) : Type 0 where
  pub expression : IsTrue (is_expr nodes id)
  pub begun : IsBegun e
  pub names : Names e (term_at nodes id)
  pub words : words_in (term_at nodes id) ≤ words_left e
  pub ids : ids_in (term_at nodes id) ≤ ids_left e

pub record Did (old new : Emission) (x : Term) (r : ℕ) : Type 0 where
  pub emitted : Emitted old new x r
  pub begun : IsBegun new
  pub words : words_left old ≤ words_left new + words_in x
  pub ids : ids_left old ≤ ids_left new + ids_in x
