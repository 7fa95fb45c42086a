-- What the clauses of `raised_tree_laws` of raise_program say.
use Rattle.std.specs.Prelude.{ℕ, List}
use Rattle.tpf_program.specs.Program.{Shader}
use Rattle.binding_map.specs.Bindings.{Binding}
use Rattle.binding_map.specs.Fits.{is_null_in}
use Rattle.shader_check.specs.Checked.{IsChecked as BreaksNoRule}
use Rattle.shader_check.specs.Statements.{IsNested}
use Rattle.raise_operands.specs.Raises.{IsChecked}
use Rattle.raise_program.specs.Parts.{parts_of}
use Rattle.raise_program.specs.Raised.{raised}
use Rattle.raise_program.specs.TreeOf.{IsTreeOf}

pub record TreeClauses : Type 0 where
  pub holds : (p : Shader) (tokens : List ℕ) (bindings : List Binding) (nested : IsNested p) → IsChecked p tokens
      → BreaksNoRule p → IsTreeOf p bindings (raised (parts_of (is_null_in bindings) p) nested.front)
