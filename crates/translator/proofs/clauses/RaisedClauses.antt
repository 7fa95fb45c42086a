-- What the clauses of `raised_lane_laws` of raise_program say.
use Rattle.std.specs.Prelude.{◌≡◌, ℕ, List}
use Rattle.word_base.specs.declared.event.Event.{Event}
use Rattle.word_base.specs.Lanes.{Makes, SameLanes}
use Rattle.word_base.specs.Settings.{Setting}
use Rattle.tpf_decode.specs.Profiles.{Base}
use Rattle.tpf_program.specs.Bytecode.{State as Standing, start, step}
use Rattle.tpf_program.specs.Program.{Shader}
use Rattle.binding_map.specs.Bindings.{Binding}
use Rattle.binding_map.specs.Fits.{Fits, is_null_in}
use Rattle.shader_check.specs.Checked.{IsChecked as BreaksNoRule}
use Rattle.shader_check.specs.Statements.{IsNested}
use Rattle.shader_tree.specs.Lane.{State as TreeState, start as tree_start, step as tree_step}
use Rattle.raise_operands.specs.Raises.{IsChecked}
use Rattle.raise_operands.specs.Vectors.{spaces_of}
use Rattle.word_base.specs.Counted.{Counted, at_count, counted}
use Rattle.raise_program.specs.GoingBack.{times_back}
use Rattle.raise_program.specs.Parts.{parts_of}
use Rattle.raise_program.specs.Raised.{raised}

pub record RaisedClauses : Type 0 where
  pub same : (p : Shader) (tokens : List ℕ) (bindings : List Binding) (nested : IsNested p) (setting : Setting)
      → IsChecked p tokens → BreaksNoRule p → Fits p bindings setting
      → SameLanes (step Base p setting) (tree_step (spaces_of p) setting) start (tree_start
      (raised (parts_of (is_null_in bindings) p) nested.front))
  pub turns : (p : Shader) (tokens : List ℕ) (bindings : List Binding) (nested : IsNested p) (setting : Setting)
      → IsChecked p tokens → BreaksNoRule p → Fits p bindings setting
      → (events : List Event) (answers : List ℕ) (s : Counted Standing) (t : TreeState)
      → Makes (counted (step Base p setting) times_back) (at_count start 0) events answers s
      → Makes (tree_step (spaces_of p) setting) (tree_start (raised (parts_of (is_null_in bindings) p) nested.front))
      events answers t → s.count ≡ t.turns
