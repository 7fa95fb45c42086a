-- What the clauses of `placed_laws` of spirv_setup say.
use Rattle.std.specs.Prelude.{◌≡◌, List, []}
use Rattle.tpf_program.specs.Program.{Shader}
use Rattle.binding_map.specs.Bindings.{Binding, IsMap}
use Rattle.binding_map.specs.Completeness.{binding_refusals}
use Rattle.shader_tree.specs.Terms.{Term}
use Rattle.spirv_symbols.specs.declared.entry.Entry.{Entry}
use Rattle.spirv_emit.specs.declared.emitter.Emitter.{Emitter as Emission}
use Rattle.spirv_emit.specs.Growing.{globals_in}
use Rattle.spirv_emit.specs.Linked.{ArePlaced}
use Rattle.spirv_setup.specs.Named.{IsNamed}
use Rattle.spirv_setup.specs.Premises.{IsDeclared}
use Rattle.spirv_setup.specs.Setup.{IsSetUp}
use Rattle.spirv_setup.specs.SharedPlaces.{places_in}
use Rattle.spirv_setup.specs.Unopened.{AreThere}

pub record PlacedClauses : Type 0 where
  pub placed : (p : Shader) (bindings : List Binding) (e : Emission) (es : List Entry)
      → IsDeclared p → IsMap bindings → IsSetUp p bindings e → globals_in es ≡ globals_in e.symbols.entries
      → ArePlaced e.frame.context es (places_in p bindings)
  pub named : (p : Shader) (bindings : List Binding) (e : Emission) (x : Term)
      → IsDeclared p → IsMap bindings → binding_refusals p bindings ≡ [] → IsSetUp p bindings e
      → IsNamed p bindings x → AreThere e x
