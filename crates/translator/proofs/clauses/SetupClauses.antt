-- What the clauses of `setup_laws` of spirv_setup say.
use Rattle.std.specs.Prelude.{◌≡◌, ◌<◌, ◌≤◌, ◌+◌, ◌*◌, ℕ, Bool, List, [], length}
use Rattle.tpf_program.specs.Program.{Shader}
use Rattle.spirv_words.specs.Globals.{Machine}
use Rattle.binding_map.specs.Bindings.{Binding, IsMap}
use Rattle.binding_map.specs.Completeness.{binding_refusals}
use Rattle.binding_map.specs.Fits.{Fits}
use Rattle.binding_map.specs.Places.{places_of}
use Rattle.spirv_symbols.specs.Contexts.{IsSmall}
use Rattle.spirv_symbols.specs.Modules.{interface as listed}
use Rattle.spirv_symbols.specs.Starts.{AreFound}
use Rattle.spirv_symbols.specs.declared.entry.Entry.{Entry}
use Rattle.spirv_symbols.specs.Wants as wants
use Rattle.spirv_symbols.specs.Wants.{HasPlaces}
use Rattle.shader_tree.specs.declared.node.Node.{Node}
use Rattle.shader_tree.specs.Terms.{term_at}
use Rattle.spirv_emit.specs.Begun.{Names}
use Rattle.spirv_emit.specs.Emission as emission
use Rattle.spirv_emit.specs.Naming.{Opened}
use Rattle.spirv_emit.specs.declared.emitter.Emitter.{Emitter as Emission}
use Rattle.spirv_emit.specs.Growing.{globals_in}
use Rattle.spirv_emit.specs.Lanes.{FitsSetting}
use Rattle.spirv_setup.specs.Named.{IsNamed, spaces_of}
use Rattle.spirv_setup.specs.Premises.{IsDeclared}
use Rattle.spirv_setup.specs.Setup.{IsSetUp}
use Rattle.spirv_setup.specs.Variables.{variables}
use Rattle.binding_map.specs.Wanted.{wanted_of}

pub record SetupClauses : Type 0 where
  pub fits : (p : Shader) (bindings : List Binding) (e : Emission) (es : List Entry) (m : Machine) (separate : Bool)
      → IsDeclared p → IsMap bindings → IsSetUp p bindings e → globals_in es ≡ globals_in e.symbols.entries
      → m.places ≡ places_of bindings → Fits p bindings m.setting
      → FitsSetting (record e.frame { separate = separate }) es m
  pub found : (p : Shader) (bindings : List Binding) (e : Emission) (es : List Entry) (m : Machine)
      → IsDeclared p → IsMap bindings → IsSetUp p bindings e → globals_in es ≡ globals_in e.symbols.entries
      → m.places ≡ places_of bindings → Fits p bindings m.setting → AreFound e.frame.context es m
  pub places : (p : Shader) (bindings : List Binding) (e : Emission) (es : List Entry)
      → IsDeclared p → IsMap bindings → IsSetUp p bindings e → globals_in es ≡ globals_in e.symbols.entries
      → HasPlaces e.frame.context es
  pub wanted : (p : Shader) (bindings : List Binding) (e : Emission) (es : List Entry)
      → IsDeclared p → IsMap bindings → IsSetUp p bindings e → globals_in es ≡ globals_in e.symbols.entries
      → wants.wanted_of e.frame.context es ≡ wanted_of p bindings
  pub spaces : (p : Shader) (bindings : List Binding) (e : Emission) (separate : Bool)
      → IsDeclared p → binding_refusals p bindings ≡ [] → IsSetUp p bindings e
      → emission.spaces_of (record e.frame { separate = separate }) ≡ spaces_of p
  pub names : (p : Shader) (bindings : List Binding) (e o : Emission) (nodes : List Node) (id : ℕ)
      → IsDeclared p → IsMap bindings → binding_refusals p bindings ≡ [] → IsSetUp p bindings e → Opened e o nodes
      → IsNamed p bindings (term_at nodes id) → Names o (term_at nodes id)
  pub few : (p : Shader) (bindings : List Binding) → IsDeclared p → IsMap bindings
      → length (variables p bindings) ≤ 2 * length p.declarations + 1
  pub interface : (p : Shader) (bindings : List Binding) (e : Emission) (es : List Entry) (version : ℕ)
      → IsDeclared p → IsMap bindings → IsSetUp p bindings e → globals_in es ≡ globals_in e.symbols.entries
      → length (listed version es) ≤ 339
  pub small : (p : Shader) (bindings : List Binding) (e : Emission) → IsSetUp p bindings e
      → length p.constants < 65000 → IsSmall e.frame.context
