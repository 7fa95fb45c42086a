-- An emitter with all that a program and its binding map declare, in front of the code of the program's tree.
use Rattle.std.specs.Prelude.{◌≡◌, ℕ, ◌*◌, ◌<◌, ◌≤◌, true, List, length}
use Rattle.std.specs.List.{list_any}
use Rattle.tpf_decode.specs.declared.argument.Kind.TheVariants as kind
use Rattle.tpf_program.specs.Program.{Shader}
use Rattle.tpf_program.specs.Sizes.{temps_of}
use Rattle.tpf_program.specs.Uses.{declares}
use Rattle.binding_map.specs.Bindings.{Binding}
use Rattle.spirv_symbols.specs.declared.symbol.Symbol.{Symbol}
use Rattle.spirv_symbols.specs.declared.symbol.Symbol.TheVariants.{Elements, ImmediateArray}
use Rattle.spirv_symbols.specs.Contexts.{declared_of, declared_among}
use Rattle.spirv_emit.specs.Begun.{IsBegun, IsThere, IsNew, IsUnsaid}
use Rattle.spirv_emit.specs.declared.emitter.Emitter.{Emitter as Emission}
use Rattle.spirv_emit.specs.Growing.{globals_in}
use Rattle.spirv_setup.specs.Descriptions.{descriptions, buffers_of}
use Rattle.spirv_setup.specs.Variables.{variables}
use Rattle.binding_map.specs.Wanted.{push_words}

-- WHAT IS SAID of the program and its map.
pub record IsDescribed (p : Shader) (bindings : List Binding) (e : Emission) : Type 0 where
  pub variables : (s : Symbol) → declared_of e.frame.context s ≡ declared_among (descriptions p bindings) s
  pub registers : e.frame.context.registers ≡ 4 * temps_of p.declarations
  pub pushed : e.frame.context.pushed ≡ push_words p bindings
  pub immediates : e.frame.context.immediates ≡ p.constants
  pub buffers : e.frame.buffers.list ≡ buffers_of p bindings

-- WHAT IS THERE: the global variables that are wanted and no others, and the arrays of the lane's words but those of r#.
pub record IsSetUp (p : Shader) (bindings : List Binding) (e : Emission) : Type 0 where
  pub begun : IsBegun e
  pub described : IsDescribed p bindings e
  pub globals : globals_in e.symbols.entries ≡ variables p bindings
  pub elements : (slot : ℕ) → list_any (λ d. declares d.what kind.Indexable slot) p.declarations ≡ true
      → IsThere e.symbols.entries (Elements slot)
  pub immediates : 0 < length p.constants → IsThere e.symbols.entries ImmediateArray

-- THE ROOM that an emitter must have: for what is said, and for what is named.
pub record HasRoom (p : Shader) (e : Emission) : Type 0 where
  pub new : IsNew e
  pub unsaid : IsUnsaid e.frame
  pub declared : 2 * length p.declarations ≤ e.frame.context.capacity
  pub immediates : length p.constants ≤ e.frame.context.room
  pub buffers : length p.declarations ≤ e.frame.buffers.capacity
