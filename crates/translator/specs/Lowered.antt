-- A program that is lowered: what it needs, and what is written for it.
use Rattle.std.specs.Prelude.{◌≡◌, ℕ, ◌+◌, ◌*◌, ◌≤◌, ◌++◌, List, [], length, IsTrue}
use Rattle.word_base.specs.Words.{AreWords}
use Rattle.tpf_program.specs.Program.{Shader}
use Rattle.shader_check.specs.Checked.{IsChecked as BreaksNoRule}
use Rattle.spirv_words.specs.Text.{Instr, Module, header_of, is_version, words_of_code}
use Rattle.binding_map.specs.Bindings.{Binding, IsMap}
use Rattle.binding_map.specs.Completeness.{binding_refusals}
use Rattle.binding_map.specs.Fits.{is_null_in}
use Rattle.node_pool.specs.Pools.{Pooled}
use Rattle.kept_values.specs.Tables.{IsEmpty, limits_in}
use Rattle.shader_tree.specs.Trees.{Grown}
use Rattle.raise_operands.specs.Bounds.{scratch_words}
use Rattle.raise_program.specs.Whole.{CanBeRaised, IsRaisedTo}
use Rattle.spirv_symbols.specs.declared.numbered.Numbered.{Numbered}
use Rattle.spirv_symbols.specs.Contexts.{IsSmall}
use Rattle.spirv_symbols.specs.Modules.{Kind, interface, module_of}
use Rattle.spirv_symbols.specs.Orders.{Sorts}
use Rattle.spirv_emit.specs.declared.emitter.Emitter.{Emitter}
use Rattle.spirv_emit.specs.Begun.{IsBegun}
use Rattle.spirv_emit.specs.Finished.{text_of}
use Rattle.spirv_flow.specs.Emitting.{EmitsTree}
use Rattle.spirv_setup.specs.Premises.{IsDeclared}
use Rattle.spirv_setup.specs.Setup.{IsSetUp}
use Rattle.binding_map.specs.Wanted.{group_of}

-- A PROGRAM THAT IS LOWERED under a binding map: it breaks no rule, and its constant buffers are bound.
pub record CanBeLowered (p : Shader) (bindings : List Binding) : Type 0 where
  pub raisable : CanBeRaised p
  pub checked : BreaksNoRule p
  pub bound : binding_refusals p bindings ≡ []

-- what is said of its module beside symbols
abbrev pub kind_for : Shader → ℕ → Kind
kind_for p version = record { version = version; threads = group_of p }

-- the module around the code of a function, with the symbols of an emitter and its constants in order
abbrev pub module_for : Shader → ℕ → Emitter → List Numbered → List Instr → Module
module_for p version e cs code =
    module_of e.frame.context (kind_for p version) e.symbols.entries cs code e.symbols.next

-- WHAT IS WRITTEN: the tree of the program, the variables that are declared, the code of the tree, and then the rest of
-- the module, in a last emitter whose code ends behind so many words.
pub record Lowered (p : Shader) (bindings : List Binding) (version : ℕ) (tree : Grown) (e : Emitter)
    (cs : List Numbered) (body : ℕ) : Type 0 where
  pub version' : IsTrue (is_version version)
  pub map : IsMap bindings
  pub declared : IsDeclared p
  pub raised : IsRaisedTo (is_null_in bindings) p tree
  pub begun : Emitter
  pub set_up : IsSetUp p bindings begun
  pub fresh : begun.code.list ≡ []
  pub empty : IsEmpty begun.kept
  pub built : Emitter
  pub emits : EmitsTree begun built tree
  pub stands : IsBegun built
  pub small : IsSmall built.frame.context
  pub few : length (interface version built.symbols.entries) ≤ 339
  pub frame : e.frame ≡ built.frame
  pub symbols : e.symbols ≡ built.symbols
  pub sorted : Sorts e.symbols.entries cs
  pub within : body ≤ length e.code.list
  pub text : (code : List Instr) → built.code.list ≡ words_of_code code
      → text_of body e.code.list ≡ header_of (module_for p version e cs code)
      ++ words_of_code (module_for p version e cs code).code
  pub words : AreWords (text_of body e.code.list)

-- THE ROOM for a program of so many words: in a tree, an emitter and the constants in order.
pub record HasRoomFor (words : ℕ) (tree : Grown) (e : Emitter) (cs : Pooled Numbered) : Type 0 where
  pub nodes : 16 * words + 256 ≤ tree.capacity
  pub code : 256 * words + 8192 ≤ e.code.capacity
  pub ids : 48 * words + 4096 ≤ e.symbols.limit
  pub declared : 2 * words ≤ e.frame.context.capacity
  pub immediates : words ≤ e.frame.context.room
  pub buffers : words ≤ e.frame.buffers.capacity
  pub scratch : scratch_words ≤ (limits_in e.kept).scratch
  pub constants : e.symbols.limit ≤ cs.capacity

-- The room stays.
pub record KeepsRoom (old new : Grown) (e f : Emitter) (cs ds : Pooled Numbered) : Type 0 where
  pub nodes : new.capacity ≡ old.capacity
  pub code : f.code.capacity ≡ e.code.capacity
  pub ids : f.symbols.limit ≡ e.symbols.limit
  pub declared : f.frame.context.capacity ≡ e.frame.context.capacity
  pub immediates : f.frame.context.room ≡ e.frame.context.room
  pub buffers : f.frame.buffers.capacity ≡ e.frame.buffers.capacity
  pub kept : limits_in f.kept ≡ limits_in e.kept
  pub constants : ds.capacity ≡ cs.capacity
