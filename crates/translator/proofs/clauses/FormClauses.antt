-- What the clauses of `form_laws` of spirv_flow say.
use Rattle.std.specs.Prelude.{◌≡◌, ℕ, ◌++◌, ◌∷◌, [], List, IsTrue, false}
use Rattle.shader_tree.specs.Placed.{is_placed}
use Rattle.shader_tree.specs.Terms.{Term}
use Rattle.spirv_words.specs.Form.{Form}
use Rattle.spirv_words.specs.Text.{Instr, is_version}
use Rattle.spirv_symbols.specs.declared.numbered.Numbered.{Numbered}
use Rattle.spirv_symbols.specs.Contexts.{Context}
use Rattle.spirv_symbols.specs.Modules.{Kind, IsReady, module_of}
use Rattle.spirv_symbols.specs.Tables.{Table}
use Rattle.spirv_symbols.specs.Wants.{HasPlaces, wanted_of}
use Rattle.spirv_emit.specs.declared.emitter.Emitter.{Emitter as Emission}
use Rattle.spirv_emit.specs.declared.emitter.Frame.{Frame}
use Rattle.spirv_emit.specs.Sized.{IsSized}
use Rattle.spirv_flow.specs.Formed.{Finishes, IsFitted, KeepsForm}
use Rattle.spirv_flow.specs.Layout.{code_of, leave}
use Rattle.spirv_flow.specs.Lowers.{Lowers, marks}

pub record FormClauses : Type 0 where
  pub keeps : (kind : Kind) (old new : Emission) (x : Term) (t : Table) (cs : List Numbered) (bound : ℕ)
      (h : Lowers old new 0 0 0 false false x) → Finishes old new x t cs bound
      → KeepsForm new.frame.context kind t cs bound (code_of h.layout 0 0 ++ leave ∷ [])
  pub unmarked : (x : Term) → IsTrue (is_placed x) → marks x ≡ 0
  pub fitted : (f : Frame) → IsSized f → IsFitted f
  pub form : (c : Context) (kind : Kind) (t : Table) (cs : List Numbered) (bound : ℕ) (body : List Instr)
      → IsReady c t cs → KeepsForm c kind t cs bound body → HasPlaces c t.entries → IsTrue (is_version kind.version)
      → Form kind.version kind.threads (wanted_of c t.entries) (module_of c kind t.entries cs body bound)
