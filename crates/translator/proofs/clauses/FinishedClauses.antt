-- What the clauses of `finished_laws` of spirv_emit say.
use Rattle.std.specs.Prelude.{◌≡◌, ℕ, List, [], ◌∷◌, ◌++◌, IsTrue}
use Rattle.std.specs.List.{list_all}
use Rattle.word_base.specs.Settings.{Setting}
use Rattle.spirv_words.specs.Globals.{Places}
use Rattle.spirv_words.specs.Lane.{machine}
use Rattle.spirv_words.specs.Operands.{is_sorted}
use Rattle.spirv_words.specs.Text.{Instr, instruction}
use Rattle.spirv_words.specs.Operations.{OpFunctionEnd}
use Rattle.kept_values.specs.Tables as kept
use Rattle.spirv_symbols.specs.Starts.{AreFound}
use Rattle.spirv_symbols.specs.declared.numbered.Numbered.{Numbered}
use Rattle.spirv_symbols.specs.Modules.{Kind, IsReady, IsBody, HasIds, module_code, module_of}
use Rattle.spirv_symbols.specs.Tables.{Table, Stands, Extends}
use Rattle.spirv_emit.specs.declared.emitter.Emitter.{Emitter as Emission}
use Rattle.spirv_emit.specs.declared.emitter.Frame.{Frame}
use Rattle.spirv_emit.specs.Growing.{Completes}
use Rattle.spirv_emit.specs.Lanes.{Site, FitsSetting, IsWhole}
use Rattle.spirv_emit.specs.Finished.{site, Opens}
use Rattle.spirv_emit.specs.Linked.{ArePlaced, IsLinked}

pub record FinishedClauses : Type 0 where
  pub whole : (f : Frame) (kind : Kind) (t : Table) (cs : List Numbered) (body : List Instr) (bound : ℕ)
      (places : Places) (setting : Setting) → IsReady f.context t cs → IsBody body → HasIds t bound body
      → IsTrue (list_all (is_sorted (module_code f.context kind t.entries cs body)) body)
      → FitsSetting f t.entries (machine (module_of f.context kind t.entries cs body bound) places setting)
      → IsWhole (site f kind t cs body bound places setting)
  pub linked : (f : Frame) (kind : Kind) (t : Table) (cs : List Numbered) (body : List Instr) (bound : ℕ)
      (own places : Places) (setting : Setting) → IsReady f.context t cs → IsBody body → HasIds t bound body
      → ArePlaced f.context t.entries places
      → IsLinked (site f kind t cs body bound own setting) places
  pub completes : (e : Emission) (t : Table) (z : Site) → Stands z.frame.context t → z.names ≡ t.entries
      → e.frame ≡ z.frame → Extends e.symbols t → IsWhole z → Completes e z
  pub opens : (f : Frame) (kind : Kind) (t : Table) (cs : List Numbered) (body : List Instr) (bound : ℕ)
      (places : Places) (setting : Setting) (table : kept.Table) → IsReady f.context t cs → IsBody body
      → AreFound f.context t.entries (machine (module_of f.context kind t.entries cs body bound) places setting)
      → kept.IsEmpty table
      → Opens (site f kind t cs body bound places setting) (module_of f.context kind t.entries cs body bound)
      places setting (body ++ instruction OpFunctionEnd [] ∷ []) table
