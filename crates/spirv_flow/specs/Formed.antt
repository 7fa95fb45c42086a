-- What the code of a function's blocks owes to the form of its module (SPIR-V specification, unified1, sections 2.4,
-- 2.11 and 2.16).
use Rattle.std.specs.Prelude.{◌≡◌, ℕ, ◌<◌, ◌≤◌, List, IsTrue}
use Rattle.std.specs.List.{list_all}
use Rattle.kept_values.specs.Tables.{IsEmpty}
use Rattle.shader_tree.specs.Terms.{Term}
use Rattle.word_base.specs.Settings.{Setting}
use Rattle.spirv_words.specs.Globals.{Places}
use Rattle.spirv_words.specs.Lane.{machine}
use Rattle.spirv_words.specs.Definitions.{results, are_distinct, has_local_results}
use Rattle.spirv_words.specs.Operands.{is_sorted}
use Rattle.spirv_words.specs.Variables.{is_variable_well}
use Rattle.spirv_words.specs.Text.{Instr, Module, is_instr}
use Rattle.spirv_symbols.specs.declared.entry.Entry.{Entry}
use Rattle.spirv_symbols.specs.declared.numbered.Numbered.{Numbered}
use Rattle.spirv_symbols.specs.Contexts.{Context}
use Rattle.spirv_symbols.specs.Tables.{Table, Extends}
use Rattle.spirv_symbols.specs.Modules.{Kind, IsReady, IsBody, HasIds, module_code}
use Rattle.spirv_emit.specs.Emission.{next_of}
use Rattle.spirv_emit.specs.declared.emitter.Emitter.{Emitter as Emission}
use Rattle.spirv_emit.specs.declared.emitter.Frame.{Frame}
use Rattle.spirv_emit.specs.Lanes.{FitsSetting}
use Rattle.spirv_emit.specs.Sized.{IsSized}
use Rattle.spirv_flow.specs.Fronts.{IsStructured}
use Rattle.spirv_flow.specs.Lowers.{marks}

-- A statement's blocks were written from one emitter to another, behind which a table is finished: no word was kept in
-- front of them, no case stands directly in the statement, and all ids are below the bound.
pub record Finishes (old new : Emission) (x : Term) (t : Table) (cs : List Numbered) (bound : ℕ) : Type 0 where
  pub empty : IsEmpty old.kept
  pub some : 0 < next_of old
  pub unmarked : marks x ≡ 0
  pub ready : IsReady new.frame.context t cs
  pub extends : Extends new.symbols t
  pub next : t.next ≤ bound
  pub sized : IsSized new.frame

-- The code does its part for the form of the module around it.
pub record KeepsForm (c : Context) (kind : Kind) (t : Table) (cs : List Numbered) (bound : ℕ) (body : List Instr) :
    Type 0 where
  pub in_function : IsBody body
  pub ids : HasIds t bound body
  pub distinct : IsTrue (are_distinct (results (module_code c kind t.entries cs body)))
  pub instructions : IsTrue (list_all is_instr body)
  pub sorts : IsTrue (list_all (is_sorted (module_code c kind t.entries cs body)) body)
  pub variables : IsTrue (list_all (is_variable_well (module_code c kind t.entries cs body)) body)
  pub local_results : IsTrue (has_local_results (module_code c kind t.entries cs body))
  pub structured : IsStructured (module_code c kind t.entries cs body)

-- Some setting fits a frame, whatever its module is.
pub record IsFitted (f : Frame) : Type 0 where
  pub places : Places
  pub setting : Setting
  pub fits : (names : List Entry) (m : Module) → FitsSetting f names (machine m places setting)
