-- What the clauses of `form_laws` of spirv_symbols say.
use Rattle.std.specs.Prelude.{ℕ, ◌<◌, List, length, IsTrue}
use Rattle.std.specs.List.{list_all}
use Rattle.spirv_words.specs.Text.{Instr, is_instr}
use Rattle.spirv_words.specs.Operands.{is_sorted}
use Rattle.spirv_words.specs.Definitions.{has_single_definitions, has_distinct_types, has_sorts}
use Rattle.spirv_words.specs.Sections.{has_sections, has_interface}
use Rattle.spirv_words.specs.Variables.{is_variable_well, has_variables}
use Rattle.spirv_symbols.specs.declared.numbered.Numbered.{Numbered}
use Rattle.spirv_symbols.specs.Contexts.{Context, IsSmall}
use Rattle.spirv_symbols.specs.Modules.{Kind, IsReady, IsBody, HasIds, interface as listed, module_code}
use Rattle.spirv_symbols.specs.Wants.{HasPlaces, wanted_of}
use Rattle.spirv_symbols.specs.Tables.{Table}

pub record ModuleFormClauses : Type 0 where
  pub sections : (c : Context) (kind : Kind) (t : Table) (cs : List Numbered) (body : List Instr)
      → IsReady c t cs → IsBody body → IsTrue (has_sections kind.threads (module_code c kind t.entries cs body))
  pub single : (c : Context) (kind : Kind) (t : Table) (cs : List Numbered) (body : List Instr) (bound : ℕ)
      → IsReady c t cs → HasIds t bound body
      → IsTrue (has_single_definitions bound (module_code c kind t.entries cs body))
  pub types : (c : Context) (kind : Kind) (t : Table) (cs : List Numbered) (body : List Instr)
      → IsReady c t cs → IsBody body → IsTrue (has_distinct_types (module_code c kind t.entries cs body))
  pub sorts : (c : Context) (kind : Kind) (t : Table) (cs : List Numbered) (body : List Instr)
      → IsReady c t cs → IsBody body → IsTrue (list_all (is_sorted (module_code c kind t.entries cs body)) body)
      → IsTrue (has_sorts (module_code c kind t.entries cs body))
  pub variables : (c : Context) (kind : Kind) (t : Table) (cs : List Numbered) (body : List Instr)
      → IsReady c t cs → IsBody body → HasPlaces c t.entries
      → IsTrue (list_all (is_variable_well (module_code c kind t.entries cs body)) body)
      → IsTrue (has_variables (wanted_of c t.entries) (module_code c kind t.entries cs body))
  pub interface : (c : Context) (kind : Kind) (t : Table) (cs : List Numbered) (body : List Instr)
      → IsReady c t cs → IsBody body → IsTrue (has_interface kind.version (module_code c kind t.entries cs body))
  pub instructions : (c : Context) (kind : Kind) (t : Table) (cs : List Numbered) (body : List Instr)
      → IsReady c t cs → IsSmall c → length (listed kind.version t.entries) < 65000
      → IsTrue (list_all is_instr body) → IsTrue (list_all is_instr (module_code c kind t.entries cs body))
