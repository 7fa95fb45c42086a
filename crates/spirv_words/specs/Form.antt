-- The form of a module: what every module of the translator keeps to, for a version of SPIR-V, a size of thread groups and the variables
-- that its program wants.
use Rattle.std.specs.Prelude.{ℕ, IsTrue}
use Rattle.word_base.specs.Settings.{Axes}
use Rattle.spirv_words.specs.Text.{Module}
use Rattle.spirv_words.specs.Definitions.{has_single_definitions, has_distinct_types, has_sorts, has_local_results}
use Rattle.spirv_words.specs.Sections.{has_header, has_sections, has_interface}
use Rattle.spirv_words.specs.Structure.{has_blocks, has_merges, has_branches, has_switch_order}
use Rattle.spirv_words.specs.Variables.{Wanted, has_variables}

pub record Form (version : ℕ) (threads : Axes) (wanted : Wanted) (m : Module) : Type 0 where
  pub header : IsTrue (has_header version m)
  pub sections : IsTrue (has_sections threads m.code)
  pub single_definition : IsTrue (has_single_definitions m.bound m.code)
  pub distinct_types : IsTrue (has_distinct_types m.code)
  pub sorts : IsTrue (has_sorts m.code)
  pub local_results : IsTrue (has_local_results m.code)
  pub blocks : IsTrue (has_blocks m.code)
  pub merges : IsTrue (has_merges m.code)
  pub branches : IsTrue (has_branches m.code)
  pub variables : IsTrue (has_variables wanted m.code)
  pub switch_order : IsTrue (has_switch_order m.code)
  pub interface : IsTrue (has_interface version m.code)
