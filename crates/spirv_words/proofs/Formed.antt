-- A module has the form exactly where it breaks none of the conditions.
use Rattle.std.proofs.Common.{◌≡◌, ℕ, Bool, true, false, List, [], refl}
use Rattle.word_base.specs.Settings.{Axes}
use Rattle.spirv_words.specs.Text.{Module}
use Rattle.spirv_words.specs.Sections.{has_header, has_sections, has_interface}
use Rattle.spirv_words.specs.Definitions.{has_single_definitions, has_distinct_types, has_sorts, has_local_results}
use Rattle.spirv_words.specs.Structure.{has_blocks, has_merges, has_branches, has_switch_order}
use Rattle.spirv_words.specs.Variables.{Wanted, has_variables}
use Rattle.spirv_words.specs.Broken.{Condition, Header, Sections, SingleDefinition, DistinctTypes, Sorts, LocalResults, Blocks, Merges, Branches, Variables, SwitchOrder, Interface, unless, broken_in}
use Rattle.spirv_words.specs.Form.{Form}

-- a condition that is not broken, and those behind it
held : (test : Bool) (c : Condition) (rest : List Condition) → unless test c rest ≡ [] → (test ≡ true) × (rest ≡ [])
held true c rest e = (refl, e)
held false c rest e = absurd cc

pub whole : (version : ℕ) (threads : Axes) (wanted : Wanted) (m : Module) → broken_in version threads wanted m ≡ [] → Form version threads wanted m
whole version threads wanted m e =
    let header = held (has_header version m) Header _ e in
    let sections = held (has_sections threads m.code) Sections _ header.1 in
    let single = held (has_single_definitions m.bound m.code) SingleDefinition _ sections.1 in
    let distinct = held (has_distinct_types m.code) DistinctTypes _ single.1 in
    let sorts = held (has_sorts m.code) Sorts _ distinct.1 in
    let local = held (has_local_results m.code) LocalResults _ sorts.1 in
    let blocks = held (has_blocks m.code) Blocks _ local.1 in
    let merges = held (has_merges m.code) Merges _ blocks.1 in
    let branches = held (has_branches m.code) Branches _ merges.1 in
    let variables = held (has_variables wanted m.code) Variables _ branches.1 in
    let switches = held (has_switch_order m.code) SwitchOrder _ variables.1 in
    let interface = held (has_interface version m.code) Interface [] switches.1 in
    record {
      header = header.0;
      sections = sections.0;
      single_definition = single.0;
      distinct_types = distinct.0;
      sorts = sorts.0;
      local_results = local.0;
      blocks = blocks.0;
      merges = merges.0;
      branches = branches.0;
      variables = variables.0;
      switch_order = switches.0;
      interface = interface.0;
    }

pub back : (version : ℕ) (threads : Axes) (wanted : Wanted) (m : Module) → Form version threads wanted m → broken_in version threads wanted m ≡ []
back version threads wanted m f =
    rw (
      f.header,
      f.sections,
      f.single_definition,
      f.distinct_types,
      f.sorts,
      f.local_results,
      f.blocks,
      f.merges,
      f.branches,
      f.variables,
      f.switch_order,
      f.interface,
    ) refl
