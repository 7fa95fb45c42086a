-- The sections that declare the symbols of a table: which entries stand in each, in which order, and their words.
use Rattle.std.specs.Prelude.{ℕ, nat_eq, Bool, List, filter, flat_map, map}
use Rattle.spirv_words.specs.Text.{Instr}
use Rattle.spirv_symbols.specs.declared.symbol.Section.{Section}
use Rattle.spirv_symbols.specs.declared.symbol.Section.TheVariants.{Imports, Types, Constants, Declarations, Heads, Labels, Locals}
use Rattle.spirv_symbols.specs.declared.entry.Entry.{Entry}
use Rattle.spirv_symbols.specs.Contexts.{Context}
use Rattle.spirv_symbols.specs.Rows.{section_of, decorations_for}
use Rattle.spirv_symbols.specs.Tables.{instr_of}

-- the order of the sections
abbrev pub order : Section → ℕ
order Imports = 0
order Types = 1
order Constants = 2
order Declarations = 3
order Heads = 4
order Labels = 5
order Locals = 6

abbrev pub in_section : Context → Section → Entry → Bool
in_section context section e = nat_eq (order (section_of context e.symbol)) (order section)

-- the entries of a section, in the order of the table
abbrev pub part_of : Context → Section → List Entry → List Entry
part_of context section entries = filter (in_section context section) entries

-- their instructions
abbrev pub code_of : Context → List Entry → List Entry → List Instr
code_of context entries part = map (instr_of context entries) part

abbrev pub section_code : Context → Section → List Entry → List Instr
section_code context section entries = code_of context entries (part_of context section entries)

-- the decorations of all entries
abbrev pub decorations_of : Context → List Entry → List Instr
decorations_of context entries = flat_map (λ e. decorations_for context e.symbol e.id) entries
