-- A module around the code of its function.
use Rattle.std.specs.Prelude.{List, ◌++◌}
use Rattle.word_base.specs.Settings.{axes}
use Rattle.spirv_words.specs.Text.{Instr}
use Rattle.spirv_symbols.specs.declared.symbol.Section.TheVariants.{Heads, Labels, Locals}
use Rattle.spirv_symbols.specs.declared.module.Kind as declared
use Rattle.spirv_symbols.specs.Contexts.{Context}
use Rattle.spirv_symbols.specs.Tables.{Entry}
use Rattle.spirv_symbols.specs.Sections.{section_code}
use Rattle.spirv_symbols.specs.Modules.{Kind}

abbrev pub kind_of : declared.Kind → Kind
kind_of k = record { version = k.version; threads = axes k.x k.y k.z }

-- the function, its first label and its variables, in front of the code
abbrev pub head : Context → List Entry → List Instr
head context entries =
    section_code context Heads entries ++ (section_code context Labels entries ++ section_code context Locals entries)
