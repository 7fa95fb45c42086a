-- The versions of SPIR-V that a module may have, by the second word of its header (SPIR-V specification, unified1, section
-- 2.3).
use Rattle.std.specs.Prelude.{ℕ}
use Rattle.spirv_words.specs.declared.version.Version.{Version}
use Rattle.spirv_words.specs.declared.version.Version.TheVariants.{V13, V14}
use Rattle.spirv_words.specs.Enumerants.{Version13, Version14}

abbrev pub number_of_version : Version → ℕ
number_of_version V13 = Version13
number_of_version V14 = Version14
