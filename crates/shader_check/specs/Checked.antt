-- What a program's declarations, uses and structure have to keep.
use Rattle.std.specs.Prelude.{◌≡◌, List, [], ◌++◌}
use Rattle.word_base.specs.declared.rule.Refusal.{Refusal}
use Rattle.tpf_decode.specs.Profiles.{Base}
use Rattle.tpf_program.specs.Declarations.{declaration_refusals}
use Rattle.tpf_program.specs.Nesting.{nesting_refusals}
use Rattle.tpf_program.specs.Program.{Shader}
use Rattle.tpf_program.specs.Uses.{use_refusals}

-- every broken rule on declarations, on what is used, and on structure
abbrev pub checked_refusals : Shader → List Refusal
checked_refusals p = declaration_refusals 0 p ++ (use_refusals Base p ++ nesting_refusals Base p)

-- no such rule is broken
abbrev pub IsChecked : Shader → Type 0
IsChecked p = checked_refusals p ≡ []
