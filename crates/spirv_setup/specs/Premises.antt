-- What a program that breaks no rule keeps, as far as its variables ask; and lists without two equal symbols.
use Rattle.std.specs.Prelude.{◌≡◌, ℕ, ◌+◌, ◌*◌, true, List, [], ◌∷◌, length}
use Rattle.std.specs.List.{list_any}
use Rattle.word_base.specs.Words.{AreWords}
use Rattle.tpf_program.specs.Extents.{is_uav, steps_counter}
use Rattle.tpf_program.specs.Program.{Shader}
use Rattle.shader_check.specs.Facts.{AreDeclared}
use Rattle.binding_map.specs.Bindings.{Binding}
use Rattle.spirv_symbols.specs.declared.symbol.Symbol.{Symbol}
use Rattle.spirv_emit.specs.Code.{In}
use Rattle.spirv_setup.specs.Variables.{variables}
use Rattle.binding_map.specs.Wanted.{declares}

-- Its declarations keep their rules, it steps counters of u# alone that it declares, and its immediates are words.
pub record IsDeclared (p : Shader) : Type 0 where
  pub declared : AreDeclared p
  pub counters : (slot : ℕ) → list_any (steps_counter slot) p.instructions ≡ true → declares is_uav p slot ≡ true
  pub words : AreWords p.constants

-- no two are one
abbrev pub Apart : List Symbol → Type 0
Apart [] = Unit {0}
Apart (s ∷ ss) = (In ss s → ⊥) × Apart ss

-- AT MOST so many words and ids are taken for what is declared.
abbrev pub declared_words : Shader → List Binding → ℕ
declared_words p bindings = 43 * (length (variables p bindings) + length p.declarations) + 5 * length p.constants + 99

abbrev pub declared_ids : Shader → List Binding → ℕ
declared_ids p bindings = 6 * (length (variables p bindings) + length p.declarations) + length p.constants + 27
