-- What the clauses of `sum_laws` of spirv_setup say.
use Rattle.std.specs.Prelude.{◌≡◌, ℕ, ◌+◌, ◌*◌, ◌≤◌, List, length, sum_by}
use Rattle.tpf_decode.specs.Profiles.{Base}
use Rattle.tpf_program.specs.Program.{Shader}
use Rattle.tpf_program.specs.Spelling.{Spells}
use Rattle.binding_map.specs.Bindings.{Binding, IsMap}
use Rattle.spirv_symbols.specs.declared.entry.Entry.{Entry}
use Rattle.spirv_symbols.specs.Modules.{interface}
use Rattle.spirv_emit.specs.Growing.{globals_in}
use Rattle.spirv_setup.specs.Premises.{IsDeclared, declared_ids, declared_words}
use Rattle.spirv_setup.specs.Variables.{variables}

pub record SumClauses : Type 0 where
  pub listed : (p : Shader) (tokens : List ℕ) → Spells Base p tokens
      → (length p.declarations ≤ p.words) × (length p.constants ≤ p.words)
  pub constants : (p : Shader) (tokens : List ℕ) → Spells Base p tokens → IsDeclared p
      → length p.constants ≤ 16384
  pub words : (p : Shader) (bindings : List Binding) (tokens : List ℕ) (version : ℕ) (entries : List Entry)
      → Spells Base p tokens → IsDeclared p → IsMap bindings → globals_in entries ≡ variables p bindings
      → declared_words p bindings + length (interface version entries) + 66
      + 256 * sum_by (λ i. i.length) p.instructions ≤ 256 * p.words + 8192
  pub ids : (p : Shader) (bindings : List Binding) (tokens : List ℕ)
      → Spells Base p tokens → IsDeclared p → IsMap bindings
      → declared_ids p bindings + 6 + 48 * sum_by (λ i. i.length) p.instructions ≤ 48 * p.words + 4096
