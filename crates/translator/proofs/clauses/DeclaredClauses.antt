-- What the clauses of `declared_laws` of spirv_setup say.
use Rattle.std.specs.Prelude.{ℕ, List}
use Rattle.word_base.specs.Words.{AreWords}
use Rattle.tpf_decode.specs.Profiles.{Base}
use Rattle.tpf_program.specs.Program.{Shader}
use Rattle.tpf_program.specs.Spelling.{Spells}
use Rattle.shader_check.specs.Checked.{IsChecked as BreaksNoRule}
use Rattle.spirv_setup.specs.Premises.{IsDeclared}

pub record DeclaredClauses : Type 0 where
  pub holds : (p : Shader) (tokens : List ℕ) → AreWords tokens → Spells Base p tokens → BreaksNoRule p → IsDeclared p
