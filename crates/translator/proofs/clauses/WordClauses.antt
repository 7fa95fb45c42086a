-- What the clauses of `program_word_laws` of raise_program say.
use Rattle.std.specs.Prelude.{◌≡◌, ℕ, List, Some, slice_get}
use Rattle.tpf_program.specs.Holding.{AreOfWords, IsProgramOfWords}
use Rattle.tpf_program.specs.Program.{Shader}
use Rattle.tpf_program.specs.declared.instruction.Instruction.{Instruction}
use Rattle.shader_check.specs.Checked.{IsChecked as BreaksNoRule}
use Rattle.raise_operands.specs.Raises.{IsChecked}

pub record WordClauses : Type 0 where
  pub program : (p : Shader) (tokens : List ℕ) → IsChecked p tokens → BreaksNoRule p → IsProgramOfWords p
  pub instructions : (p : Shader) (tokens : List ℕ) → IsChecked p tokens
      → (k : ℕ) (i : Instruction) → slice_get p.instructions k ≡ Some i → AreOfWords i
