-- The registers of a lane, all zero at its start: four words for each temp register r#, and four for each element of each indexable
-- array x#. Reads are total; what is in range is said where a register is named. (Shader Model 5 assembly: dcl_temps,
-- dcl_indexableTemp.)
use Rattle.std.specs.Prelude.{ℕ}

pub record Registers : Type 0 where
  -- by register and component
  pub temp : ℕ → ℕ → ℕ
  -- by array, element and component
  pub indexable : ℕ → ℕ → ℕ → ℕ

abbrev pub zeros : Registers
zeros = record { temp = λ _ _. 0; indexable = λ _ _ _. 0 }
