-- The cases that a program keeps.
use Rattle.std.specs.Prelude.{◌≡◌, ℕ, ◌/◌, ◌<◌, true, List}
use Rattle.tpf_decode.specs.Profiles.{Base}
use Rattle.tpf_program.specs.declared.cases.Cases.{Cases}
use Rattle.tpf_program.specs.declared.instruction.Instruction.{Instruction}
use Rattle.tpf_program.specs.Cases.{is_any_case}
use Rattle.tpf_program.specs.Ends.{count, means, is_closing, is_opening}
use Rattle.tpf_program.specs.Kept.{AreLast, ArePrevious}

-- so many of these instructions open constructs, and so many close one
pub record AreLevels (code : List Instruction) (c : Cases) : Type 0 where
  pub openings : c.openings ≡ count Base is_opening code
  pub closings : c.closings ≡ count Base is_closing code

-- They are those of these instructions.
pub record AreCases (code : List Instruction) (c : Cases) : Type 0 where
  pub levels : AreLevels code c
  pub last : AreLast code c.keys.list c.last.list
  pub previous : ArePrevious code c.previous.list

-- There is room for the instructions of so many words, of which a case has at least three.
pub record IsOfRoom (words : ℕ) (c : Cases) : Type 0 where
  pub keys : c.keys.capacity ≡ words / 3
  pub last : c.last.capacity ≡ words / 3
  pub previous : c.previous.capacity ≡ words

-- behind these instructions, where one more is a case
abbrev pub IsRoomFor : ℕ → List Instruction → Instruction → Type 0
IsRoomFor words code i = means Base is_any_case i ≡ true → count Base is_any_case code < words / 3
