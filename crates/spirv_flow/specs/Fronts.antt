-- What stands in front of the code of a function's blocks, and behind it.
use Rattle.std.specs.Prelude.{◌≡◌, ℕ, ◌+◌, List, [], ◌∷◌, ◌++◌, IsTrue}
use Rattle.spirv_words.specs.Operations.{OpFunctionEnd}
use Rattle.spirv_words.specs.Blocks.{Flow, Label, flow_of, next_block, edges_from, spans_from}
use Rattle.spirv_words.specs.Structure.{walk, InFront, AtVariables, follow, NoMerge, has_blocks, has_merges, has_branches, has_switch_order}
use Rattle.spirv_words.specs.Text.{Instr, instruction}
use Rattle.spirv_flow.specs.Layout.{Layout, code_of, leave}

-- A numbering of labels is right about the labels of a list of which b blocks have begun.
abbrev pub Numbers : (ℕ → ℕ) → Flow → ℕ → Type 0
Numbers number (Label l) b = number l ≡ b + 1
Numbers number f b = Unit {0}

abbrev pub Numbered : (ℕ → ℕ) → List Instr → ℕ → Type 0
Numbered number [] b = Unit {0}
Numbered number (i ∷ is) b = Numbers number (flow_of i) b × Numbered number is (next_block b (flow_of i))

-- All up to the first label and the function's variables, whatever stands behind: it opens the first block.
pub record IsFront (front : List Instr) : Type 0 where
  pub walks : (rest : List Instr) → walk InFront (front ++ rest) ≡ walk AtVariables rest
  pub follows : (rest : List Instr) → follow NoMerge (front ++ rest) ≡ follow NoMerge rest
  pub numbered : (number : ℕ → ℕ) (rest : List Instr) → Numbered number (front ++ rest) 0 → Numbered number rest 1
  pub edges : (number : ℕ → ℕ) (rest : List Instr) → edges_from number (front ++ rest) 0 ≡ edges_from number rest 1
  pub spans : (number : ℕ → ℕ) (rest : List Instr) → spans_from number (front ++ rest) 0 ≡ spans_from number rest 1

-- the function ends
abbrev pub tail : List Instr
tail = leave ∷ instruction OpFunctionEnd [] ∷ []

abbrev pub whole : List Instr → Layout → List Instr
whole front x = front ++ (code_of x 0 0 ++ tail)

-- The conditions on blocks, merges, branches and switches.
pub record IsStructured (code : List Instr) : Type 0 where
  pub blocks : IsTrue (has_blocks code)
  pub merges : IsTrue (has_merges code)
  pub branches : IsTrue (has_branches code)
  pub switch_order : IsTrue (has_switch_order code)
