-- Statements that make silent steps alone, and the words that they leave.
use Rattle.std.specs.Prelude.{◌≡◌, ℕ, ◌*◌, nat_lt, if◌then◌else◌, List, [], ◌∷◌}
use Rattle.word_base.specs.Lanes.{Goes}
use Rattle.word_base.specs.Settings.{Setting}
use Rattle.tpf_program.specs.Values.{Context, index_of}
use Rattle.tpf_program.specs.declared.instruction.Instruction.{Instruction}
use Rattle.shader_tree.specs.declared.node.Space.{Space}
use Rattle.shader_tree.specs.Chains.{Link, push}
use Rattle.shader_tree.specs.Lane.{state, step}
use Rattle.shader_tree.specs.Terms.{Term}
use Rattle.shader_tree.specs.Values.{Spaces, Words}
use Rattle.raise_operands.specs.Vectors.{Vector, Indexed, spaces_of, vectors_in, index_scratch, start_scratch, vector}

-- A statement leads from words to words, whatever follows it.
abbrev pub Leads : Spaces → Setting → Term → Words → Words → Type 0
Leads g s x t u = (k : List Link) (turns : ℕ) → (n : ℕ) × Goes (step g s) n (state (push x k) t turns) (state k u turns)

-- one statement after the other
abbrev pub LeadsAll : Spaces → Setting → List Term → Words → Words → Type 0
LeadsAll g s [] t u = t ≡ u
LeadsAll g s (x ∷ xs) t u = (m : Words) × Leads g s x t m × LeadsAll g s xs m u

-- the statements of a list in front of a chain
abbrev pub pushed : List Term → List Link → List Link
pushed [] k = k
pushed (x ∷ xs) k = push x (pushed xs k)

-- The index of an operand is kept, and the word at which its vector starts.
pub record HoldsIndex (g : Spaces) (space : Space) (k index : ℕ) (t : Words) : Type 0 where
  pub index' : t.scratch (index_scratch k) ≡ index
  pub start : t.scratch (start_scratch k) ≡ 4 * (if nat_lt index (vectors_in g space) then index else 0)

abbrev pub Finds : Vector → Spaces → ℕ → ℕ → Words → Type 0
Finds (Indexed space) g k index t = HoldsIndex g space k index t
Finds v g k index t = Unit {0}

-- the indices of all operands of an instruction are kept
pub record Ready (k : Context) (i : Instruction) (t : Words) : Type 0 where
  pub o0 : Finds (vector (spaces_of k.program) i.o0) (spaces_of k.program) 0 (index_of k i.o0) t
  pub o1 : Finds (vector (spaces_of k.program) i.o1) (spaces_of k.program) 1 (index_of k i.o1) t
  pub o2 : Finds (vector (spaces_of k.program) i.o2) (spaces_of k.program) 2 (index_of k i.o2) t
  pub o3 : Finds (vector (spaces_of k.program) i.o3) (spaces_of k.program) 3 (index_of k i.o3) t
  pub o4 : Finds (vector (spaces_of k.program) i.o4) (spaces_of k.program) 4 (index_of k i.o4) t
