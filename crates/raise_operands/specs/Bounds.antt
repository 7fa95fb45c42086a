-- WHAT STATEMENTS KEEP WITHIN BOUNDS: literals are words, words of the registers r# stand at literal indices, and of the
-- scratch words the first few alone get a value.
use Rattle.std.specs.Prelude.{◌≡◌, ℕ, ◌<◌, ◌^◌, nat_lt, not, Bool, true, false, IsTrue, List, Some, slice_get}
use Rattle.word_base.specs.Words.{AreWords}
use Rattle.tpf_decode.specs.declared.argument.Argument.{Argument}
use Rattle.tpf_program.specs.Holding.{IsOfWords}
use Rattle.tpf_program.specs.Program.{Shader}
use Rattle.tpf_program.specs.Spelling.{operands}
use Rattle.tpf_program.specs.declared.instruction.Instruction.{Instruction}
use Rattle.shader_tree.specs.declared.node.Space.TheVariants.{Temps}
use Rattle.shader_tree.specs.Terms.{Term, Word, Read, Set, Write, Load, Atomic}
use Rattle.shader_tree.specs.Walks.{Each, holds_no}
use Rattle.raise_operands.specs.Raises.{AreSmall, InRange, IsChecked}
use Rattle.raise_operands.specs.Folding.{added, literal}
use Rattle.raise_operands.specs.Raising.{chained, source, statement_of, target, write_by}
use Rattle.raise_operands.specs.Vectors.{keeps_index, spaces_of}

-- how many scratch words an instruction gives values to: those of its indices, and those in which words wait
abbrev pub scratch_words : ℕ
scratch_words = 18

abbrev pub is_literal : Term → Bool
is_literal (Word w) = true
is_literal other = false

-- a term past one of these bounds
abbrev pub is_unbounded : Term → Bool
is_unbounded (Word w) = not (nat_lt w (2 ^ 32))
is_unbounded (Read Temps at) = not (is_literal at)
is_unbounded (Write Temps at v) = not (is_literal at)
is_unbounded (Set n v) = not (nat_lt n scratch_words)
is_unbounded (Load n room at) = not (nat_lt n scratch_words)
is_unbounded (Atomic n room at kind a b) = not (nat_lt n scratch_words)
is_unbounded other = false

abbrev pub IsBounded : Term → Type 0
IsBounded x = IsTrue (holds_no is_unbounded x)

-- an operand of a program that words spell and that breaks no rule on declarations: its immediate words and its index
-- are words, and it selects components of vectors
pub record IsWithin (p : Shader) (a : Argument) : Type 0 where
  pub spaces : AreSmall (spaces_of p)
  pub constants : AreWords p.constants
  pub range : InRange a
  pub words : IsOfWords a
  pub index' : a.index < 2 ^ 32

pub record BoundLaws : Type 0 where
  pub within : (p : Shader) (tokens : List ℕ) → IsChecked p tokens → (k : ℕ) (i : Instruction)
      → slice_get p.instructions k ≡ Some i → Each (IsWithin p) (operands i)
  pub keeps : (p : Shader) (k : ℕ) (a : Argument) → IsWithin p a → k < 5 → IsBounded (keeps_index (spaces_of p) k a)
  pub source : (p : Shader) (k c : ℕ) (a : Argument) → IsWithin p a → c < 4 → IsBounded (source (spaces_of p) k a c)
  pub write : (p : Shader) (a : Argument) (k c : ℕ) (x : Term) → IsWithin p a → c < 4 → IsBounded x
      → IsBounded (write_by (target (spaces_of p) a) (spaces_of p) k c x)
  pub added : (a : Term) (n : ℕ) → IsBounded a → n < 2 ^ 32 → IsBounded (added a n)
  pub known : (a : Term) (w : ℕ) → literal a ≡ Some w → IsBounded a → w < 2 ^ 32
  pub chained : (xs : List Term) → Each IsBounded xs → IsBounded (chained xs)
  pub statement : (p : Shader) (i : Instruction) → Each (IsWithin p) (operands i) → IsBounded (statement_of p i)
