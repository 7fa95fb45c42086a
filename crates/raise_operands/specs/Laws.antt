-- What proofs of callers cite, by topic.
use Rattle.std.specs.Prelude.{◌≡◌, ℕ, ◌+◌, ◌*◌, ◌%◌, ◌^◌, ◌<◌, ◌≤◌, true, false, List, Option, Some, None, [], ◌∷◌, slice_get}
use Rattle.std.specs.List.{list_any}
use Rattle.word_base.specs.Lanes.{Goes}
use Rattle.word_base.specs.Registers.{Registers}
use Rattle.word_base.specs.Settings.{Setting, HoldsWords}
use Rattle.word_base.specs.Words.{AreWords}
use Rattle.tpf_decode.specs.declared.argument.Argument.{Argument}
use Rattle.tpf_decode.specs.declared.argument.Kind.{Kind}
use Rattle.tpf_decode.specs.Roles.{is_register}
use Rattle.tpf_program.specs.declared.instruction.Instruction.{Instruction}
use Rattle.tpf_program.specs.Holding.{HoldWords, IsOfWords}
use Rattle.tpf_program.specs.Program.{Shader}
use Rattle.tpf_program.specs.Uses.{is_missing, operand_uses}
use Rattle.tpf_program.specs.Values.{Context, context, index_of}
use Rattle.tpf_program.specs.Values as tpf
use Rattle.tpf_program.specs.Writes.{with_word}
use Rattle.tpf_program.specs.Writes as writes
use Rattle.shader_tree.specs.Chains.{Link, push}
use Rattle.shader_tree.specs.Costs.{Cost, words_in, ids_in}
use Rattle.shader_tree.specs.Lane.{State, state, step}
use Rattle.shader_tree.specs.declared.node.Node.{Node}
use Rattle.shader_tree.specs.Nodes.{Sort, AStatement}
use Rattle.shader_tree.specs.Terms.{Term, Nothing, term_at, Extends}
use Rattle.shader_tree.specs.Trees.{Grown}
use Rattle.shader_tree.specs.Values.{Spaces, Words, words, value, word}
use Rattle.raise_operands.specs.declared.operand.Kept.{Kept}
use Rattle.raise_operands.specs.declared.operand.Operand.{Operand}
use Rattle.raise_operands.specs.declared.operand.Operands.{Operands}
use Rattle.raise_operands.specs.declared.value.Value.{Value}
use Rattle.raise_operands.specs.declared.vector.Vector.{Vector as Known}
use Rattle.raise_operands.specs.Building.{AreFew, AreOperands, CanWrite, Grows, IsInside, IsNode, IsOperand, IsOperandOf, IsStep, KeepsIndex, StandsFor}
use Rattle.raise_operands.specs.Building.{begin_nodes, begun_nodes, dest_nodes, has_index, indexed_by, known_target, known_target_by, seen, source_nodes, step_of, write_at, write_nodes}
use Rattle.raise_operands.specs.Folding.{added}
use Rattle.raise_operands.specs.Raises.{AreInRange, AreSmall, InRange, IsChecked, IsInProgram, IsPlain, least_words}
use Rattle.raise_operands.specs.Raising.{chained, followed, indices, is_nothing, source, target, write_by}
use Rattle.raise_operands.specs.Runs.{Finds, Leads, LeadsAll, Ready, pushed}
use Rattle.raise_operands.specs.Vectors.{keeps_index, spaces_of, vector}

-- WHILE A TREE GROWS, what stands for a term goes on standing for it.
pub record GrowingLaws : Type 0 where
  pub extends_on : (a b c : List Node) → Extends a b → Extends b c → Extends a c
  pub grows_on : (a b c : Grown) (m n k : ℕ) → Grows a b m → Grows b c n → m + n ≡ k → Grows a c k
  pub grows_more : (a b : Grown) (m n : ℕ) → Grows a b m → m ≤ n → Grows a b n
  pub node_on : (old new : List Node) (s : Sort) (id : ℕ) (t : Term) → Extends old new → IsNode old s id t
      → IsNode new s id t
  pub as_term : (nodes : List Node) (s : Sort) (id : ℕ) (t u : Term) → IsNode nodes s id t → t ≡ u → IsNode nodes s id u
  pub value_on : (old new : List Node) (v : Value) (t : Term) → Extends old new → StandsFor old v t → StandsFor new v t
  pub step_on : (old new : List Node) (s : Option ℕ) (t : Term) → Extends old new → IsStep old s t → IsStep new s t
  pub as_step : (nodes : List Node) (s : Option ℕ) (t u : Term) → IsStep nodes s t → t ≡ u → IsStep nodes s u
  pub some_step : (nodes : List Node) (id : ℕ) (t : Term) → IsNode nodes AStatement id t → is_nothing t ≡ false
      → IsStep nodes (Some id) t
  pub step_itself : (nodes : List Node) (s : Option ℕ) (t : Term) → IsStep nodes s t → IsStep nodes s (step_of nodes s)
  pub step_on_itself : (old new : List Node) (s : Option ℕ) (t : Term) → Extends old new → IsStep old s t → IsStep new s
      (step_of new s)
  pub followed_by_none : (t : Term) → followed t Nothing ≡ t

-- OPERANDS THAT ARE BEGUN stay so; a destination can be written, and what writes it is the statement of its definition.
pub record OperandLaws : Type 0 where
  pub operand_on : (old new : List Node) (g : Spaces) (o : Operand) → Extends old new → IsOperand old g o
      → IsOperand new g o
  pub operand_of_on : (old new : List Node) (g : Spaces) (k : ℕ) (a : Argument) (o : Operand) → Extends old new
      → IsOperandOf old g k a o → IsOperandOf new g k a o
  pub operands_on : (old new : List Node) (g : Spaces) (os : Operands) → Extends old new → AreOperands old g os
      → AreOperands new g os
  pub source_of : (nodes : List Node) (g : Spaces) (k : ℕ) (a : Argument) (o : Operand) (c : ℕ)
      → IsOperandOf nodes g k a o
      → source g o.place.number o.argument c ≡ source g k a c
  pub can_write : (nodes : List Node) (g : Spaces) (kind : Kind) (k : ℕ) (v : Known) (kept : Kept) → AreFew g
      → IsInside g v
      → KeepsIndex nodes g k v kept → CanWrite nodes (known_target_by kind v) k kept
  pub can_write_on : (old new : List Node) (v : Known) (k : ℕ) (kept : Kept) → Extends old new → CanWrite old v k kept
      → CanWrite new v k kept
  pub write_at_on : (old new : List Node) (v : Known) (k : ℕ) (kept : Kept) (c : ℕ) (x : Term) → Extends old new
      → CanWrite old v k kept
      → write_at v (term_at new kept.inside) k c x ≡ write_at v (term_at old kept.inside) k c x
  pub write_is : (nodes : List Node) (g : Spaces) (k : ℕ) (a : Argument) (o : Operand) (c : ℕ) (x : Term)
      → IsOperandOf nodes g k a o
      → write_at (known_target o) (term_at nodes o.place.kept.inside) o.place.number c x ≡ write_by (target g a) g k c x
  pub target_same : (nodes : List Node) (g : Spaces) (k : ℕ) (a : Argument) (o : Operand) → IsOperandOf nodes g k a o
      → seen (known_target o) ≡ target g a

-- HOW MANY NODES operands take, by their words.
abbrev pub dests : Argument → ℕ
dests a = dest_nodes a 0 + dest_nodes a 1 + (dest_nodes a 2 + dest_nodes a 3)

-- the nodes of what writes four components of a destination
abbrev pub writes_nodes : Known → ℕ
writes_nodes v = write_nodes v 0 + write_nodes v 1 + (write_nodes v 2 + write_nodes v 3)

pub record CountLaws : Type 0 where
  pub few : (g : Spaces) → AreSmall g → AreFew g
  pub source : (a : Argument) → begun_nodes (indexed_by a) + 4 * source_nodes a + 1 ≤ 16 * least_words a
  pub dest : (a : Argument) → begun_nodes (indexed_by a) + dests a + 11 ≤ 16 * least_words a
  pub first : (a : Argument) → begin_nodes (indexed_by a) None + dests a + 12 ≤ 16 * least_words a
  pub once : (a : Argument) → begun_nodes (indexed_by a) + source_nodes a + 13 ≤ 16 * least_words a
  pub begun : (a : Argument) → begun_nodes (indexed_by a) + 3 ≤ 16 * least_words a
  pub dest_once : (nodes : List Node) (g : Spaces) (a : Argument) (o : Operand) → IsOperandOf nodes g 0 a o
      → begin_nodes (indexed_by a) None + writes_nodes (known_target o) + 16 ≤ 16 * least_words a
  pub register_once : (nodes : List Node) (g : Spaces) (a : Argument) (o : Operand) → IsOperandOf nodes g 0 a o
      → is_register a.kind ≡ true
      → begin_nodes (indexed_by a) None + writes_nodes (known_target o) + 20 ≤ 16 * least_words a

-- STATEMENTS THAT MAKE SILENT STEPS ALONE
pub record RunLaws : Type 0 where
  pub goes_on : (g : Spaces) (s : Setting) (n m : ℕ) (x y z : State) → Goes (step g s) n x y → Goes (step g s) m y z
      → (k : ℕ) × Goes (step g s) k x z
  pub chained_is : (xs : List Term) (k : List Link) → push (chained xs) k ≡ pushed xs k
  pub all_go : (g : Spaces) (s : Setting) (xs : List Term) (t u : Words) (k : List Link) (turns : ℕ)
      → LeadsAll g s xs t u
      → (n : ℕ) × Goes (step g s) n (state (pushed xs k) t turns) (state k u turns)

-- WHAT OPERANDS STAND FOR, from the registers at the start of their instruction.
pub record IsGiven (p : Shader) (s : Setting) (o : Registers) : Type 0 where
  pub spaces : AreSmall (spaces_of p)
  pub constants : AreWords p.constants
  pub setting : HoldsWords s
  pub registers : HoldWords o

-- the words behind the statements that keep the indices of an instruction
pub record Begins (p : Shader) (s : Setting) (o : Registers) (i : Instruction) (t : Words) : Type 0 where
  pub words' : Words
  pub leads : LeadsAll (spaces_of p) s (indices (spaces_of p) i) t words'
  pub registers : words'.registers ≡ o
  pub ready : Ready (context p s o) i words'

pub record ReadingLaws : Type 0 where
  pub begins : (p : Shader) (s : Setting) (o : Registers) (i : Instruction) (t : Words) → IsGiven p s o → AreInRange i
      → t.registers ≡ o → Begins p s o i t
  pub ready_same : (k : Context) (i : Instruction) (t u : Words) → ((n : ℕ) → n < 10 → u.scratch n ≡ t.scratch n)
      → Ready k i t → Ready k i u
  pub source : (p : Shader) (s : Setting) (o : Registers) (t : Words) (k : ℕ) (a : Argument) (c : ℕ) → IsGiven p s o
      → InRange a
      → c < 4 → Finds (vector (spaces_of p) a) (spaces_of p) k (index_of (context p s o) a) t → t.registers ≡ o
      → value (spaces_of p) s t (source (spaces_of p) k a c) ≡ word (tpf.value (context p s o) a c)
  pub below : (p : Shader) (s : Setting) (o : Registers) (a : Argument) (c : ℕ) → IsGiven p s o → IsOfWords a
      → tpf.value (context p s o) a c < 2 ^ 32
  pub write : (p : Shader) (s : Setting) (o : Registers) (t : Words) (k : ℕ) (a : Argument) (c w : ℕ) (x : Term)
      → IsGiven p s o
      → InRange a → c < 4 → Finds (vector (spaces_of p) a) (spaces_of p) k (index_of (context p s o) a) t
      → value (spaces_of p) s t x ≡ word w
      → Leads (spaces_of p) s (write_by (target (spaces_of p) a) (spaces_of p) k c x) t
      (words t.scratch (with_word (writes.target (context p s o) a) c w t.registers))
  pub added : (g : Spaces) (s : Setting) (t : Words) (a : Term) (x n : ℕ) → value g s t a ≡ word x → x < 2 ^ 32
      → value g s t (added a n) ≡ word ((x + n) % 2 ^ 32)

-- WHAT OPERANDS NAME
pub record PlainLaws : Type 0 where
  pub keeps : (p : Shader) (k : ℕ) (a : Argument) → list_any (is_missing p.declarations) (operand_uses a) ≡ false
      → IsPlain p (keeps_index (spaces_of p) k a)
  pub source : (p : Shader) (k c : ℕ) (a : Argument) → list_any (is_missing p.declarations) (operand_uses a) ≡ false
      → IsPlain p (source (spaces_of p) k a c)
  pub write : (p : Shader) (a : Argument) (k c : ℕ) (x : Term) → IsPlain p x
      → IsPlain p (write_by (target (spaces_of p) a) (spaces_of p) k c x)

-- WHAT OPERANDS COST: four components of a source and its index are paid by its words; so are four of a destination,
-- each of which writes a word of 25 words and 5 ids at most, with 200 words and 30 ids to spare.
pub record Spends (x : Term) (words ids : ℕ) : Type 0 where
  pub in_words : words_in x ≤ words
  pub in_ids : ids_in x ≤ ids

pub record CostsAt (g : Spaces) (a : Argument) : Type 0 where
  pub source_cost : Cost
  pub keep_cost : Cost
  pub write_cost : Cost
  pub source' : (k c : ℕ) → Spends (source g k a c) source_cost.words source_cost.ids
  pub keep : (k : ℕ) → Spends (keeps_index g k a) keep_cost.words keep_cost.ids
  pub write' : (k c : ℕ) (x : Term) → Spends x 25 5 → Spends (write_by (target g a) g k c x) write_cost.words
      write_cost.ids
  pub source_words : 4 * source_cost.words + keep_cost.words ≤ 256 * least_words a
  pub source_ids : 4 * source_cost.ids + keep_cost.ids ≤ 48 * least_words a
  pub write_words : 4 * write_cost.words + keep_cost.words + 200 ≤ 256 * least_words a
  pub write_ids : 4 * write_cost.ids + keep_cost.ids + 30 ≤ 48 * least_words a
  pub register_words : is_register a.kind ≡ true → 4 * write_cost.words + keep_cost.words + 280 ≤ 256 * least_words a
  pub register_ids : is_register a.kind ≡ true → 4 * write_cost.ids + keep_cost.ids + 50 ≤ 48 * least_words a

abbrev pub total : (Term → ℕ) → List Term → ℕ
total f [] = 0
total f (x ∷ xs) = f x + total f xs

pub record OperandCostLaws : Type 0 where
  pub costs : (g : Spaces) (a : Argument) → CostsAt g a
  pub unkept : (g : Spaces) (k : ℕ) (a : Argument) → has_index a.kind ≡ false → keeps_index g k a ≡ Nothing
  pub chained_words : (xs : List Term) → words_in (chained xs) ≤ total words_in xs
  pub chained_ids : (xs : List Term) → ids_in (chained xs) ≤ total ids_in xs

-- WHAT A CHECKED PROGRAM HOLDS
pub record ProgramLaws : Type 0 where
  pub in_program : (p : Shader) (tokens : List ℕ) → IsChecked p tokens → (k : ℕ) (i : Instruction)
      → slice_get p.instructions k ≡ Some i
      → IsInProgram p i
