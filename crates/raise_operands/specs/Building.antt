-- What values, nodes and statements stand for while a tree grows.
use Rattle.std.specs.Prelude.{◌≡◌, ℕ, ◌+◌, ◌*◌, ◌^◌, ◌<◌, ◌≤◌, nat_eq, if◌then◌else◌, not, Bool}
use Rattle.std.specs.Prelude.{true, false, IsTrue, List, length, Option, Some, None, is_some}
use Rattle.tpf_decode.specs.declared.argument.Argument.{Argument}
use Rattle.tpf_decode.specs.declared.argument.Kind.{Kind}
use Rattle.tpf_decode.specs.declared.argument.Kind.TheVariants as kind
use Rattle.tpf_decode.specs.declared.argument.Relative.{Relative}
use Rattle.tpf_decode.specs.declared.argument.Select.{Select}
use Rattle.tpf_program.specs.declared.instruction.Instruction.{Instruction}
use Rattle.tpf_program.specs.Holding.{SelectsInRange}
use Rattle.tpf_program.specs.Writes.{in_mask}
use Rattle.shader_tree.specs.declared.node.Node.{Node}
use Rattle.shader_tree.specs.declared.node.Space.{Space}
use Rattle.shader_tree.specs.Nodes.{Sort, AWord, ATruth, a_word, a_truth, a_statement, has}
use Rattle.shader_tree.specs.Terms.{Term, Word, Scratch, Write, Guard, Nothing, term_at, Extends}
use Rattle.shader_tree.specs.Trees.{Grown}
use Rattle.shader_tree.specs.Values.{Spaces}
use Rattle.raise_operands.specs.declared.operand.Operand.{Operand}
use Rattle.raise_operands.specs.declared.operand.Kept.{Kept}
use Rattle.raise_operands.specs.declared.operand.Operands.{Operands}
use Rattle.raise_operands.specs.declared.operand.Place.{Place}
use Rattle.raise_operands.specs.declared.vector.Vector.{Vector as Known}
use Rattle.raise_operands.specs.declared.vector.Vector.TheVariants as known'
use Rattle.raise_operands.specs.declared.value.Value.{Value}
use Rattle.raise_operands.specs.declared.value.Value.TheVariants as value
use Rattle.raise_operands.specs.Folding.{literal}
use Rattle.raise_operands.specs.Raising.{is_nothing, followed, chained, indices}
use Rattle.raise_operands.specs.Vectors.{Vector, Outside, At, Indexed, vectors_in, vector, start_scratch, inside, word_of, keeps_index}

-- At most n nodes were added at the end, and nothing else of the tree changed.
pub record Grows (old new : Grown) (n : ℕ) : Type 0 where
  pub extends : Extends old.nodes new.nodes
  pub few : length new.nodes ≤ length old.nodes + n
  pub capacity : new.capacity ≡ old.capacity
  pub root : new.root ≡ old.root

-- the node of that id is of that sort and stands for that term
pub record IsNode (nodes : List Node) (sort : Sort) (id : ℕ) (t : Term) : Type 0 where
  pub sorted : IsTrue (has nodes (record { sort = sort; id = id }))
  pub term : term_at nodes id ≡ t

-- A VALUE is a literal, or the id of a word.
abbrev pub known : Value → Option ℕ
known (value.Literal w) = Some w
known (value.Node id) = None

abbrev pub term_of : List Node → Value → Term
term_of nodes (value.Literal w) = Word w
term_of nodes (value.Node id) = term_at nodes id

abbrev pub is_word : List Node → Value → Bool
is_word nodes (value.Literal w) = true
is_word nodes (value.Node id) = has nodes (a_word id)

-- It stands for a term, and it is a literal exactly where the term is one.
pub record StandsFor (nodes : List Node) (v : Value) (t : Term) : Type 0 where
  pub sorted : IsTrue (is_word nodes v)
  pub term : term_of nodes v ≡ t
  pub same : literal t ≡ known v

abbrev pub IsValue : List Node → Value → Type 0
IsValue nodes v = StandsFor nodes v (term_of nodes v)

-- A STATEMENT that may be none, by its id.
abbrev pub step_of : List Node → Option ℕ → Term
step_of nodes None = Nothing
step_of nodes (Some id) = term_at nodes id

abbrev pub is_step : List Node → Option ℕ → Bool
is_step nodes None = true
is_step nodes (Some id) = has nodes (a_statement id)

-- It stands for a term, and there is one exactly where the term is not nothing.
pub record IsStep (nodes : List Node) (s : Option ℕ) (t : Term) : Type 0 where
  pub sorted : IsTrue (is_step nodes s)
  pub term : step_of nodes s ≡ t
  pub same : is_nothing t ≡ not (is_some s)

-- A vector as the code has it.
abbrev pub seen : Known → Vector
seen known'.Outside = Outside
seen (known'.At space n) = At space n
seen (known'.Indexed space) = Indexed space

-- the indices of a space's words are words
abbrev pub AreFew : Spaces → Type 0
AreFew g = (space : Space) → vectors_in g space < 2 ^ 30

-- a vector that is known is one of its space
abbrev pub IsInside : Spaces → Known → Type 0
IsInside g (known'.At space n) = n < vectors_in g space
IsInside g other = Unit {0}

-- The nodes of an index that is kept: whether it is inside, the word at which its vector starts, and 0.
pub record IsKept (nodes : List Node) (g : Spaces) (k : ℕ) (space : Space) (kept : Kept) : Type 0 where
  pub inside : IsNode nodes ATruth kept.inside (inside g k space)
  pub start : IsNode nodes AWord kept.start (Scratch (start_scratch k))
  pub zero : IsNode nodes AWord kept.zero (Word 0)

abbrev pub KeepsIndex : List Node → Spaces → ℕ → Known → Kept → Type 0
KeepsIndex nodes g k (known'.Indexed space) kept = IsKept nodes g k space kept
KeepsIndex nodes g k other kept = Unit {0}

-- Where an operand stands: its number, its vector, and the nodes of its index.
pub record IsPlace (nodes : List Node) (g : Spaces) (p : Place) : Type 0 where
  pub inside : IsInside g p.vector
  pub kept : KeepsIndex nodes g p.number p.vector p.kept

-- the nodes that a component of a vector whose index is kept takes for its place
abbrev pub word_nodes : ℕ → ℕ
word_nodes c = if nat_eq c 0 then 0 else 2

-- and those that the beginning of an operand takes: none without a relative index
abbrev pub index_nodes : Option Relative → ℕ
index_nodes None = 0
index_nodes (Some r) = 14

-- What is added to the index of an operand whose vector has one.
abbrev pub indexed_by_kind : Kind → Option Relative → Option Relative
indexed_by_kind kind.Indexable r = r
indexed_by_kind kind.Constant r = r
indexed_by_kind kind.ImmediateConstant r = r
indexed_by_kind other r = None

abbrev pub has_index : Kind → Bool
has_index kind.Indexable = true
has_index kind.Constant = true
has_index kind.ImmediateConstant = true
has_index other = false

abbrev pub indexed_by : Argument → Option Relative
indexed_by a = indexed_by_kind a.kind a.relative

abbrev pub component_nodes : Option Relative → ℕ
component_nodes None = 2
component_nodes (Some r) = 4

abbrev pub vector_nodes : Known → ℕ
vector_nodes (known'.Indexed space) = 4
vector_nodes other = 2

-- An operand that was begun.
pub record IsOperand (nodes : List Node) (g : Spaces) (o : Operand) : Type 0 where
  pub place : IsPlace nodes g o.place
  pub vector : seen o.place.vector ≡ vector g o.argument
  pub few : vector_nodes o.place.vector ≤ component_nodes (indexed_by o.argument)
  pub select : SelectsInRange o.argument.select

-- the operand with that argument, at that place
abbrev pub operand_at : Argument → Place → Operand
operand_at a p = record { argument = a; place = p }

abbrev pub source_nodes : Argument → ℕ
source_nodes a = if a.negate then component_nodes (indexed_by a) + 1 else component_nodes (indexed_by a)

-- the nodes of a statement behind another
abbrev pub then_nodes : Option ℕ → Option ℕ → ℕ
then_nodes (Some a) (Some b) = 1
then_nodes a b = 0

abbrev pub relative_nodes : Option Relative → ℕ
relative_nodes None = 0
relative_nodes (Some r) = 4

-- an index that is kept, behind a statement or not
abbrev pub keep_nodes : Option ℕ → ℕ
keep_nodes None = 10
keep_nodes (Some front) = 11

-- The nodes of the beginning of an operand, behind a statement or not.
abbrev pub begin_nodes : Option Relative → Option ℕ → ℕ
begin_nodes None front = 0
begin_nodes (Some r) None = 14
begin_nodes (Some r) (Some front) = 15

-- The statement that writes a component, by the truth that says whether its index is inside.
abbrev pub write_at : Known → Term → ℕ → ℕ → Term → Term
write_at known'.Outside truth k c value = Nothing
write_at (known'.At space n) truth k c value = Write space (Word (4 * n + c)) value
write_at (known'.Indexed space) truth k c value = Guard truth (Write space (word_of k c) value)

abbrev pub write_nodes : Known → ℕ → ℕ
write_nodes known'.Outside c = 0
write_nodes (known'.At space n) c = 2
write_nodes (known'.Indexed space) c = word_nodes c + 2

-- what is written can be named
abbrev pub CanWrite : List Node → Known → ℕ → Kept → Type 0
CanWrite nodes known'.Outside k kept = Unit {0}
CanWrite nodes (known'.At space n) k kept = n < 2 ^ 30
CanWrite nodes (known'.Indexed space) k kept = IsTrue (has nodes (a_truth kept.inside)) × IsNode nodes AWord kept.start
    (Scratch (start_scratch k))

-- An operand of an instruction, by its number.
pub record IsOperandOf (nodes : List Node) (g : Spaces) (k : ℕ) (a : Argument) (o : Operand) : Type 0 where
  pub operand : IsOperand nodes g o
  pub number : o.place.number ≡ k
  pub argument : o.argument ≡ a

pub record AreOperands (nodes : List Node) (g : Spaces) (os : Operands) : Type 0 where
  pub o0 : IsOperandOf nodes g 0 os.instruction.o0 os.o0
  pub o1 : IsOperandOf nodes g 1 os.instruction.o1 os.o1
  pub o2 : IsOperandOf nodes g 2 os.instruction.o2 os.o2
  pub o3 : IsOperandOf nodes g 3 os.instruction.o3 os.o3
  pub o4 : IsOperandOf nodes g 4 os.instruction.o4 os.o4

-- whether a destination writes a component
abbrev pub is_written_by : Kind → Select → ℕ → Bool
is_written_by kind.Null select c = false
is_written_by other select c = in_mask select c

abbrev pub is_written : Argument → ℕ → Bool
is_written a c = is_written_by a.kind a.select c

-- THE OPERANDS OF AN INSTRUCTION, which are begun one behind the other: the nodes that this takes at most, and the
-- statement that keeps their indices.
abbrev pub begun_nodes : Option Relative → ℕ
begun_nodes None = 0
begun_nodes (Some r) = 15

abbrev pub three_nodes : Instruction → ℕ
three_nodes i = begin_nodes (indexed_by i.o0) None + begun_nodes (indexed_by i.o1) + begun_nodes (indexed_by i.o2)

abbrev pub operands_nodes : Instruction → ℕ
operands_nodes i = three_nodes i + begun_nodes (indexed_by i.o3) + begun_nodes (indexed_by i.o4)

abbrev pub three_kept : Spaces → Instruction → Term
three_kept g i = followed (followed (followed Nothing (keeps_index g 0 i.o0)) (keeps_index g 1 i.o1))
    (keeps_index g 2 i.o2)

abbrev pub front_of : Spaces → Instruction → Term
front_of g i = chained (indices g i)

-- the vector of a destination: registers alone are written
abbrev pub known_target_by : Kind → Known → Known
known_target_by kind.Temp v = v
known_target_by kind.Indexable v = v
known_target_by other v = known'.Outside

abbrev pub known_target : Operand → Known
known_target o = known_target_by o.argument.kind o.place.vector

-- the nodes of a component of a destination at most, with those of the scratch word in which it may wait
abbrev pub dest_by : Kind → Option Relative → ℕ → ℕ
dest_by kind.Temp r c = 4
dest_by kind.Indexable None c = 4
dest_by kind.Indexable (Some r) c = word_nodes c + 4
dest_by other r c = 0

abbrev pub dest_nodes : Argument → ℕ → ℕ
dest_nodes a c = dest_by a.kind a.relative c
