-- Where operands stand: vectors of four words in the spaces of a program. (Shader Model 5 assembly: registers r#, x#,
-- cb# and icb, and relative indices; Direct3D 11 functional specification: reads past the end of indexed registers and
-- constant buffers.)
use Rattle.std.specs.Prelude.{ℕ, ◌+◌, ◌*◌, ◌/◌, nat_eq, nat_lt, if◌then◌else◌, Bool, true, false, ◌&&◌, length, Option, Some, None, slice_index}
use Rattle.tpf_decode.specs.declared.argument.Argument.{Argument}
use Rattle.tpf_decode.specs.declared.argument.Kind.{Kind}
use Rattle.tpf_decode.specs.declared.argument.Kind.TheVariants as kind
use Rattle.tpf_decode.specs.declared.argument.Relative.{Relative}
use Rattle.tpf_program.specs.Program.{Shader}
use Rattle.tpf_program.specs.Sizes.{temps_of, elements_of, vectors_of}
use Rattle.shader_tree.specs.declared.node.Comparison.TheVariants.{ULess}
use Rattle.shader_tree.specs.declared.node.Space.{Space}
use Rattle.shader_tree.specs.declared.node.Space.TheVariants.{Temps, Indexable, Constant, ImmediateConstant}
use Rattle.shader_tree.specs.Terms.{Term, Word, Scratch, Thread, Read, Product, Pick, Compare, Set, Then, Nothing}
use Rattle.shader_tree.specs.Values.{Spaces}
use Rattle.raise_operands.specs.Folding.{literal, added}

-- what a lane of the program's tree is given
abbrev pub spaces_of : Shader → Spaces
spaces_of p = record {
  temps = temps_of p.declarations;
  elements = λ slot. elements_of slot p.declarations;
  vectors = λ slot. vectors_of slot p.declarations;
  immediates = p.constants;
}

-- how many vectors a space has
abbrev pub vectors_in : Spaces → Space → ℕ
vectors_in g Temps = g.temps
vectors_in g (Indexable slot) = g.elements slot
vectors_in g (Constant slot) = g.vectors slot
vectors_in g ImmediateConstant = length g.immediates / 4

-- The vector of an operand: one that is known, one whose index is kept in scratch words, or none, where the operand
-- names no space or lies past its end.
pub data Vector : Type 0 where
  Outside : Vector
  At : (space : Space) (n : ℕ) → Vector
  Indexed : (space : Space) → Vector

abbrev pub vector_at : Spaces → Space → ℕ → Vector
vector_at g space n = if nat_lt n (vectors_in g space) then At space n else Outside

abbrev pub vector_of : Spaces → Space → Option ℕ → Vector
vector_of g space (Some n) = vector_at g space n
vector_of g space None = if nat_lt 0 (vectors_in g space) then Indexed space else Outside

-- by the type of the operand, its slot, and its index where that is a literal
abbrev pub vector_by : Kind → Spaces → ℕ → Option ℕ → Vector
vector_by kind.Temp g slot index = vector_at g Temps slot
vector_by kind.Indexable g slot index = vector_of g (Indexable slot) index
vector_by kind.Constant g slot index = vector_of g (Constant slot) index
vector_by kind.ImmediateConstant g slot index = vector_of g ImmediateConstant index
vector_by other g slot index = Outside

-- THE SCRATCH WORDS OF AN INDEX: those of the operand with number k, counted from 0, are the index itself, and the word
-- at which its vector starts, which is 0 where the index lies past the end.
abbrev pub index_scratch : ℕ → ℕ
index_scratch k = 2 * k

abbrev pub start_scratch : ℕ → ℕ
start_scratch k = 2 * k + 1

abbrev pub inside : Spaces → ℕ → Space → Term
inside g k space = Compare ULess (Scratch (index_scratch k)) (Word (vectors_in g space))

abbrev pub word_of : ℕ → ℕ → Term
word_of k c = added (Scratch (start_scratch k)) c

-- A component of a vector. The immediate constants are known.
abbrev pub known_word : Spaces → Space → ℕ → ℕ → Term
known_word g ImmediateConstant n c = Word (slice_index g.immediates (4 * n + c))
known_word g space n c = Read space (Word (4 * n + c))

abbrev pub vector_word : Spaces → ℕ → Vector → ℕ → Term
vector_word g k Outside c = Word 0
vector_word g k (At space n) c = known_word g space n c
vector_word g k (Indexed space) c = Pick (inside g k space) (Read space (word_of k c)) (Word 0)

-- the numbers of a thread have three components
abbrev pub thread_word : Kind → ℕ → Term
thread_word kind c = if nat_lt c 3 then Thread kind c else Word 0

-- the word of an operand of a type, by its vector, at a component
abbrev pub named_word : Kind → Spaces → ℕ → Vector → ℕ → Term
named_word kind.ThreadId g k v c = thread_word kind.ThreadId c
named_word kind.GroupId g k v c = thread_word kind.GroupId c
named_word kind.IdInGroup g k v c = thread_word kind.IdInGroup c
named_word kind.FlatId g k v c = Thread kind.FlatId 0
named_word other g k v c = vector_word g k v c

-- the index of an operand: its immediate part and its relative scalar, modulo 2 ^ 32
abbrev pub relative_word : Spaces → Option Relative → Term
relative_word g None = Word 0
relative_word g (Some r) = named_word r.kind g 0 (vector_by r.kind g r.slot (Some r.index)) r.component

abbrev pub index_word : Spaces → Argument → Term
index_word g a = added (relative_word g a.relative) a.index

abbrev pub vector : Spaces → Argument → Vector
vector g a = vector_by a.kind g a.slot (literal (index_word g a))

-- the statement that keeps the index of an operand
abbrev pub keeps_by : Vector → Spaces → ℕ → Term → Term
keeps_by (Indexed space) g k index =
    Then (Set (index_scratch k) index)
    (Set (start_scratch k) (Product (Pick (inside g k space) (Scratch (index_scratch k)) (Word 0)) 4))
keeps_by v g k index = Nothing

abbrev pub keeps_index : Spaces → ℕ → Argument → Term
keeps_index g k a = keeps_by (vector g a) g k (index_word g a)

-- WHERE TWO COMPONENTS OF VECTORS MAY BE ONE WORD of a register: an index that is kept may be any.
abbrev pub same_space : Space → Space → Bool
same_space Temps Temps = true
same_space (Indexable slot) (Indexable other) = nat_eq slot other
same_space one other = false

abbrev pub meets : Vector → ℕ → Vector → ℕ → Bool
meets (At space n) c (At other m) d = same_space space other && (nat_eq n m && nat_eq c d)
meets (At space n) c (Indexed other) d = same_space space other && nat_eq c d
meets (Indexed space) c (At other m) d = same_space space other && nat_eq c d
meets (Indexed space) c (Indexed other) d = same_space space other && nat_eq c d
meets one c other d = false
