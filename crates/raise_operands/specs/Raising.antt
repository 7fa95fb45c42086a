-- THE STATEMENT OF AN INSTRUCTION that computes: first the indices of its operands are kept, then each component is
-- computed, and written where no later component reads what it overwrites; those that wait in scratch words are written
-- behind all.
use Rattle.std.specs.Prelude.{ℕ, ◌+◌, ◌*◌, nat_lt, if◌then◌else◌, Bool, true, false, ◌&&◌, List, [], ◌∷◌, ◌++◌, filter, map, Option, Some, None}
use Rattle.std.specs.List.{list_any}
use Rattle.word_base.specs.declared.arithmetic.Unary.TheVariants.{Ineg}
use Rattle.tpf_decode.specs.Profiles.{Base}
use Rattle.tpf_decode.specs.Opcodes.{meaning_of}
use Rattle.tpf_decode.specs.declared.argument.Argument.{Argument}
use Rattle.tpf_decode.specs.declared.argument.Kind.{Kind}
use Rattle.tpf_decode.specs.declared.argument.Kind.TheVariants as kind
use Rattle.tpf_decode.specs.declared.meaning.Meaning.{Meaning}
use Rattle.tpf_decode.specs.declared.meaning.Meaning.TheVariants.{One, Two, Three, Inserts, Pair, Swaps}
use Rattle.tpf_program.specs.declared.instruction.Instruction.{Instruction}
use Rattle.tpf_program.specs.Program.{Shader}
use Rattle.tpf_program.specs.Values.{of_four, selected}
use Rattle.tpf_program.specs.Writes.{in_mask, written}
use Rattle.shader_tree.specs.Terms.{Term}
use Rattle.shader_tree.specs.Terms as term
use Rattle.shader_tree.specs.Values.{Spaces}
use Rattle.raise_operands.specs.Folding.{unary_of, binary_of, ternary_of, insert_of, first_of, second_of, chosen}
use Rattle.raise_operands.specs.Vectors.{Vector, Outside, At, Indexed, spaces_of, inside, word_of, named_word, vector, keeps_index, meets}

-- THE WORD OF A SOURCE at a component of its instruction; k is the number of the operand.
abbrev pub source_by : Kind → Spaces → ℕ → Argument → ℕ → Term
source_by kind.Immediate g k a c = term.Word (of_four a.x a.y a.z a.w c)
source_by other g k a c = named_word other g k (vector g a) (selected a.select c)

abbrev pub source : Spaces → ℕ → Argument → ℕ → Term
source g k a c = if a.negate then unary_of Ineg (source_by a.kind g k a c) else source_by a.kind g k a c

-- two statements, of which either may be none
abbrev pub is_nothing : Term → Bool
is_nothing term.Nothing = true
is_nothing other = false

abbrev pub followed : Term → Term → Term
followed a b = if is_nothing a then b else if is_nothing b then a else term.Then a b

abbrev pub chained_from : Term → List Term → Term
chained_from s [] = s
chained_from s (t ∷ ts) = chained_from (followed s t) ts

abbrev pub chained : List Term → Term
chained ts = chained_from term.Nothing ts

-- THE WORDS THAT AN INSTRUCTION COMPUTES: for its first destination, and for the second where it has two.
abbrev pub computed : Meaning → Spaces → Instruction → ℕ → Term
computed (One op) g i c = unary_of op (source g 1 i.o1 c)
computed (Two op) g i c = binary_of op (source g 1 i.o1 c) (source g 2 i.o2 c)
computed (Three op) g i c = ternary_of op (source g 1 i.o1 c) (source g 2 i.o2 c) (source g 3 i.o3 c)
computed Inserts g i c = insert_of (source g 1 i.o1 c) (source g 2 i.o2 c) (source g 3 i.o3 c) (source g 4 i.o4 c)
computed (Pair op) g i c = first_of op (source g 2 i.o2 c) (source g 3 i.o3 c)
computed Swaps g i c = chosen (source g 2 i.o2 c) (source g 3 i.o3 c) (source g 4 i.o4 c)
computed other g i c = term.Word 0

abbrev pub computed_second : Meaning → Spaces → Instruction → ℕ → Term
computed_second (Pair op) g i c = second_of op (source g 2 i.o2 c) (source g 3 i.o3 c)
computed_second Swaps g i c = chosen (source g 2 i.o2 c) (source g 4 i.o4 c) (source g 3 i.o3 c)
computed_second other g i c = term.Word 0

-- the operands that it reads, and the components that its destinations write
abbrev pub sources : Meaning → Instruction → List Argument
sources (One op) i = i.o1 ∷ []
sources (Two op) i = i.o1 ∷ i.o2 ∷ []
sources (Three op) i = i.o1 ∷ i.o2 ∷ i.o3 ∷ []
sources Inserts i = i.o1 ∷ i.o2 ∷ i.o3 ∷ i.o4 ∷ []
sources (Pair op) i = i.o2 ∷ i.o3 ∷ []
sources Swaps i = i.o2 ∷ i.o3 ∷ i.o4 ∷ []
sources other i = []

abbrev pub first_written : Meaning → Instruction → List ℕ
first_written (One op) i = written i.o0
first_written (Two op) i = written i.o0
first_written (Three op) i = written i.o0
first_written Inserts i = written i.o0
first_written (Pair op) i = written i.o0
first_written Swaps i = written i.o0
first_written other i = []

abbrev pub second_written : Meaning → Instruction → List ℕ
second_written (Pair op) i = written i.o1
second_written Swaps i = written i.o1
second_written other i = []

-- registers alone are destinations
abbrev pub target_by : Kind → Vector → Vector
target_by kind.Temp v = v
target_by kind.Indexable v = v
target_by other v = Outside

abbrev pub target : Spaces → Argument → Vector
target g a = target_by a.kind (vector g a)

-- A component that is written: where, by the number of the operand, its word, and the scratch word in which it waits,
-- if it does.
pub record Part : Type 0 where
  pub to : Vector
  pub number : ℕ
  pub component : ℕ
  pub value : Term
  pub scratch : ℕ
  pub waits : Bool

abbrev pub write_by : Vector → Spaces → ℕ → ℕ → Term → Term
write_by Outside g k c value = term.Nothing
write_by (At space n) g k c value = term.Write space (term.Word (4 * n + c)) value
write_by (Indexed space) g k c value = term.Guard (inside g k space) (term.Write space (word_of k c) value)

abbrev pub write : Spaces → Part → Term → Term
write g part value = write_by part.to g part.number part.component value

abbrev pub now : Spaces → Part → Term
now g part = if part.waits then term.Set part.scratch part.value else write g part part.value

abbrev pub behind : Spaces → Part → Term
behind g part = if part.waits then write g part (term.Scratch part.scratch) else term.Nothing

-- WHICH COMPONENTS WAIT. One of these components of the sources may be the word of that vector and component.
abbrev pub reads_at : Spaces → List Argument → Vector → ℕ → ℕ → Bool
reads_at g sources to c d = list_any (λ a. meets to c (vector g a) (selected a.select d)) sources

abbrev pub reads : Spaces → List Argument → Vector → ℕ → List ℕ → Bool
reads g sources to c ds = list_any (reads_at g sources to c) ds

abbrev pub above : ℕ → List ℕ → List ℕ
above c cs = filter (λ d. nat_lt c d) cs

-- a component of the first destination, where it is read by a later one or for the second
abbrev pub first_waits : Meaning → Spaces → Instruction → ℕ → Bool
first_waits m g i c = reads g (sources m i) (target g i.o0) c (above c (first_written m i) ++ second_written m i)

-- Of the second, where it is read by a later one, and behind a component of the first that waits for what may be the
-- same word.
abbrev pub is_behind : Meaning → Spaces → Instruction → ℕ → Bool
is_behind m g i c = in_mask i.o0.select c && (first_waits m g i c && meets (target g i.o0) c (target g i.o1) c)

abbrev pub second_waits : Meaning → Spaces → Instruction → ℕ → Bool
second_waits m g i c =
    if reads g (sources m i) (target g i.o1) c (above c (second_written m i)) then true else is_behind m g i c

abbrev pub first_part : Meaning → Spaces → Instruction → ℕ → Part
first_part m g i c = record {
  to = target g i.o0;
  number = 0;
  component = c;
  value = computed m g i c;
  scratch = 10 + c;
  waits = first_waits m g i c;
}

abbrev pub second_part : Meaning → Spaces → Instruction → ℕ → Part
second_part m g i c = record {
  to = target g i.o1;
  number = 1;
  component = c;
  value = computed_second m g i c;
  scratch = 14 + c;
  waits = second_waits m g i c;
}

abbrev pub parts : Meaning → Spaces → Instruction → List Part
parts m g i = map (first_part m g i) (first_written m i) ++ map (second_part m g i) (second_written m i)

-- the indices of its operands, which are all taken at its start
abbrev pub indices : Spaces → Instruction → List Term
indices g i =
    keeps_index g 0 i.o0 ∷ keeps_index g 1 i.o1 ∷ keeps_index g 2 i.o2 ∷ keeps_index g 3 i.o3 ∷
    keeps_index g 4 i.o4 ∷ []

-- One that computes has components that it writes; all others have no part.
abbrev pub raised_by : Meaning → Spaces → Instruction → Term
raised_by m g i = chained (indices g i ++ (map (now g) (parts m g i) ++ map (behind g) (parts m g i)))

abbrev pub raised : Spaces → Option Meaning → Instruction → Term
raised g None i = term.Nothing
raised g (Some m) i = raised_by m g i

unfoldable pub statement_of : Shader → Instruction → Term
statement_of p i = raised (spaces_of p) (meaning_of Base i.code) i

-- THE NUMBER THAT CONTROL FLOW READS, from the first operand of its instruction: the statement in front of it, and its
-- word.
unfoldable pub scalar_front : Shader → Instruction → Term
scalar_front p i = keeps_index (spaces_of p) 0 i.o0

unfoldable pub scalar_word : Shader → Instruction → Term
scalar_word p i = source (spaces_of p) 0 i.o0 0
