-- Which components wait, by the vectors of the operands that are begun.
use Rattle.std.specs.Prelude.{ℕ, ◌+◌, nat_lt, if◌then◌else◌, Bool, ◌&&◌, ◌||◌, List, [], ◌∷◌}
use Rattle.std.specs.List.{list_any}
use Rattle.tpf_decode.specs.declared.meaning.Meaning.{Meaning}
use Rattle.tpf_decode.specs.declared.meaning.Meaning.TheVariants.{One, Two, Three, Inserts, Pair, Swaps}
use Rattle.tpf_program.specs.Values.{selected}
use Rattle.tpf_program.specs.Writes.{in_mask}
use Rattle.shader_tree.specs.declared.node.Node.{Node}
use Rattle.shader_tree.specs.Terms.{Term, Set, Scratch, Nothing, term_at}
use Rattle.raise_operands.specs.declared.operand.Operand.{Operand}
use Rattle.raise_operands.specs.declared.operand.Operands.{Operands}
use Rattle.raise_operands.specs.declared.vector.Vector.{Vector as Known}
use Rattle.raise_operands.specs.declared.vector.Vector.TheVariants as known
use Rattle.tpf_program.specs.declared.instruction.Instruction.{Instruction}
use Rattle.shader_tree.specs.Values.{Spaces}
use Rattle.raise_alu.specs.declared.statement.Component.{Component}
use Rattle.raise_alu.specs.declared.statement.Components.{Components}
use Rattle.raise_alu.specs.declared.statement.Four.{Four}
use Rattle.raise_operands.specs.Building.{IsStep, step_of, seen, write_at, write_nodes, source_nodes, known_target, front_of}
use Rattle.raise_operands.specs.Building.{operands_nodes, dest_nodes}
use Rattle.raise_operands.specs.Raising.{first_part, second_part, now, behind, followed}
use Rattle.raise_operands.specs.Vectors.{Vector, meets}
use Rattle.raise_alu.specs.Computing.{is_double, writes_first, writes_second, sources_nodes, operation_nodes}

-- the operands that are read
abbrev pub begun_sources : Meaning → Operands → List Operand
begun_sources (One op) os = os.o1 ∷ []
begun_sources (Two op) os = os.o1 ∷ os.o2 ∷ []
begun_sources (Three op) os = os.o1 ∷ os.o2 ∷ os.o3 ∷ []
begun_sources Inserts os = os.o1 ∷ os.o2 ∷ os.o3 ∷ os.o4 ∷ []
begun_sources (Pair op) os = os.o2 ∷ os.o3 ∷ []
begun_sources Swaps os = os.o2 ∷ os.o3 ∷ os.o4 ∷ []
begun_sources other os = []

abbrev pub is_read : Vector → ℕ → ℕ → Operand → Bool
is_read to c d o = meets to c (seen o.place.vector) (selected o.argument.select d)

abbrev pub are_read : Meaning → Operands → Vector → ℕ → ℕ → Bool
are_read m os to c d = list_any (is_read to c d) (begun_sources m os)

-- a source may name the register of the vector, in whatever component
abbrev pub is_near : Vector → Operand → Bool
is_near to o = meets to 0 (seen o.place.vector) 0

abbrev pub shares : Meaning → Operands → Vector → Bool
shares m os to = list_any (is_near to) (begun_sources m os)

abbrev pub of_four : (ℕ → Bool) → Bool
of_four f = f 0 || (f 1 || (f 2 || f 3))

-- a component of the first destination, and of the second
abbrev pub first_reads : Meaning → Operands → ℕ → ℕ → Bool
first_reads m os c d =
    ((nat_lt c d && writes_first m os.instruction d) || writes_second m os.instruction d) && are_read m os
    (seen (known_target os.o0)) c d

abbrev pub first_is_read : Meaning → Operands → ℕ → Bool
first_is_read m os c = of_four (first_reads m os c)

abbrev pub second_reads : Meaning → Operands → ℕ → ℕ → Bool
second_reads m os c d = (nat_lt c d && writes_second m os.instruction d) && are_read m os (seen (known_target os.o1)) c
    d

abbrev pub second_is_read : Meaning → Operands → ℕ → Bool
second_is_read m os c = of_four (second_reads m os c)

abbrev pub stands_behind : Meaning → Operands → ℕ → Bool
stands_behind m os c =
    in_mask os.instruction.o0.select c && (first_is_read m os c && meets (seen (known_target os.o0)) c
    (seen (known_target os.o1)) c)

abbrev pub second_is_late : Meaning → Operands → ℕ → Bool
second_is_late m os c = second_is_read m os c || stands_behind m os c

-- The statements of a component: now, and behind all.
abbrev pub now_of : List Node → Operand → ℕ → ℕ → ℕ → Bool → Term
now_of nodes o c value scratch waits =
    if waits then Set scratch (term_at nodes value)
    else write_at (known_target o) (term_at nodes o.place.kept.inside) o.place.number c (term_at nodes value)

abbrev pub behind_of : List Node → Operand → ℕ → ℕ → Bool → Term
behind_of nodes o c scratch waits =
    if waits then write_at (known_target o) (term_at nodes o.place.kept.inside) o.place.number c (Scratch scratch) else
    Nothing

abbrev pub turn_nodes : Known → ℕ → ℕ
turn_nodes known.Outside c = 0
turn_nodes other c = write_nodes other c + 2

-- The statements of a component for each destination, by their definitions.
abbrev pub first_now : Meaning → Spaces → Instruction → ℕ → Term
first_now m g i c = if writes_first m i c then now g (first_part m g i c) else Nothing

abbrev pub first_behind : Meaning → Spaces → Instruction → ℕ → Term
first_behind m g i c = if writes_first m i c then behind g (first_part m g i c) else Nothing

abbrev pub second_now : Meaning → Spaces → Instruction → ℕ → Term
second_now m g i c = if writes_second m i c then now g (second_part m g i c) else Nothing

abbrev pub second_behind : Meaning → Spaces → Instruction → ℕ → Term
second_behind m g i c = if writes_second m i c then behind g (second_part m g i c) else Nothing

pub record IsComponent (nodes : List Node) (m : Meaning) (g : Spaces) (i : Instruction) (c : ℕ) (x : Component) : Type 0
  where
    pub first_now' : IsStep nodes x.first.now (first_now m g i c)
    pub first_behind' : IsStep nodes x.first.behind (first_behind m g i c)
    pub second_now' : IsStep nodes x.second.now (second_now m g i c)
    pub second_behind' : IsStep nodes x.second.behind (second_behind m g i c)

abbrev pub second_nodes : Meaning → Operands → ℕ → ℕ
second_nodes m os c = if is_double m then turn_nodes (known_target os.o1) c else 0

abbrev pub part_nodes : Meaning → Operands → ℕ → ℕ
part_nodes m os c = sources_nodes m os + operation_nodes m + turn_nodes (known_target os.o0) c + second_nodes m os c

-- a statement, and four more behind it
abbrev pub behind_four : Term → Term → Term → Term → Term → Term
behind_four s a b c d = followed (followed (followed (followed s a) b) c) d

abbrev pub chain_nodes : Meaning → ℕ
chain_nodes m = if is_double m then 16 else 8

-- the components in their order: those of the first destination and then those of the second, now and behind
abbrev pub four_of : Term → (ℕ → Term) → Term
four_of s f = behind_four s (f 0) (f 1) (f 2) (f 3)

abbrev pub in_turn : Meaning → Spaces → Instruction → Term
in_turn m g i =
    four_of (four_of (four_of (four_of (front_of g i) (first_now m g i)) (second_now m g i)) (first_behind m g i))
    (second_behind m g i)

abbrev pub parts_nodes : Meaning → Operands → ℕ
parts_nodes m os = part_nodes m os 0 + part_nodes m os 1 + (part_nodes m os 2 + part_nodes m os 3)

-- the statements of four components, and what they stand for
pub record AreFour (nodes : List Node) (s : Four) (t : ℕ → Term) : Type 0 where
  pub x : IsStep nodes s.x (t 0)
  pub y : IsStep nodes s.y (t 1)
  pub z : IsStep nodes s.z (t 2)
  pub w : IsStep nodes s.w (t 3)

pub record HasFour (nodes : List Node) (s : Four) : Type 0 where
  pub x : IsStep nodes s.x (step_of nodes s.x)
  pub y : IsStep nodes s.y (step_of nodes s.y)
  pub z : IsStep nodes s.z (step_of nodes s.z)
  pub w : IsStep nodes s.w (step_of nodes s.w)

abbrev pub fours : List Node → Four → Term → Term
fours nodes f s = behind_four s (step_of nodes f.x) (step_of nodes f.y) (step_of nodes f.z) (step_of nodes f.w)

pub record AreComponents (nodes : List Node) (m : Meaning) (g : Spaces) (i : Instruction) (xs : Components) : Type 0
  where
    pub first_now' : AreFour nodes xs.first_now (first_now m g i)
    pub second_now' : AreFour nodes xs.second_now (second_now m g i)
    pub first_behind' : AreFour nodes xs.first_behind (first_behind m g i)
    pub second_behind' : AreFour nodes xs.second_behind (second_behind m g i)

pub record HaveSteps (nodes : List Node) (xs : Components) : Type 0 where
  pub first_now' : HasFour nodes xs.first_now
  pub second_now' : HasFour nodes xs.second_now
  pub first_behind' : HasFour nodes xs.first_behind
  pub second_behind' : HasFour nodes xs.second_behind

-- the statements of the components one after the other: of each destination those in their turn, then those behind all
abbrev pub single_of : List Node → Components → Term → Term
single_of nodes xs s = fours nodes xs.first_behind (fours nodes xs.first_now s)

abbrev pub double_of : List Node → Components → Term → Term
double_of nodes xs s =
    fours nodes xs.second_behind (fours nodes xs.first_behind (fours nodes xs.second_now (fours nodes xs.first_now s)))

abbrev pub all_of : List Node → Meaning → Components → Term → Term
all_of nodes m xs s = if is_double m then double_of nodes xs s else single_of nodes xs s

abbrev pub sources_most : Meaning → Instruction → ℕ
sources_most (One op) i = source_nodes i.o1
sources_most (Two op) i = source_nodes i.o1 + source_nodes i.o2
sources_most (Three op) i = source_nodes i.o1 + source_nodes i.o2 + source_nodes i.o3
sources_most Inserts i = source_nodes i.o1 + source_nodes i.o2 + source_nodes i.o3 + source_nodes i.o4
sources_most (Pair op) i = source_nodes i.o2 + source_nodes i.o3
sources_most Swaps i = source_nodes i.o2 + source_nodes i.o3 + source_nodes i.o4
sources_most other i = 0

abbrev pub part_most : Meaning → Instruction → ℕ → ℕ
part_most m i c = sources_most m i + operation_nodes m + dest_nodes i.o0 c +
    (if is_double m then dest_nodes i.o1 c else 0)

abbrev pub parts_most : Meaning → Instruction → ℕ
parts_most m i = part_most m i 0 + part_most m i 1 + (part_most m i 2 + part_most m i 3)

abbrev pub most_nodes : Meaning → Instruction → ℕ
most_nodes m i = operands_nodes i + parts_most m i + chain_nodes m
