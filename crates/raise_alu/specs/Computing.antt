-- The words that an instruction computes while a tree grows: which of its destinations it writes, and how many nodes
-- its words take.
use Rattle.std.specs.Prelude.{◌≡◌, ℕ, ◌+◌, Bool, true, false, ◌&&◌, ◌||◌, List, Option, Some, None}
use Rattle.tpf_decode.specs.declared.meaning.Meaning.{Meaning}
use Rattle.tpf_decode.specs.declared.meaning.Meaning.TheVariants.{One, Two, Three, Inserts, Pair, Swaps}
use Rattle.tpf_program.specs.declared.instruction.Instruction.{Instruction}
use Rattle.shader_tree.specs.declared.node.Node.{Node}
use Rattle.shader_tree.specs.Nodes.{AWord}
use Rattle.shader_tree.specs.Values.{Spaces}
use Rattle.raise_operands.specs.declared.operand.Operands.{Operands}
use Rattle.raise_operands.specs.Building.{IsNode, is_written, source_nodes}
use Rattle.raise_operands.specs.Raising.{computed_second}

-- whether an instruction has a second destination, and whether it writes a component of its destinations
abbrev pub is_double : Meaning → Bool
is_double (Pair op) = true
is_double Swaps = true
is_double other = false

abbrev pub is_single : Meaning → Bool
is_single (One op) = true
is_single (Two op) = true
is_single (Three op) = true
is_single Inserts = true
is_single other = false

abbrev pub writes_first : Meaning → Instruction → ℕ → Bool
writes_first m i c = (is_single m || is_double m) && is_written i.o0 c

abbrev pub writes_second : Meaning → Instruction → ℕ → Bool
writes_second m i c = is_double m && is_written i.o1 c

-- the nodes of an operation, its parts and its sources
abbrev pub operation_nodes : Meaning → ℕ
operation_nodes (One op) = 2
operation_nodes (Two op) = 3
operation_nodes (Three op) = 4
operation_nodes Inserts = 5
operation_nodes (Pair op) = 4
operation_nodes Swaps = 6
operation_nodes other = 1

abbrev pub sources_nodes : Meaning → Operands → ℕ
sources_nodes (One op) os = source_nodes os.o1.argument
sources_nodes (Two op) os = source_nodes os.o1.argument + source_nodes os.o2.argument
sources_nodes (Three op) os = source_nodes os.o1.argument + source_nodes os.o2.argument + source_nodes os.o3.argument
sources_nodes Inserts os =
    source_nodes os.o1.argument + source_nodes os.o2.argument + source_nodes os.o3.argument + source_nodes
    os.o4.argument
sources_nodes (Pair op) os = source_nodes os.o2.argument + source_nodes os.o3.argument
sources_nodes Swaps os = source_nodes os.o2.argument + source_nodes os.o3.argument + source_nodes os.o4.argument
sources_nodes other os = 0

-- where the second word of an instruction is, if it has one
abbrev pub IsSecond : List Node → Meaning → Spaces → Instruction → ℕ → Option ℕ → Type 0
IsSecond nodes m g i c None = is_double m ≡ false
IsSecond nodes m g i c (Some id) = (is_double m ≡ true) × IsNode nodes AWord id (computed_second m g i c)
