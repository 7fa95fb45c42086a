-- What the densest form of each kind of instruction costs: all operands are indexed by a thread id, which has the
-- fewest words.
use Rattle.std.specs.Prelude.{◌≡◌, ℕ, [], ◌∷◌, Some, refl}
use Rattle.tpf_decode.specs.Opcodes.{meaning_of, opcode_table}
use Rattle.tpf_decode.specs.declared.argument.Argument.{Argument}
use Rattle.tpf_decode.specs.declared.argument.Kind.TheVariants as kind
use Rattle.tpf_decode.specs.declared.argument.Select.TheVariants.{Mask, Swizzle}
use Rattle.tpf_program.specs.declared.declaration.Declaration.TheVariants as declaration
use Rattle.tpf_program.specs.declared.instruction.Instruction.{Instruction}
use Rattle.tpf_program.specs.ExampleParts.{slot_of, program_of}
use Rattle.tpf_program.specs.Program.{Shader}
use Rattle.tpf_program.specs.Spelling.{nothing}
use Rattle.shader_tree.specs.Costs.{Cost, cost, words_in, ids_in}
use Rattle.raise_operands.specs.ExampleParts.{of_five}
use Rattle.raise_operands.specs.Raising.{statement_of}

-- two arrays x0 and x1 of four elements, and one vector of immediate constants
abbrev pub arrays : Shader
arrays = program_of (declaration.Indexable 0 4 4 ∷ declaration.Indexable 1 4 4 ∷ []) []

-- an operand with the relative index vThreadID.x
abbrev pub by_thread : Argument → Argument
by_thread a = record a { relative = Some (record { kind = kind.ThreadId; slot = 0; index = 0; component = 0 }) }

-- x0[vThreadID.x].xyzw that is written: 3 words; icb[vThreadID.x].xyzw that is read: 2 words
abbrev pub to_array : ℕ → Argument
to_array slot = by_thread (slot_of kind.Indexable slot (Mask 15))

abbrev pub from_constants : Argument
from_constants = by_thread (slot_of kind.ImmediateConstant 0 (Swizzle 0xE4))

abbrev pub sums : Instruction → Cost
sums i = cost (words_in (statement_of arrays i)) (ids_in (statement_of arrays i))

-- mov x0[vThreadID.x].xyzw, icb[vThreadID.x].xyzw: 6 words
pub move : sums (of_five 54 (to_array 0) from_constants nothing nothing nothing) ≡ cost 718 138
unfolding statement_of meaning_of opcode_table
move = refl

-- bfrev, with the same operands: 6 words
pub unary : sums (of_five 141 (to_array 0) from_constants nothing nothing nothing) ≡ cost 814 154
unfolding statement_of meaning_of opcode_table
unary = refl

-- iadd x0[vThreadID.x].xyzw, and two sources icb[vThreadID.x].xyzw: 8 words
pub binary : sums (of_five 30 (to_array 0) from_constants from_constants nothing nothing) ≡ cost 1133 219
unfolding statement_of meaning_of opcode_table
binary = refl

-- imad, with three such sources: 10 words
pub ternary : sums (of_five 35 (to_array 0) from_constants from_constants from_constants nothing) ≡ cost 1572 304
unfolding statement_of meaning_of opcode_table
ternary = refl

-- bfi, with four: 12 words
pub insert : sums (of_five 140 (to_array 0) from_constants from_constants from_constants from_constants) ≡ cost 1951 381
unfolding statement_of meaning_of opcode_table
insert = refl

-- udiv x0[vThreadID.x].xyzw, x1[vThreadID.x].xyzw, and two such sources: 11 words
pub paired : sums (of_five 78 (to_array 0) (to_array 1) from_constants from_constants nothing) ≡ cost 2188 422
unfolding statement_of meaning_of opcode_table
paired = refl

-- swapc, with three: 13 words
pub swapped : sums (of_five 142 (to_array 0) (to_array 1) from_constants from_constants from_constants) ≡ cost 2771 544
unfolding statement_of meaning_of opcode_table
swapped = refl
