-- Programs that the tree's lane runs: registers by index, fields at the edge of a word, quotients by zero, and what
-- overwrites what is still read.
use Rattle.std.specs.Prelude.{◌≡◌, ℕ, ◌^◌, ◌-◌, List, [], ◌∷◌, refl}
use Rattle.tpf_decode.specs.Opcodes.{meaning_of, opcode_table}
use Rattle.tpf_decode.specs.declared.argument.Argument.{Argument}
use Rattle.tpf_decode.specs.declared.argument.Kind.TheVariants as kind
use Rattle.tpf_decode.specs.declared.argument.Select.TheVariants.{Mask, Swizzle, One}
use Rattle.tpf_program.specs.declared.declaration.Declaration.TheVariants as declaration
use Rattle.tpf_program.specs.declared.instruction.Instruction.{Instruction}
use Rattle.tpf_program.specs.ExampleParts.{slot_of, element, literal, program_of, bare}
use Rattle.tpf_program.specs.Program.{Shader}
use Rattle.tpf_program.specs.Spelling.{nothing}
use Rattle.shader_tree.specs.declared.node.Space.TheVariants.{Temps}
use Rattle.word_base.specs.declared.arithmetic.Unary.TheVariants as one
use Rattle.shader_tree.specs.declared.node.Space.TheVariants as space
use Rattle.shader_tree.specs.Terms as term
use Rattle.shader_tree.specs.Terms.{Term, Word, Scratch, Read, Set, Write, Then, Nothing}
use Rattle.raise_operands.specs.ExampleParts.{literals, to, from, of_five, tree_of, logged, leaves}
use Rattle.raise_operands.specs.Raising.{statement_of, scalar_front, scalar_word}

-- two registers r#, three elements of x1, two vectors of cb0, of which the first two words are given: 5 and 6, and one
-- of immediates
abbrev pub program : Shader
program = program_of (declaration.Temps 2 ∷ declaration.Indexable 1 3 4 ∷ declaration.Constants 0 2 ∷ []) []

abbrev pub mov : Argument → Argument → Instruction
mov a b = of_five 54 a b nothing nothing nothing

-- a word of the registers r#
abbrev pub r : ℕ → Term
r n = Read Temps (Word n)

-- INDEXED REGISTERS. mov x1[2].x, l(42); mov r0.x, l(-1); mov r1.x, x1[r0.x + 3].x; mov r1.y, x1[r0.x + 4].x: the last
-- element, and 0 past it.
abbrev pub indexed_registers : List Instruction
indexed_registers =
    mov (record (slot_of kind.Indexable 1 (Mask 1)) { index = 2 }) (literal 42) ∷ mov (to 0 1) (literal (2 ^ 32 - 1)) ∷
    mov (to 1 1) (element 3 0) ∷ mov (to 1 2) (element 4 0) ∷ []

pub indexed_registers_leave : logged program (tree_of program indexed_registers (from 1)) ≡ leaves 42 0
unfolding statement_of meaning_of opcode_table
indexed_registers_leave = refl

-- what is written past the end vanishes: mov r0.x, l(3); mov x1[r0.x].x, l(7); mov r1.x, x1[2].x; mov r1.y, x1[r0.x +
-- 4294967295].x
abbrev pub past_the_end : List Instruction
past_the_end =
    mov (to 0 1) (literal 3) ∷ mov (record (element 0 0) { select = Mask 1 }) (literal 7) ∷
    mov (to 1 1) (record (slot_of kind.Indexable 1 (One 0)) { index = 2 }) ∷ mov (to 1 2) (element (2 ^ 32 - 1) 0) ∷ []

pub past_the_end_leaves : logged program (tree_of program past_the_end (from 1)) ≡ leaves 0 0
unfolding statement_of meaning_of opcode_table
past_the_end_leaves = refl

-- BIT FIELDS AT THE EDGE. ibfe r0.x, l(31), l(31), l(0x80000000); ubfe r0.y, l(32), l(4), l(0xFFFFFFFF)
abbrev pub bit_fields : List Instruction
bit_fields =
    of_five 139 (to 0 1) (literal 31) (literal 31) (literal 0x80000000) nothing ∷
    of_five 138 (to 0 2) (literal 32) (literal 4) (literal 0xFFFFFFFF) nothing ∷ []

pub bit_fields_leave : logged program (tree_of program bit_fields (from 0)) ≡ leaves 0xFFFFFFFF 0
unfolding statement_of meaning_of opcode_table
bit_fields_leave = refl

-- QUOTIENT BY ZERO. udiv r0.xy, null, l(7, 7, 0, 0), l(0, 3, 0, 0)
abbrev pub quotients : List Instruction
quotients = of_five 78 (to 0 3) nothing (literals 7 7 0 0) (literals 0 3 0 0) nothing ∷ []

pub quotients_leave : logged program (tree_of program quotients (from 0)) ≡ leaves 0xFFFFFFFF 2
unfolding statement_of meaning_of opcode_table
quotients_leave = refl

-- WHAT WAITS. mov r0.xy, l(1, 2, 0, 0); mov r0.xy, r0.yxzw: x waits in a scratch word, and y is written directly.
abbrev pub swapped : Instruction
swapped = mov (to 0 3) (slot_of kind.Temp 0 (Swizzle 0xE1))

pub swapped_is : statement_of program swapped ≡
    Then (Then (Set 10 (r 1)) (Write Temps (Word 1) (r 0))) (Write Temps (Word 0) (Scratch 10))
unfolding statement_of meaning_of opcode_table
swapped_is = refl

abbrev pub swaps : List Instruction
swaps = mov (to 0 3) (literals 1 2 0 0) ∷ swapped ∷ []

pub swapped_leaves : logged program (tree_of program swaps (from 0)) ≡ leaves 2 1
unfolding statement_of meaning_of opcode_table
swapped_leaves = refl

-- each component reads itself: nothing waits. ineg r0.xy, r0.xyzw
pub negated_is : statement_of program (of_five 40 (to 0 3) (from 0) nothing nothing nothing) ≡
    Then (Write Temps (Word 0) (term.One one.Ineg (r 0))) (Write Temps (Word 1) (term.One one.Ineg (r 1)))
unfolding statement_of meaning_of opcode_table
negated_is = refl

-- both destinations are read for the second: mov r0.xy, l(17, 5, 0, 0); udiv r0.x, r0.y, r0.x, r0.y
abbrev pub divided : List Instruction
divided =
    mov (to 0 3) (literals 17 5 0 0) ∷
    of_five 78 (to 0 1) (to 0 2) (slot_of kind.Temp 0 (Swizzle 0)) (slot_of kind.Temp 0 (Swizzle 0x55)) nothing ∷ []

-- the first is written to x; of the second, which has the mask y, the component is the quotient's remainder
pub divided_leaves : logged program (tree_of program divided (from 0)) ≡ leaves 3 2
unfolding statement_of meaning_of opcode_table
divided_leaves = refl

-- the index is taken before the first destination is written: udiv r0.x, x1[r0.x].x, l(7), l(3), where r0.x is 2
abbrev pub index_first : List Instruction
index_first =
    mov (to 0 1) (literal 2) ∷
    of_five 78 (to 0 1) (record (element 0 0) { select = Mask 1 }) (literal 7) (literal 3) nothing ∷
    mov (to 0 2) (record (slot_of kind.Indexable 1 (One 0)) { index = 2 }) ∷ []

pub index_first_leaves : logged program (tree_of program index_first (from 0)) ≡ leaves 2 1
unfolding statement_of meaning_of opcode_table
index_first_leaves = refl

-- of two words for one place the second counts: udiv r0.x, r0.x, l(7), l(3)
abbrev pub twice : List Instruction
twice = of_five 78 (to 0 1) (to 0 1) (literal 7) (literal 3) nothing ∷ []

pub second_counts : logged program (tree_of program twice (from 0)) ≡ leaves 1 0
unfolding statement_of meaning_of opcode_table
second_counts = refl

-- swapc r0.x, r1.x, l(1), r0.x, r1.x: with a literal one word is chosen at once
pub chosen_at_once : statement_of program (of_five 142 (to 0 1) (to 1 1) (literal 1) (from 0) (from 1)) ≡
    Then (Then (Set 10 (r 4)) (Write Temps (Word 4) (r 0))) (Write Temps (Word 0) (Scratch 10))
unfolding statement_of meaning_of opcode_table
chosen_at_once = refl

-- nothing is written to null, by an empty mask, and by nop
pub to_null : statement_of program (mov nothing (from 0)) ≡ Nothing
unfolding statement_of meaning_of opcode_table
to_null = refl

pub empty_mask : statement_of program (mov (to 0 0) (from 0)) ≡ Nothing
unfolding statement_of meaning_of opcode_table
empty_mask = refl

pub no_operation : statement_of program (bare 58) ≡ Nothing
unfolding statement_of meaning_of opcode_table
no_operation = refl

-- constants: cb0[1].x is read, cb0[2].x is past the declared vectors, icb[0].w is known
abbrev pub read_by : Argument → Instruction
read_by a = mov (to 0 1) a

pub constant_is : statement_of program (read_by (record (slot_of kind.Constant 0 (One 0)) { index = 1 })) ≡
    Write Temps (Word 0) (Read (space.Constant 0) (Word 4))
unfolding statement_of meaning_of opcode_table
constant_is = refl

pub past_constants : statement_of program (read_by (record (slot_of kind.Constant 0 (One 0)) { index = 2 })) ≡
    Write Temps (Word 0) (Word 0)
unfolding statement_of meaning_of opcode_table
past_constants = refl

pub known_constant : statement_of program (read_by (slot_of kind.ImmediateConstant 0 (One 3))) ≡
    Write Temps (Word 0) (Word 4)
unfolding statement_of meaning_of opcode_table
known_constant = refl

-- WHAT CONTROL FLOW READS: nothing stands in front of if r0.y
abbrev pub tested : Instruction
tested = of_five 31 (slot_of kind.Temp 0 (One 1)) nothing nothing nothing nothing

pub plain_front : scalar_front program tested ≡ Nothing
unfolding scalar_front
plain_front = refl

pub plain_word : scalar_word program tested ≡ r 1
unfolding scalar_word
plain_word = refl
