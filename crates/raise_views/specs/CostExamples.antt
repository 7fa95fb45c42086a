-- What instructions on views cost, by the sums of the walk: with addresses in registers, and of a load and a store also
-- where each operand is indexed by a thread id.
use Rattle.std.specs.Prelude.{◌≡◌, ℕ, false, [], ◌∷◌, refl}
use Rattle.tpf_decode.specs.Opcodes.{meaning_of, opcode_table}
use Rattle.tpf_decode.specs.declared.argument.Argument.{Argument}
use Rattle.tpf_decode.specs.declared.argument.Kind.TheVariants as kind
use Rattle.tpf_decode.specs.declared.argument.Select.TheVariants.{Bare, Mask, One}
use Rattle.tpf_program.specs.ExampleParts.{bare, literal, program_of, r0_to, slot_of}
use Rattle.tpf_program.specs.PlanExamples.{read_from}
use Rattle.tpf_program.specs.Program.{Shader}
use Rattle.tpf_program.specs.Spelling.{nothing}
use Rattle.tpf_program.specs.declared.declaration.Declaration.TheVariants as declaration
use Rattle.tpf_program.specs.declared.declaration.ViewKind.TheVariants.{Raw, Structured}
use Rattle.tpf_program.specs.declared.instruction.Instruction.{Instruction}
use Rattle.shader_tree.specs.Costs.{Cost, cost, words_in, ids_in}
use Rattle.raise_operands.specs.CostExamples.{from_constants, to_array}
use Rattle.raise_operands.specs.ExampleParts.{from, of_five}
use Rattle.raise_views.specs.Examples.{none_null}
use Rattle.raise_views.specs.Guarding.{statement_of}

-- t0 of structures of four words, t1 raw, u0 of structures of four words, u1 raw; the registers r0 and r1, and the
-- arrays x0 and x1 of four elements
abbrev pub viewing : Shader
viewing = program_of
    (declaration.Resource 0 (Structured 16) ∷ declaration.Resource 1 Raw ∷
    declaration.Uav 0 (Structured 16) false false ∷ declaration.Uav 1 Raw false false ∷ declaration.Temps 2 ∷
    declaration.Indexable 0 4 4 ∷ declaration.Indexable 1 4 4 ∷ []) []

abbrev pub sums : Instruction → Cost
sums i = cost (words_in (statement_of none_null viewing i)) (ids_in (statement_of none_null viewing i))

-- r1.x, r1.y; a view that is written, and one on which an atomic acts
abbrev pub r1 : ℕ → Argument
r1 c = slot_of kind.Temp 1 (One c)

abbrev pub all_of : ℕ → Argument
all_of slot = slot_of kind.Uav slot (Mask 15)

abbrev pub on : ℕ → Argument
on slot = slot_of kind.Uav slot Bare

-- LOADS. ld_raw r0.xyzw, r1.x, t1.xyzw: 7 words
pub raw_load : sums (of_five 165 (r0_to 15) (r1 0) (read_from 1) nothing nothing) ≡ cost 541 98
unfolding statement_of meaning_of opcode_table
raw_load = refl

-- ld_structured r0.xyzw, r1.x, l(0), t0.xyzw, under one test, and at the offset r1.y: 9 words
pub joined_load : sums (of_five 167 (r0_to 15) (r1 0) (literal 0) (read_from 0) nothing) ≡ cost 424 79
unfolding statement_of meaning_of opcode_table
joined_load = refl

pub structured_load : sums (of_five 167 (r0_to 15) (r1 0) (r1 1) (read_from 0) nothing) ≡ cost 829 156
unfolding statement_of meaning_of opcode_table
structured_load = refl

-- ld_structured x0[vThreadID.x].xyzw, icb[vThreadID.x].x, icb[vThreadID.x].x, t0.xyzw: 10 words
pub indexed_load : sums (of_five 167 (to_array 0) from_constants from_constants (read_from 0) nothing) ≡ cost 1358 255
unfolding statement_of meaning_of opcode_table
indexed_load = refl

-- STORES. store_raw u1.xyzw, r1.x, r0.xyzw: 7 words
pub raw_store : sums (of_five 166 (all_of 1) (r1 0) (from 0) nothing nothing) ≡ cost 449 82
unfolding statement_of meaning_of opcode_table
raw_store = refl

-- store_structured u0.xyzw, r1.x, l(0), r0.xyzw, under one test, and at the offset r1.y: 9 words
pub joined_store : sums (of_five 168 (all_of 0) (r1 0) (literal 0) (from 0) nothing) ≡ cost 332 63
unfolding statement_of meaning_of opcode_table
joined_store = refl

pub structured_store : sums (of_five 168 (all_of 0) (r1 0) (r1 1) (from 0) nothing) ≡ cost 737 140
unfolding statement_of meaning_of opcode_table
structured_store = refl

-- store_structured u0.xyzw, and three operands icb[vThreadID.x].xyzw: 9 words
pub indexed_store : sums (of_five 168 (all_of 0) from_constants from_constants from_constants nothing) ≡ cost 1250 239
unfolding statement_of meaning_of opcode_table
indexed_store = refl

-- bufinfo r0.xyzw, t0.xyzw: 5 words
pub measure : sums (of_five 121 (r0_to 15) (read_from 0) nothing nothing nothing) ≡ cost 108 21
unfolding statement_of meaning_of opcode_table
measure = refl

-- ATOMICS. atomic_iadd u1, r1.x, r1.y: 7 words
pub add : sums (of_five 173 (on 1) (r1 0) (r1 1) nothing nothing) ≡ cost 137 25
unfolding statement_of meaning_of opcode_table
add = refl

-- atomic_cmp_store u1, r1.x, r1.y, r1.z: 9 words
pub compare : sums (of_five 172 (on 1) (r1 0) (r1 1) (r1 2) nothing) ≡ cost 157 29
unfolding statement_of meaning_of opcode_table
compare = refl

-- imm_atomic_iadd r0.x, u1, r1.x, r1.y: 9 words; r0.x, u0, r1.xy, r1.y in structures
pub fetch : sums (of_five 180 (r0_to 1) (on 1) (r1 0) (r1 1) nothing) ≡ cost 174 32
unfolding statement_of meaning_of opcode_table
fetch = refl

pub structured_fetch : sums (of_five 180 (r0_to 1) (on 0) (from 1) (r1 1) nothing) ≡ cost 270 51
unfolding statement_of meaning_of opcode_table
structured_fetch = refl

-- imm_atomic_cmp_exch r0.x, u1, r1.x, r1.y, r1.z: 11 words
pub exchange : sums (of_five 185 (r0_to 1) (on 1) (r1 0) (r1 1) (r1 2)) ≡ cost 194 36
unfolding statement_of meaning_of opcode_table
exchange = refl

-- COUNTERS. imm_atomic_alloc r0.x, u0; imm_atomic_consume r0.x, u0: 5 words each
pub allocate : sums (of_five 178 (r0_to 1) (on 0) nothing nothing nothing) ≡ cost 61 11
unfolding statement_of meaning_of opcode_table
allocate = refl

pub consume : sums (of_five 179 (r0_to 1) (on 0) nothing nothing nothing) ≡ cost 77 14
unfolding statement_of meaning_of opcode_table
consume = refl

-- sync: 1 word
pub fence : sums (bare 190) ≡ cost 16 3
unfolding statement_of meaning_of opcode_table
fence = refl
