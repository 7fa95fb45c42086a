-- Operands at and past their ends, and what is written.
use Rattle.std.specs.Prelude.{◌≡◌, ℕ, true, [], ◌∷◌, refl}
use Rattle.word_base.specs.declared.event.Ids.{Ids}
use Rattle.word_base.specs.Registers.{Registers, zeros}
use Rattle.tpf_program.specs.declared.declaration.Declaration.TheVariants as declaration
use Rattle.tpf_decode.specs.declared.argument.Argument.{Argument}
use Rattle.tpf_decode.specs.declared.argument.Kind.TheVariants as kind
use Rattle.tpf_decode.specs.declared.argument.Select.TheVariants.{Mask, Swizzle, One}
use Rattle.tpf_program.specs.Program.{Shader}
use Rattle.tpf_program.specs.Spelling.{nothing}
use Rattle.tpf_decode.specs.Profiles.{Base}
use Rattle.tpf_decode.specs.Opcodes.{meaning_of, opcode_table}
use Rattle.tpf_program.specs.Values.{Context, context, value}
use Rattle.tpf_program.specs.Writes.{written, target, InElement, Nowhere, with_temp, with_element}
use Rattle.tpf_program.specs.Bytecode.{result}
use Rattle.tpf_program.specs.ExampleParts.{slot_of, element, literal, r0, r0_to, instruction, program_of, setting_of}

-- one register r0, three elements of x1, two vectors of cb0, of which the first two words are given: 5 and 6
abbrev pub indexed : Shader
indexed = program_of (declaration.Temps 1 ∷ declaration.Indexable 1 3 4 ∷ declaration.Constants 0 2 ∷ []) []

-- r0.x is -1, and x1[2].x is 42
abbrev pub registers : Registers
registers = with_temp (with_element zeros 1 2 0 42) 0 0 0xFFFFFFFF

abbrev pub here : Ids → Context
here ids = context indexed (setting_of ids (λ room. 0)) registers

-- x1[r0.x + 3].x (0620300A 1 3 0010000A 0 behind the destination) is the last element, and x1[r0.x + 4].x is past the end
pub last_element : (ids : Ids) → value (here ids) (element 3 0) 0 ≡ 42
last_element ids = refl

pub past_the_end : (ids : Ids) → value (here ids) (element 4 0) 0 ≡ 0
past_the_end ids = refl

-- -r0.x (8010000A 00000041 0) is 1
pub negated : (ids : Ids) → value (here ids) (record (r0 0) { negate = true }) 3 ≡ 1
negated ids = refl

-- cb0[0].y is given, cb0[0].z is not; cb0[2] is past the declared vectors; icb[0].w is there, icb[1].x is past the end
abbrev pub constant : ℕ → ℕ → Argument
constant index component = record (slot_of kind.Constant 0 (One component)) { index = index }

pub given : (ids : Ids) → value (here ids) (constant 0 1) 0 ≡ 6
given ids = refl

pub not_given : (ids : Ids) → value (here ids) (constant 0 2) 0 ≡ 0
not_given ids = refl

pub past_the_buffer : (ids : Ids) → value (here ids) (constant 2 0) 0 ≡ 0
past_the_buffer ids = refl

pub immediate_constant : (ids : Ids) → value (here ids) (slot_of kind.ImmediateConstant 0 (One 3)) 0 ≡ 4
immediate_constant ids = refl

pub past_immediate_constants : (ids : Ids) → value (here ids) (record (slot_of kind.ImmediateConstant 0 (One 0)) { index = 1 }) 0 ≡ 0
past_immediate_constants ids = refl

-- vThreadID.yxzw (00020E16): its x is the y of the id, and its w is 0
pub thread_y : (ids : Ids) → value (here ids) (slot_of kind.ThreadId 0 (Swizzle 0xE1)) 0 ≡ ids.thread_y
thread_y ids = refl

pub thread_w : (ids : Ids) → value (here ids) (slot_of kind.ThreadId 0 (Swizzle 0xE1)) 3 ≡ 0
thread_w ids = refl

-- The mask yw writes y and w, and null writes nothing; x1[r0.x + 4] is no place.
pub masked_components : written (r0_to 10) ≡ 1 ∷ 3 ∷ []
masked_components = refl

pub null_components : written nothing ≡ []
null_components = refl

pub place_of_last : (ids : Ids) → target (here ids) (element 3 0) ≡ InElement 1 2
place_of_last ids = refl

pub no_place : (ids : Ids) → target (here ids) (element 4 0) ≡ Nowhere
no_place ids = refl

-- udiv r0.x, r0.x, l(7), l(3): the rest is written behind the quotient. udiv r0.x, x1[r0.x + 3].x, l(7), l(3): the element is that of
-- r0.x before.
abbrev pub into_r0 : Ids → Registers
into_r0 ids = result Base indexed (setting_of ids (λ room. 0)) registers (instruction 78 0 (r0_to 1) (r0_to 1) (literal 7) (literal 3)) []

pub second_counts : (ids : Ids) → (into_r0 ids).temp 0 0 ≡ 1
unfolding meaning_of opcode_table
second_counts ids = refl

abbrev pub into_element : Ids → Registers
into_element ids =
    result Base indexed (setting_of ids (λ room. 0)) registers
    (instruction 78 0 (r0_to 1) (record (element 3 0) { select = Mask 1 }) (literal 7) (literal 3)) []

pub first_word : (ids : Ids) → (into_element ids).temp 0 0 ≡ 2
unfolding meaning_of opcode_table
first_word ids = refl

pub index_at_start : (ids : Ids) → (into_element ids).indexable 1 2 0 ≡ 1
unfolding meaning_of opcode_table
index_at_start ids = refl

-- swapc r0.x, r0.y, l(c), l(3), l(4): exchanged where c is not 0. imul r0.x, r0.y, l(-1), l(2): the high word, and then the low one
abbrev pub swapped : Ids → ℕ → Registers
swapped ids c =
    result Base indexed (setting_of ids (λ room. 0)) zeros (record (instruction 142 0 (r0_to 1) (r0_to 2) (literal c) (literal 3)) { o4 = literal 4 }) []

pub exchanged : (ids : Ids) → (swapped ids 1).temp 0 0 ≡ 4
unfolding meaning_of opcode_table
exchanged ids = refl

pub kept : (ids : Ids) → (swapped ids 0).temp 0 1 ≡ 4
unfolding meaning_of opcode_table
kept ids = refl

abbrev pub multiplied : Ids → Registers
multiplied ids = result Base indexed (setting_of ids (λ room. 0)) zeros (instruction 38 0 (r0_to 1) (r0_to 2) (literal 0xFFFFFFFF) (literal 2)) []

pub high_word : (ids : Ids) → (multiplied ids).temp 0 0 ≡ 0xFFFFFFFF
unfolding meaning_of opcode_table
high_word ids = refl

pub low_word : (ids : Ids) → (multiplied ids).temp 0 1 ≡ 0xFFFFFFFE
unfolding meaning_of opcode_table
low_word ids = refl
