-- Plans and results of instructions on views.
use Rattle.std.specs.Prelude.{◌≡◌, ℕ, true, false, List, [], ◌∷◌, refl}
use Rattle.word_base.specs.declared.event.Act.TheVariants.{Add, Sub, UMax, CompareExchange}
use Rattle.word_base.specs.declared.event.Event.{Event}
use Rattle.word_base.specs.declared.event.Event.TheVariants.{Load, Store, Atomic, Fence, Barrier}
use Rattle.word_base.specs.declared.event.Ids.{Ids}
use Rattle.word_base.specs.declared.event.Room.{Room}
use Rattle.word_base.specs.declared.event.Room.TheVariants.{Resource, Uav, Counter}
use Rattle.word_base.specs.declared.event.Scope.TheVariants.{Device, Group}
use Rattle.word_base.specs.Registers.{Registers, zeros}
use Rattle.tpf_program.specs.declared.declaration.Declaration.TheVariants as declaration
use Rattle.tpf_program.specs.declared.declaration.ViewKind.TheVariants.{Raw, Structured}
use Rattle.tpf_decode.specs.declared.argument.Argument.{Argument}
use Rattle.tpf_program.specs.declared.instruction.Instruction.{Instruction}
use Rattle.tpf_decode.specs.declared.argument.Kind.TheVariants as kind
use Rattle.tpf_decode.specs.declared.argument.Select.TheVariants.{Bare, Mask, Swizzle}
use Rattle.tpf_program.specs.Program.{Shader}
use Rattle.tpf_program.specs.Spelling.{nothing}
use Rattle.tpf_decode.specs.Profiles.{Base, Typed}
use Rattle.tpf_decode.specs.Opcodes.{meaning_of, opcode_table}
use Rattle.tpf_program.specs.Bytecode.{plan, result}
use Rattle.tpf_program.specs.ExampleParts.{slot_of, literal, r0_to, instruction, bare, program_of, setting_of}

-- t0 of structures of two words, t1 raw, u0 of structures of one word, u1 raw
abbrev pub viewing : Shader
viewing = program_of
    (declaration.Resource 0 (Structured 8) ∷ declaration.Resource 1 Raw ∷ declaration.Uav 0 (Structured 4) false false ∷
    declaration.Uav 1 Raw false false ∷ declaration.Temps 1 ∷ []) []

-- a view with all components, x to w
abbrev pub read_from : ℕ → Argument
read_from slot = slot_of kind.Resource slot (Swizzle 0xE4)

-- what an instruction does where each room has that many words, but for a counter one
abbrev pub lengths : ℕ → Room → ℕ
lengths n (Counter slot) = 1
lengths n room = n

abbrev pub planned : Ids → ℕ → Instruction → List Event
planned ids n i = plan Base viewing (setting_of ids (lengths n)) zeros i

abbrev pub leaves : Ids → ℕ → Instruction → List ℕ → Registers
leaves ids n i answers = result Base viewing (setting_of ids (lengths n)) zeros i answers

-- ld_structured r0.xyzw, l(1), l(0), t0.xyzw: of the second structure x and y are there, z and w are past it
abbrev pub half_in_range : Instruction
half_in_range = instruction 167 0 (r0_to 15) (literal 1) (literal 0) (read_from 0)

pub two_loads : (ids : Ids) → planned ids 4 half_in_range ≡ Load (Resource 0) 2 ∷ Load (Resource 0) 3 ∷ []
unfolding meaning_of opcode_table
two_loads ids = refl

pub loaded_y : (ids : Ids) → (leaves ids 4 half_in_range (70 ∷ 80 ∷ [])).temp 0 1 ≡ 80
unfolding meaning_of opcode_table
loaded_y ids = refl

pub loaded_z : (ids : Ids) → (leaves ids 4 half_in_range (70 ∷ 80 ∷ [])).temp 0 2 ≡ 0
unfolding meaning_of opcode_table
loaded_z ids = refl

-- ld_raw r0.xyzw, l(4294967292), t1.xyzw: no word is in range, since the sum of word and component does not wrap
abbrev pub wrapped_address : Instruction
wrapped_address = instruction 165 0 (r0_to 15) (literal 4294967292) (read_from 1) nothing

pub no_loads : (ids : Ids) → planned ids 4 wrapped_address ≡ []
unfolding meaning_of opcode_table
no_loads ids = refl

-- store_raw u1.xyzw, l(8), l(7): of three words the last is written, and what is past them vanishes
pub one_store : (ids : Ids) → planned ids 3 (instruction 166 0 (slot_of kind.Uav 1 (Mask 15)) (literal 8) (literal 7) nothing) ≡ Store (Uav 1) 2 7 ∷ []
unfolding meaning_of opcode_table
one_store ids = refl

-- imm_atomic_iadd null, u1, l(4), l(9): without a destination it is the same event, and no register is changed
abbrev pub into_null : Instruction
into_null = instruction 180 0 nothing (slot_of kind.Uav 1 Bare) (literal 4) (literal 9)

pub one_atomic : (ids : Ids) → planned ids 4 into_null ≡ Atomic (Uav 1) 1 Add 9 0 ∷ []
unfolding meaning_of opcode_table
one_atomic ids = refl

pub nothing_written : (ids : Ids) → leaves ids 4 into_null (5 ∷ []) ≡ zeros
unfolding meaning_of opcode_table
nothing_written ids = refl

-- The same on the structured u0: the word 4 is the index, and past four structures there is no event and the result is 0.
abbrev pub past_structures : Instruction
past_structures = instruction 180 0 (r0_to 1) (slot_of kind.Uav 0 Bare) (literal 4) (literal 9)

pub no_atomic : (ids : Ids) → planned ids 4 past_structures ≡ []
unfolding meaning_of opcode_table
no_atomic ids = refl

-- imm_atomic_consume r0.x, u0: the answer less one
abbrev pub consuming : Instruction
consuming = instruction 179 0 (r0_to 1) (slot_of kind.Uav 0 Bare) nothing nothing

pub one_step : (ids : Ids) → planned ids 0 consuming ≡ Atomic (Counter 0) 0 Sub 1 0 ∷ []
unfolding meaning_of opcode_table
one_step ids = refl

pub consumed : (ids : Ids) → (leaves ids 0 consuming (3 ∷ [])).temp 0 0 ≡ 2
unfolding meaning_of opcode_table
consumed ids = refl

pub consumed_from_zero : (ids : Ids) → (leaves ids 0 consuming (0 ∷ [])).temp 0 0 ≡ 0xFFFFFFFF
unfolding meaning_of opcode_table
consumed_from_zero ids = refl

pub no_counter : (ids : Ids) → (result Base viewing (setting_of ids (λ room. 0)) zeros consuming []).temp 0 0 ≡ 0
unfolding meaning_of opcode_table
no_counter ids = refl

-- sync_g_t (010018BE), and sync_uglobal (010040BE)
pub group_barrier : (ids : Ids) → planned ids 0 (record (bare 190) { controls = 0x1800 }) ≡ Barrier Group (record { buffers = false; shared = true }) ∷ []
unfolding meaning_of opcode_table
group_barrier ids = refl

pub device_fence : (ids : Ids) → planned ids 0 (record (bare 190) { controls = 0x4000 }) ≡ Fence Device (record { buffers = true; shared = false }) ∷ []
unfolding meaning_of opcode_table
device_fence ids = refl

-- bufinfo r0.xyzw, t0.xyzw: two structures of 8 bytes; bufinfo r0.xyzw, t1.xyzw: 16 bytes
pub structures : (ids : Ids) → (leaves ids 4 (instruction 121 0 (r0_to 15) (read_from 0) nothing nothing) []).temp 0 0 ≡ 2
unfolding meaning_of opcode_table
structures ids = refl

pub stride : (ids : Ids) → (leaves ids 4 (instruction 121 0 (r0_to 15) (read_from 0) nothing nothing) []).temp 0 1 ≡ 8
unfolding meaning_of opcode_table
stride ids = refl

pub bytes : (ids : Ids) → (leaves ids 4 (instruction 121 0 (r0_to 15) (read_from 1) nothing nothing) []).temp 0 0 ≡ 16
unfolding meaning_of opcode_table
bytes ids = refl

-- ld r0.xyzw, l(1), t1.yxzw, where t1 is typed, r0.y is element 1, and r0.x, r0.z and r0.w are 0, 0 and 1; one load, into null too; past
-- the end none, and 0 in place of the element
abbrev pub viewing_typed : Shader
viewing_typed = record viewing { typed = Resource 1 ∷ Uav 1 ∷ [] }

abbrev pub loading_typed : Argument → ℕ → Instruction
loading_typed to index = instruction 45 0 to (literal index) (slot_of kind.Resource 1 (Swizzle 0xE1)) nothing

abbrev pub planned_typed : Ids → Instruction → List Event
planned_typed ids i = plan Typed viewing_typed (setting_of ids (lengths 2)) zeros i

abbrev pub leaves_typed : Ids → Instruction → List ℕ → Registers
leaves_typed ids i answers = result Typed viewing_typed (setting_of ids (lengths 2)) zeros i answers

pub one_load : (ids : Ids) → planned_typed ids (loading_typed (r0_to 15) 1) ≡ Load (Resource 1) 1 ∷ []
unfolding meaning_of opcode_table
one_load ids = refl

pub load_into_null : (ids : Ids) → planned_typed ids (loading_typed nothing 1) ≡ Load (Resource 1) 1 ∷ []
unfolding meaning_of opcode_table
load_into_null ids = refl

pub no_load : (ids : Ids) → planned_typed ids (loading_typed (r0_to 15) 2) ≡ []
unfolding meaning_of opcode_table
no_load ids = refl

pub typed_x : (ids : Ids) → (leaves_typed ids (loading_typed (r0_to 15) 1) (9 ∷ [])).temp 0 0 ≡ 0
unfolding meaning_of opcode_table
typed_x ids = refl

pub typed_y : (ids : Ids) → (leaves_typed ids (loading_typed (r0_to 15) 1) (9 ∷ [])).temp 0 1 ≡ 9
unfolding meaning_of opcode_table
typed_y ids = refl

pub typed_w : (ids : Ids) → (leaves_typed ids (loading_typed (r0_to 15) 1) (9 ∷ [])).temp 0 3 ≡ 1
unfolding meaning_of opcode_table
typed_w ids = refl

pub typed_past : (ids : Ids) → (leaves_typed ids (loading_typed (r0_to 15) 2) []).temp 0 1 ≡ 0
unfolding meaning_of opcode_table
typed_past ids = refl

-- store_uav_typed u1.xyzw, l(1), l(7): one word; and past the end none
abbrev pub storing_typed : ℕ → Instruction
storing_typed index = instruction 164 0 (slot_of kind.Uav 1 (Mask 15)) (literal index) (literal 7) nothing

pub one_typed_store : (ids : Ids) → planned_typed ids (storing_typed 1) ≡ Store (Uav 1) 1 7 ∷ []
unfolding meaning_of opcode_table
one_typed_store ids = refl

pub no_typed_store : (ids : Ids) → planned_typed ids (storing_typed 2) ≡ []
unfolding meaning_of opcode_table
no_typed_store ids = refl

-- imm_atomic_iadd null, u1, l(1), l(9) on the typed u1: the first component is the word
pub typed_atomic : (ids : Ids) →
    planned_typed ids (instruction 180 0 nothing (slot_of kind.Uav 1 Bare) (literal 1) (literal 9)) ≡ Atomic (Uav 1) 1 Add 9 0 ∷ []
unfolding meaning_of opcode_table
typed_atomic ids = refl

-- imm_atomic_cmp_exch r0.x, u1, l(4), l(7), l(9): 7 is expected, and 9 is new; atomic_cmp_store u1, l(4), l(7), l(9) is the same event;
-- atomic_umax u1, l(4), l(9)
pub exchanged : (ids : Ids) →
    planned ids 4 (record (instruction 185 0 (r0_to 1) (slot_of kind.Uav 1 Bare) (literal 4) (literal 7)) { o4 = literal 9 })
    ≡ Atomic (Uav 1) 1 CompareExchange 7 9 ∷ []
unfolding meaning_of opcode_table
exchanged ids = refl

pub compared : (ids : Ids) →
    planned ids 4 (instruction 172 0 (slot_of kind.Uav 1 Bare) (literal 4) (literal 7) (literal 9)) ≡ Atomic (Uav 1) 1 CompareExchange 7 9 ∷ []
unfolding meaning_of opcode_table
compared ids = refl

pub greatest : (ids : Ids) → planned ids 4 (instruction 176 0 (slot_of kind.Uav 1 Bare) (literal 4) (literal 9) nothing) ≡ Atomic (Uav 1) 1 UMax 9 0 ∷ []
unfolding meaning_of opcode_table
greatest ids = refl
