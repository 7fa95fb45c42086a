-- Instructions on views that the tree's lane runs: what is past the end, addresses that wrap, counters, fences, lengths,
-- and null rooms.
use Rattle.std.specs.Prelude.{◌≡◌, ℕ, ◌++◌, Bool, true, false, List, [], ◌∷◌, map, refl}
use Rattle.word_base.specs.declared.event.Act.TheVariants.{Add, Sub}
use Rattle.word_base.specs.declared.event.Event.{Event}
use Rattle.word_base.specs.declared.event.Event.TheVariants.{Load, Store, Atomic, Fence, Barrier}
use Rattle.word_base.specs.declared.event.Room.{Room}
use Rattle.word_base.specs.declared.event.Room.TheVariants.{Resource, Uav, Counter}
use Rattle.word_base.specs.declared.event.Scope.TheVariants.{Device, Group}
use Rattle.tpf_decode.specs.Opcodes.{meaning_of, opcode_table}
use Rattle.tpf_decode.specs.declared.argument.Argument.{Argument}
use Rattle.tpf_decode.specs.declared.argument.Kind.TheVariants as kind
use Rattle.tpf_decode.specs.declared.argument.Select.TheVariants.{Bare, Mask, One}
use Rattle.tpf_program.specs.ExampleParts.{bare, instruction, literal, program_of, r0_to, setting_of, slot_of}
use Rattle.tpf_program.specs.PlanExamples.{consuming, half_in_range, into_null, lengths, past_structures, read_from, viewing, wrapped_address}
use Rattle.tpf_program.specs.Program.{Shader}
use Rattle.tpf_program.specs.Spelling.{nothing}
use Rattle.tpf_program.specs.declared.declaration.Declaration.TheVariants as declaration
use Rattle.tpf_program.specs.declared.declaration.ViewKind.TheVariants.{Raw, Structured}
use Rattle.tpf_program.specs.declared.instruction.Instruction.{Instruction}
use Rattle.shader_tree.specs.ExampleParts.{Log, log, AtEnd, log_in, no_ids}
use Rattle.shader_tree.specs.Lane.{start, step}
use Rattle.shader_tree.specs.Terms.{Term}
use Rattle.raise_operands.specs.ExampleParts.{from, literals, stored, to}
use Rattle.raise_operands.specs.Raising as raising
use Rattle.raise_operands.specs.Raising.{chained}
use Rattle.raise_operands.specs.Vectors.{spaces_of}
use Rattle.raise_views.specs.Guarding.{statement_of}

-- What the lane of the tree does where each room has that many words, but for a counter one: the instructions, with
-- these answers, and then stores of the components of r0.
abbrev pub none_null : Room → Bool
none_null room = false

abbrev pub logged : ℕ → (Room → Bool) → List Instruction → List ℕ → List ℕ → Log
logged n is_null is cs answers =
    log_in 99 (step (spaces_of viewing) (setting_of no_ids (lengths n))) answers
    (start (chained (map (statement_of is_null viewing) is ++ map (stored viewing (from 0)) cs)))

-- these events, and then the end
abbrev pub makes : List Event → Log
makes events = log events (AtEnd 0)

-- A STRUCTURED LOAD half out of range: of the second structure x and y are there, z and w are past it and are 0
pub half_is_loaded : logged 4 none_null (half_in_range ∷ []) (0 ∷ 1 ∷ 2 ∷ 3 ∷ []) (70 ∷ 80 ∷ []) ≡ makes
    (Load (Resource 0) 2 ∷ Load (Resource 0) 3 ∷ Store (Uav 0) 0 70 ∷ Store (Uav 0) 1 80 ∷ Store (Uav 0) 2 0 ∷
    Store (Uav 0) 3 0 ∷ [])
unfolding statement_of meaning_of opcode_table
half_is_loaded = refl

-- A RAW ADDRESS whose words would wrap: nothing is loaded, and all components are 0
pub nothing_wraps : logged 4 none_null (wrapped_address ∷ []) (0 ∷ 1 ∷ 2 ∷ 3 ∷ []) [] ≡ makes
    (Store (Uav 0) 0 0 ∷ Store (Uav 0) 1 0 ∷ Store (Uav 0) 2 0 ∷ Store (Uav 0) 3 0 ∷ [])
unfolding statement_of meaning_of opcode_table
nothing_wraps = refl

-- A RAW STORE at the end. store_raw u1.xyzw, l(8), l(1, 2, 3, 4): of three words the last becomes 1, and what is past
-- them vanishes
abbrev pub at_the_end : Instruction
at_the_end = instruction 166 0 (slot_of kind.Uav 1 (Mask 15)) (literal 8) (literals 1 2 3 4) nothing

pub last_is_stored : logged 3 none_null (at_the_end ∷ []) [] [] ≡ makes (Store (Uav 1) 2 1 ∷ [])
unfolding statement_of meaning_of opcode_table
last_is_stored = refl

-- ATOMICS. Without a destination it is the same event; past four structures there is none, and the word is 0.
pub without_destination : logged 4 none_null (into_null ∷ []) [] (5 ∷ []) ≡ makes (Atomic (Uav 1) 1 Add 9 0 ∷ [])
unfolding statement_of meaning_of opcode_table
without_destination = refl

pub past_all_structures : logged 4 none_null (past_structures ∷ []) (0 ∷ []) [] ≡ makes (Store (Uav 0) 0 0 ∷ [])
unfolding statement_of meaning_of opcode_table
past_all_structures = refl

-- COUNTERS. imm_atomic_alloc r0.x, u0; imm_atomic_consume r0.y, u0; imm_atomic_consume r0.z, u0: with the counter 0 at
-- first, and so with 0, 1 and 0 as answers, they give 0, 0 and 4294967295
abbrev pub counting : List Instruction
counting =
    instruction 178 0 (r0_to 1) (slot_of kind.Uav 0 Bare) nothing nothing ∷
    instruction 179 0 (r0_to 2) (slot_of kind.Uav 0 Bare) nothing nothing ∷
    instruction 179 0 (r0_to 4) (slot_of kind.Uav 0 Bare) nothing nothing ∷ []

pub counted : logged 4 none_null counting (0 ∷ 1 ∷ 2 ∷ []) (0 ∷ 1 ∷ 0 ∷ []) ≡ makes
    (Atomic (Counter 0) 0 Add 1 0 ∷ Atomic (Counter 0) 0 Sub 1 0 ∷ Atomic (Counter 0) 0 Sub 1 0 ∷
    Store (Uav 0) 0 0 ∷ Store (Uav 0) 1 0 ∷ Store (Uav 0) 2 4294967295 ∷ [])
unfolding statement_of meaning_of opcode_table
counted = refl

-- FENCES. sync_g_t (010018BE), at which lanes wait, and sync_uglobal (010040BE), at which none does
pub lanes_wait : logged 4 none_null (record (bare 190) { controls = 0x1800 } ∷ []) [] [] ≡ makes
    (Barrier Group (record { buffers = false; shared = true }) ∷ [])
unfolding statement_of meaning_of opcode_table
lanes_wait = refl

pub none_waits : logged 4 none_null (record (bare 190) { controls = 0x4000 } ∷ []) [] [] ≡ makes
    (Fence Device (record { buffers = true; shared = false }) ∷ [])
unfolding statement_of meaning_of opcode_table
none_waits = refl

-- LENGTHS. bufinfo r0.xyzw, t0.xyzw: two structures of 8 bytes; bufinfo r0.xyzw, t1.xyzw: 16 bytes
abbrev pub measuring : ℕ → Instruction
measuring slot = instruction 121 0 (r0_to 15) (read_from slot) nothing nothing

pub structures_counted : logged 4 none_null (measuring 0 ∷ []) (0 ∷ 1 ∷ []) [] ≡ makes
    (Store (Uav 0) 0 2 ∷ Store (Uav 0) 1 8 ∷ [])
unfolding statement_of meaning_of opcode_table
structures_counted = refl

pub bytes_counted : logged 4 none_null (measuring 1 ∷ []) (0 ∷ 1 ∷ []) [] ≡ makes
    (Store (Uav 0) 0 16 ∷ Store (Uav 0) 1 0 ∷ [])
unfolding statement_of meaning_of opcode_table
bytes_counted = refl

-- NULL ROOMS. Nothing is loaded, the length is 0 and the stride is not, and a counter gives 0.
abbrev pub all_null : Room → Bool
all_null room = true

pub null_is_not_loaded : logged 4 all_null (half_in_range ∷ []) (0 ∷ 1 ∷ []) [] ≡ makes
    (Store (Uav 0) 0 0 ∷ Store (Uav 0) 1 0 ∷ [])
unfolding statement_of meaning_of opcode_table
null_is_not_loaded = refl

pub null_has_a_stride : logged 4 all_null (measuring 0 ∷ []) (0 ∷ 1 ∷ []) [] ≡ makes
    (Store (Uav 0) 0 0 ∷ Store (Uav 0) 1 8 ∷ [])
unfolding statement_of meaning_of opcode_table
null_has_a_stride = refl

pub null_counts_nothing : logged 4 all_null (consuming ∷ []) (0 ∷ []) [] ≡ makes (Store (Uav 0) 0 0 ∷ [])
unfolding statement_of meaning_of opcode_table
null_counts_nothing = refl

-- ADDRESSES IN REGISTERS that the load itself writes. iadd r0.x, vThreadID.x, l(1); mov r0.y, l(0);
-- ld_structured r0.xyzw, r0.x, r0.y, t0.xyzw; ishl r1.x, vThreadID.x, l(4); store_raw u0.xyzw, r1.x, r0.xyzw: of two
-- structures of 16 bytes the first lane loads the second, and the second lane none
abbrev pub copying : Shader
copying = program_of
    (declaration.Resource 0 (Structured 16) ∷ declaration.Uav 0 Raw false false ∷
    declaration.Input kind.ThreadId (Mask 1) ∷ declaration.Temps 2 ∷ []) []

abbrev pub thread : Argument
thread = slot_of kind.ThreadId 0 (One 0)

abbrev pub copies : List Term
copies =
    raising.statement_of copying (instruction 30 0 (to 0 1) thread (literal 1) nothing) ∷
    raising.statement_of copying (instruction 54 0 (to 0 2) (literal 0) nothing nothing) ∷
    statement_of none_null copying
    (instruction 167 0 (to 0 15) (slot_of kind.Temp 0 (One 0)) (slot_of kind.Temp 0 (One 1)) (read_from 0)) ∷
    raising.statement_of copying (instruction 41 0 (to 1 1) thread (literal 4) nothing) ∷
    statement_of none_null copying
    (instruction 166 0 (slot_of kind.Uav 0 (Mask 15)) (slot_of kind.Temp 1 (One 0)) (from 0) nothing) ∷ []

abbrev pub copied : ℕ → List ℕ → Log
copied lane answers =
    log_in 99 (step (spaces_of copying) (setting_of (record no_ids { thread_x = lane }) (λ room. 8))) answers
    (start (chained copies))

pub first_lane : copied 0 (5 ∷ 6 ∷ 7 ∷ 8 ∷ []) ≡ makes
    (Load (Resource 0) 4 ∷ Load (Resource 0) 5 ∷ Load (Resource 0) 6 ∷ Load (Resource 0) 7 ∷
    Store (Uav 0) 0 5 ∷ Store (Uav 0) 1 6 ∷ Store (Uav 0) 2 7 ∷ Store (Uav 0) 3 8 ∷ [])
unfolding statement_of raising.statement_of meaning_of opcode_table
first_lane = refl

pub second_lane : copied 1 [] ≡ makes
    (Store (Uav 0) 4 0 ∷ Store (Uav 0) 5 0 ∷ Store (Uav 0) 6 0 ∷ Store (Uav 0) 7 0 ∷ [])
unfolding statement_of raising.statement_of meaning_of opcode_table
second_lane = refl
