-- Programs run on small memories: the words, the events and the ends that each run leaves.
use Rattle.tpf_decode.specs.Profiles.{Base}
use Rattle.std.specs.Prelude.{◌≡◌, ℕ, zero, suc, if◌then◌else◌, Bool, true, false, List, [], ◌∷◌, ◌++◌, map, Option, Some, option_map, refl}
use Rattle.word_base.specs.declared.event.Act.TheVariants.{Add, Sub}
use Rattle.word_base.specs.declared.event.Classes.{Classes}
use Rattle.word_base.specs.declared.event.Event.{Event}
use Rattle.word_base.specs.declared.event.Event.TheVariants.{Load, Store, Atomic, Barrier}
use Rattle.word_base.specs.declared.event.Room.{Room}
use Rattle.word_base.specs.declared.event.Room.TheVariants.{Resource, Uav, Counter, Shared}
use Rattle.word_base.specs.declared.event.Scope.TheVariants.{Group}
use Rattle.word_base.specs.Settings.{axes}
use Rattle.tpf_program.specs.declared.declaration.Declaration.{Declaration}
use Rattle.tpf_program.specs.declared.declaration.Declaration.TheVariants as declaration
use Rattle.tpf_program.specs.declared.declaration.SharedKind.TheVariants as shared
use Rattle.tpf_program.specs.declared.declaration.ViewKind.TheVariants as view
use Rattle.tpf_decode.specs.declared.argument.Argument.{Argument}
use Rattle.tpf_program.specs.declared.instruction.Instruction.{Instruction}
use Rattle.tpf_decode.specs.declared.argument.Kind.TheVariants as kind
use Rattle.tpf_decode.specs.declared.argument.Select.TheVariants.{Bare, Mask, Swizzle, One}
use Rattle.tpf_program.specs.Bytecode as bytecode
use Rattle.tpf_program.specs.Declarations.{threads_in}
use Rattle.tpf_decode.specs.Opcodes.{meaning_of, opcode_table}
use Rattle.tpf_program.specs.Program.{Shader}
use Rattle.tpf_program.specs.Spelling.{nothing}
use Rattle.tpf_program.specs.ExampleParts.{slot_of, element, literal, r0, r0_to, instruction, bare, program_of}
use Rattle.tpf_program.specs.FlowExamples.{turning}
use Rattle.dispatch_machine.specs.Dispatch.{Dispatch, Logged, Shares, same_room}
use Rattle.dispatch_machine.specs.RunExamples.{run_by, flat, sums}

-- DISPATCHES of one group, by the words of the rooms that are there.
pub record Filled : Type 0 where
  pub room : Room
  pub words : List ℕ

abbrev pub filled : Room → List ℕ → Filled
filled room words = record { room = room; words = words }

abbrev pub words_among : List Filled → Room → List ℕ
words_among [] room = []
words_among (f ∷ rest) room = if same_room room f.room then f.words else words_among rest room

abbrev pub dispatch : List Filled → Dispatch
dispatch rooms = record {
  groups = axes 1 1 1;
  constants = λ slot. [];
  memory = record { views = words_among rooms; shared = λ group slot. words_among rooms (Shared slot) };
}

-- RUNS, where each pick makes fewer silent steps than a bound, and picks in turns.
abbrev pub run : Shader → Dispatch → ℕ → List ℕ → Option Shares
run p d bound picks = run_by (threads_in p.declarations) (bytecode.step Base p) (λ setting. bytecode.start) d bound picks

abbrev pub in_turns : ℕ → List ℕ → List ℕ
in_turns zero lanes = []
in_turns (suc rounds) lanes = lanes ++ in_turns rounds lanes

-- what a run leaves: the words of a view, a lane's events with their answers, and whether lanes have ended or wait
abbrev pub words_of : Room → Option Shares → Option (List ℕ)
words_of room = option_map (λ c. c.memory.views room)

abbrev pub log_of : ℕ → Option Shares → Option (List Logged)
log_of lane = option_map (λ c. c.log lane)

abbrev pub logs_of : List ℕ → Option Shares → Option (List (List Logged))
logs_of lanes = option_map (λ c. map c.log lanes)

abbrev pub ended : List ℕ → Option Shares → Option (List Bool)
ended lanes = option_map (λ c. map c.has_ended lanes)

abbrev pub waiting : List ℕ → Option Shares → Option (List Bool)
waiting lanes = option_map (λ c. map c.waits lanes)

abbrev pub one_lane : List ℕ
one_lane = 0 ∷ []

abbrev pub two_lanes : List ℕ
two_lanes = 0 ∷ 1 ∷ []

-- u0 of bytes before further declarations
abbrev pub on_raw : List Declaration → List Declaration
on_raw others = declaration.Uav 0 view.Raw false false ∷ others

abbrev pub answered : Event → ℕ → Logged
answered e answer = record { event = e; answer = answer }

-- a word stored in u0, which has no answer
abbrev pub stored : ℕ → ℕ → Logged
stored word value = answered (Store (Uav 0) word value) 0

abbrev pub four_words : ℕ → ℕ → ℕ → ℕ → Argument
four_words x y z w = record (literal x) { y = y; z = z; w = w }

-- stores in u0: of two components of a register at 0, and of all components of r0
abbrev pub store_pair : ℕ → Instruction
store_pair slot = instruction 166 0 (slot_of kind.Uav 0 (Mask 3)) (literal 0) (slot_of kind.Temp slot (Swizzle 4)) nothing

abbrev pub store_four : Argument → Instruction
store_four at = instruction 166 0 (slot_of kind.Uav 0 (Mask 15)) at (slot_of kind.Temp 0 (Swizzle 0xE4)) nothing

abbrev pub shared_alone : Classes
shared_alone = record { buffers = false; shared = true }

-- SHARED SUM: four lanes add their numbers in shared memory, meet at a barrier, and write the sum.
abbrev pub four_lanes : List ℕ
four_lanes = 0 ∷ 1 ∷ 2 ∷ 3 ∷ []

abbrev pub summing_four : Shader
summing_four = program_of
    (declaration.Uav 0 view.Raw false false ∷ declaration.Input kind.FlatId Bare ∷ declaration.Temps 1 ∷
    declaration.Shared 0 (shared.Raw 4) ∷ declaration.Group 4 1 1 ∷ []) sums

abbrev pub sum_behind : List ℕ → Option Shares
sum_behind picks =
    run summing_four (dispatch (filled (Uav 0) (0 ∷ 0 ∷ 0 ∷ 0 ∷ []) ∷ filled (Shared 0) (0 ∷ []) ∷ [])) 8
    (picks ++ in_turns 5 four_lanes)

-- the events of a lane, whose add is answered with that word
abbrev pub sum_events : ℕ → ℕ → List Logged
sum_events lane answer =
    answered (Atomic (Shared 0) 0 Add lane 0) answer ∷ answered (Barrier Group shared_alone) 0 ∷
    answered (Load (Shared 0) 0) 6 ∷ stored lane 6 ∷ []

-- in turns; the last lane first; the first two up to the barrier, where they wait for the others
pub sum_in_turns : words_of (Uav 0) (sum_behind []) ≡ Some (6 ∷ 6 ∷ 6 ∷ 6 ∷ [])
unfolding meaning_of opcode_table
sum_in_turns = refl

pub sum_last_first : words_of (Uav 0) (sum_behind (3 ∷ 2 ∷ 1 ∷ 0 ∷ [])) ≡ Some (6 ∷ 6 ∷ 6 ∷ 6 ∷ [])
unfolding meaning_of opcode_table
sum_last_first = refl

pub sum_two_wait : words_of (Uav 0) (sum_behind (0 ∷ 0 ∷ 1 ∷ 1 ∷ [])) ≡ Some (6 ∷ 6 ∷ 6 ∷ 6 ∷ [])
unfolding meaning_of opcode_table
sum_two_wait = refl

pub sum_logs_in_turns : logs_of four_lanes (sum_behind []) ≡ Some (sum_events 0 0 ∷ sum_events 1 0 ∷ sum_events 2 1 ∷ sum_events 3 3 ∷ [])
unfolding meaning_of opcode_table
sum_logs_in_turns = refl

pub sum_logs_last_first :
    logs_of four_lanes (sum_behind (3 ∷ 2 ∷ 1 ∷ 0 ∷ [])) ≡ Some (sum_events 0 6 ∷ sum_events 1 5 ∷ sum_events 2 3 ∷ sum_events 3 0 ∷ [])
unfolding meaning_of opcode_table
sum_logs_last_first = refl

pub sum_logs_two_wait :
    logs_of four_lanes (sum_behind (0 ∷ 0 ∷ 1 ∷ 1 ∷ [])) ≡ Some (sum_events 0 0 ∷ sum_events 1 0 ∷ sum_events 2 1 ∷ sum_events 3 3 ∷ [])
unfolding meaning_of opcode_table
sum_logs_two_wait = refl

pub sum_ends_in_turns : ended four_lanes (sum_behind []) ≡ Some (true ∷ true ∷ true ∷ true ∷ [])
unfolding meaning_of opcode_table
sum_ends_in_turns = refl

pub sum_ends_last_first : ended four_lanes (sum_behind (3 ∷ 2 ∷ 1 ∷ 0 ∷ [])) ≡ Some (true ∷ true ∷ true ∷ true ∷ [])
unfolding meaning_of opcode_table
sum_ends_last_first = refl

pub sum_ends_two_wait : ended four_lanes (sum_behind (0 ∷ 0 ∷ 1 ∷ 1 ∷ [])) ≡ Some (true ∷ true ∷ true ∷ true ∷ [])
unfolding meaning_of opcode_table
sum_ends_two_wait = refl

-- WAITING LANES: the first lane returns, and the second waits at a barrier where the first never comes.
abbrev pub waiting_pair : Shader
waiting_pair = program_of (declaration.Input kind.FlatId Bare ∷ declaration.Group 2 1 1 ∷ []) (
    instruction 31 0 flat nothing nothing nothing ∷  -- if_z vThreadIDInGroupFlattened
    bare 62 ∷  -- ret
    bare 21 ∷  -- endif
    record (bare 190) { controls = 0x1800 } ∷  -- sync_g_t
    bare 62 ∷ [])  -- ret

abbrev pub wait_run : Option Shares
wait_run = run waiting_pair (dispatch []) 8 (in_turns 3 two_lanes)

pub wait_first_log : log_of 0 wait_run ≡ Some []
unfolding meaning_of opcode_table
wait_first_log = refl

pub wait_second_log : log_of 1 wait_run ≡ Some (answered (Barrier Group shared_alone) 0 ∷ [])
unfolding meaning_of opcode_table
wait_second_log = refl

pub wait_ends : ended two_lanes wait_run ≡ Some (true ∷ false ∷ [])
unfolding meaning_of opcode_table
wait_ends = refl

pub wait_waits : waiting two_lanes wait_run ≡ Some (false ∷ true ∷ [])
unfolding meaning_of opcode_table
wait_waits = refl

-- COUNTERS: a counter steps up, down, and down past 0.
abbrev pub counting : Shader
counting = program_of
    (declaration.Uav 0 (view.Structured 4) false false ∷ declaration.Uav 1 view.Raw false false ∷ declaration.Temps 1 ∷
    declaration.Group 1 1 1 ∷ []) (
    instruction 178 0 (r0_to 1) (slot_of kind.Uav 0 Bare) nothing nothing ∷  -- imm_atomic_alloc r0.x, u0
    instruction 179 0 (r0_to 2) (slot_of kind.Uav 0 Bare) nothing nothing ∷  -- imm_atomic_consume r0.y, u0
    instruction 179 0 (r0_to 4) (slot_of kind.Uav 0 Bare) nothing nothing ∷  -- imm_atomic_consume r0.z, u0
    instruction 166 0 (slot_of kind.Uav 1 (Mask 7)) (literal 0) (slot_of kind.Temp 0 (Swizzle 0x24)) nothing ∷  -- store_raw u1.xyz, l(0), r0.xyzx
    bare 62 ∷ [])  -- ret

abbrev pub count_run : Option Shares
count_run =
    run counting (dispatch (filled (Uav 0) (0 ∷ []) ∷ filled (Uav 1) (0 ∷ 0 ∷ 0 ∷ []) ∷ filled (Counter 0) (0 ∷ []) ∷ [])) 8
    (in_turns 7 one_lane)

pub count_words : words_of (Uav 1) count_run ≡ Some (0 ∷ 0 ∷ 4294967295 ∷ [])
unfolding meaning_of opcode_table
count_words = refl

pub count_counter : words_of (Counter 0) count_run ≡ Some (4294967295 ∷ [])
unfolding meaning_of opcode_table
count_counter = refl

pub count_others : words_of (Uav 0) count_run ≡ Some (0 ∷ [])
unfolding meaning_of opcode_table
count_others = refl

pub count_log : log_of 0 count_run ≡ Some (
    answered (Atomic (Counter 0) 0 Add 1 0) 0 ∷ answered (Atomic (Counter 0) 0 Sub 1 0) 1 ∷ answered (Atomic (Counter 0) 0 Sub 1 0) 0 ∷
    answered (Store (Uav 1) 0 0) 0 ∷ answered (Store (Uav 1) 1 0) 0 ∷ answered (Store (Uav 1) 2 4294967295) 0 ∷ [])
unfolding meaning_of opcode_table
count_log = refl

pub count_ends : ended one_lane count_run ≡ Some (true ∷ [])
unfolding meaning_of opcode_table
count_ends = refl

-- NEGATED SOURCE: 1 less the lane's number shifted to the highest bit.
abbrev pub negating : Shader
negating = program_of (on_raw (declaration.Input kind.FlatId Bare ∷ declaration.Temps 1 ∷ declaration.Group 2 1 1 ∷ [])) (
    instruction 41 0 (r0_to 2) flat (literal 31) nothing ∷  -- ishl r0.y, vThreadIDInGroupFlattened, l(31)
    instruction 30 0 (r0_to 1) (record (r0 1) { negate = true }) (literal 1) nothing ∷  -- iadd r0.x, -r0.y, l(1)
    instruction 41 0 (r0_to 4) flat (literal 2) nothing ∷  -- ishl r0.z, vThreadIDInGroupFlattened, l(2)
    instruction 166 0 (slot_of kind.Uav 0 (Mask 1)) (r0 2) (r0 0) nothing ∷  -- store_raw u0.x, r0.z, r0.x
    bare 62 ∷ [])  -- ret

abbrev pub negate_run : Option Shares
negate_run = run negating (dispatch (filled (Uav 0) (0 ∷ 0 ∷ []) ∷ [])) 8 (in_turns 2 two_lanes)

pub negate_words : words_of (Uav 0) negate_run ≡ Some (1 ∷ 2147483649 ∷ [])
unfolding meaning_of opcode_table
negate_words = refl

pub negate_first_log : log_of 0 negate_run ≡ Some (stored 0 1 ∷ [])
unfolding meaning_of opcode_table
negate_first_log = refl

pub negate_second_log : log_of 1 negate_run ≡ Some (stored 1 2147483649 ∷ [])
unfolding meaning_of opcode_table
negate_second_log = refl

pub negate_ends : ended two_lanes negate_run ≡ Some (true ∷ true ∷ [])
unfolding meaning_of opcode_table
negate_ends = refl

-- QUOTIENT BY ZERO: 7 by 0, and 7 by 3.
abbrev pub dividing : Shader
dividing = program_of (on_raw (declaration.Temps 1 ∷ declaration.Group 1 1 1 ∷ [])) (
    -- udiv r0.xy, null, l(7, 7, 0, 0), l(0, 3, 0, 0)
    instruction 78 0 (r0_to 3) nothing (four_words 7 7 0 0) (four_words 0 3 0 0) ∷
    store_pair 0 ∷  -- store_raw u0.xy, l(0), r0.xyxx
    bare 62 ∷ [])  -- ret

abbrev pub divide_run : Option Shares
divide_run = run dividing (dispatch (filled (Uav 0) (0 ∷ 0 ∷ []) ∷ [])) 8 (in_turns 3 one_lane)

pub divide_words : words_of (Uav 0) divide_run ≡ Some (4294967295 ∷ 2 ∷ [])
unfolding meaning_of opcode_table
divide_words = refl

pub divide_log : log_of 0 divide_run ≡ Some (stored 0 4294967295 ∷ stored 1 2 ∷ [])
unfolding meaning_of opcode_table
divide_log = refl

pub divide_ends : ended one_lane divide_run ≡ Some (true ∷ [])
unfolding meaning_of opcode_table
divide_ends = refl

-- BIT FIELDS AT THE EDGE: one past bit 31 with its sign, and one of 32 bits, which counts as none.
abbrev pub cutting : Shader
cutting = program_of (on_raw (declaration.Temps 1 ∷ declaration.Group 1 1 1 ∷ [])) (
    instruction 139 0 (r0_to 1) (literal 31) (literal 31) (literal 0x80000000) ∷  -- ibfe r0.x, l(31), l(31), l(0x80000000)
    instruction 138 0 (r0_to 2) (literal 32) (literal 4) (literal 0xFFFFFFFF) ∷  -- ubfe r0.y, l(32), l(4), l(0xFFFFFFFF)
    store_pair 0 ∷  -- store_raw u0.xy, l(0), r0.xyxx
    bare 62 ∷ [])  -- ret

abbrev pub cut_run : Option Shares
cut_run = run cutting (dispatch (filled (Uav 0) (0 ∷ 0 ∷ []) ∷ [])) 8 (in_turns 3 one_lane)

pub cut_words : words_of (Uav 0) cut_run ≡ Some (4294967295 ∷ 0 ∷ [])
unfolding meaning_of opcode_table
cut_words = refl

pub cut_log : log_of 0 cut_run ≡ Some (stored 0 4294967295 ∷ stored 1 0 ∷ [])
unfolding meaning_of opcode_table
cut_log = refl

pub cut_ends : ended one_lane cut_run ≡ Some (true ∷ [])
unfolding meaning_of opcode_table
cut_ends = refl

-- STRUCTURED LOAD PAST THE END: of two structures the first lane loads the second, and the second lane what is past them.
abbrev pub loading : Shader
loading = program_of
    (declaration.Resource 0 (view.Structured 16) ∷
    on_raw (declaration.Input kind.FlatId Bare ∷ declaration.Temps 2 ∷ declaration.Group 2 1 1 ∷ [])) (
    instruction 30 0 (r0_to 1) flat (literal 1) nothing ∷  -- iadd r0.x, vThreadIDInGroupFlattened, l(1)
    instruction 54 0 (r0_to 2) (literal 0) nothing nothing ∷  -- mov r0.y, l(0)
    instruction 167 0 (r0_to 15) (r0 0) (r0 1) (slot_of kind.Resource 0 (Swizzle 0xE4)) ∷  -- ld_structured r0.xyzw, r0.x, r0.y, t0.xyzw
    instruction 41 0 (slot_of kind.Temp 1 (Mask 1)) flat (literal 4) nothing ∷  -- ishl r1.x, vThreadIDInGroupFlattened, l(4)
    store_four (slot_of kind.Temp 1 (One 0)) ∷  -- store_raw u0.xyzw, r1.x, r0.xyzw
    bare 62 ∷ [])  -- ret

abbrev pub load_run : Option Shares
load_run =
    run loading
    (dispatch (filled (Resource 0) (1 ∷ 2 ∷ 3 ∷ 4 ∷ 5 ∷ 6 ∷ 7 ∷ 8 ∷ []) ∷ filled (Uav 0) (9 ∷ 9 ∷ 9 ∷ 9 ∷ 9 ∷ 9 ∷ 9 ∷ 9 ∷ []) ∷ [])) 8
    (in_turns 9 two_lanes)

pub load_words : words_of (Uav 0) load_run ≡ Some (5 ∷ 6 ∷ 7 ∷ 8 ∷ 0 ∷ 0 ∷ 0 ∷ 0 ∷ [])
unfolding meaning_of opcode_table
load_words = refl

pub load_first_log : log_of 0 load_run ≡ Some (
    answered (Load (Resource 0) 4) 5 ∷ answered (Load (Resource 0) 5) 6 ∷ answered (Load (Resource 0) 6) 7 ∷ answered (Load (Resource 0) 7) 8 ∷
    stored 0 5 ∷ stored 1 6 ∷ stored 2 7 ∷ stored 3 8 ∷ [])
unfolding meaning_of opcode_table
load_first_log = refl

pub load_second_log : log_of 1 load_run ≡ Some (stored 4 0 ∷ stored 5 0 ∷ stored 6 0 ∷ stored 7 0 ∷ [])
unfolding meaning_of opcode_table
load_second_log = refl

pub load_ends : ended two_lanes load_run ≡ Some (true ∷ true ∷ [])
unfolding meaning_of opcode_table
load_ends = refl

-- RAW STORE AT THE END: of four words one is in the view.
abbrev pub storing : Shader
storing = program_of (on_raw (declaration.Group 1 1 1 ∷ [])) (
    instruction 166 0 (slot_of kind.Uav 0 (Mask 15)) (literal 8) (four_words 1 2 3 4) nothing ∷  -- store_raw u0.xyzw, l(8), l(1, 2, 3, 4)
    bare 62 ∷ [])  -- ret

abbrev pub store_run : Option Shares
store_run = run storing (dispatch (filled (Uav 0) (0 ∷ 0 ∷ 0 ∷ []) ∷ [])) 8 (in_turns 2 one_lane)

pub store_words : words_of (Uav 0) store_run ≡ Some (0 ∷ 0 ∷ 1 ∷ [])
unfolding meaning_of opcode_table
store_words = refl

pub store_log : log_of 0 store_run ≡ Some (stored 2 1 ∷ [])
unfolding meaning_of opcode_table
store_log = refl

pub store_ends : ended one_lane store_run ≡ Some (true ∷ [])
unfolding meaning_of opcode_table
store_ends = refl

-- WRAPPED ADDRESS: no word at the highest address, nor behind it, is in the view.
abbrev pub wrapping : Shader
wrapping = program_of (declaration.Resource 0 view.Raw ∷ on_raw (declaration.Temps 1 ∷ declaration.Group 1 1 1 ∷ [])) (
    -- ld_raw r0.xyzw, l(4294967292), t0.xyzw
    instruction 165 0 (r0_to 15) (literal 4294967292) (slot_of kind.Resource 0 (Swizzle 0xE4)) nothing ∷
    store_four (literal 0) ∷  -- store_raw u0.xyzw, l(0), r0.xyzw
    bare 62 ∷ [])  -- ret

abbrev pub wrap_run : Option Shares
wrap_run =
    run wrapping (dispatch (filled (Resource 0) (1 ∷ 2 ∷ 3 ∷ 4 ∷ []) ∷ filled (Uav 0) (7 ∷ 7 ∷ 7 ∷ 7 ∷ []) ∷ [])) 8
    (in_turns 5 one_lane)

pub wrap_words : words_of (Uav 0) wrap_run ≡ Some (0 ∷ 0 ∷ 0 ∷ 0 ∷ [])
unfolding meaning_of opcode_table
wrap_words = refl

pub wrap_log : log_of 0 wrap_run ≡ Some (stored 0 0 ∷ stored 1 0 ∷ stored 2 0 ∷ stored 3 0 ∷ [])
unfolding meaning_of opcode_table
wrap_log = refl

pub wrap_ends : ended one_lane wrap_run ≡ Some (true ∷ [])
unfolding meaning_of opcode_table
wrap_ends = refl

-- INDEXED REGISTERS: the last element of x1, and what is past the end.
abbrev pub indexing : Shader
indexing = program_of (on_raw (declaration.Temps 2 ∷ declaration.Indexable 1 3 4 ∷ declaration.Group 1 1 1 ∷ [])) (
    instruction 54 0 (record (slot_of kind.Indexable 1 (Mask 1)) { index = 2 }) (literal 42) nothing nothing ∷  -- mov x1[2].x, l(42)
    instruction 54 0 (r0_to 1) (literal 0xFFFFFFFF) nothing nothing ∷  -- mov r0.x, l(-1)
    instruction 54 0 (slot_of kind.Temp 1 (Mask 1)) (element 3 0) nothing nothing ∷  -- mov r1.x, x1[r0.x + 3].x
    instruction 54 0 (slot_of kind.Temp 1 (Mask 2)) (element 4 0) nothing nothing ∷  -- mov r1.y, x1[r0.x + 4].x
    store_pair 1 ∷  -- store_raw u0.xy, l(0), r1.xyxx
    bare 62 ∷ [])  -- ret

abbrev pub index_run : Option Shares
index_run = run indexing (dispatch (filled (Uav 0) (0 ∷ 0 ∷ []) ∷ [])) 8 (in_turns 3 one_lane)

pub index_words : words_of (Uav 0) index_run ≡ Some (42 ∷ 0 ∷ [])
unfolding meaning_of opcode_table
index_words = refl

pub index_log : log_of 0 index_run ≡ Some (stored 0 42 ∷ stored 1 0 ∷ [])
unfolding meaning_of opcode_table
index_log = refl

pub index_ends : ended one_lane index_run ≡ Some (true ∷ [])
unfolding meaning_of opcode_table
index_ends = refl

-- CONTROL FLOW: the program with a loop and a switch in it.
abbrev pub turn_run : Option Shares
turn_run = run turning (dispatch (filled (Uav 0) (0 ∷ []) ∷ [])) 40 (in_turns 5 one_lane)

pub turn_words : words_of (Uav 0) turn_run ≡ Some (2121 ∷ [])
unfolding meaning_of opcode_table
turn_words = refl

pub turn_log : log_of 0 turn_run ≡ Some (stored 0 11 ∷ stored 0 1111 ∷ stored 0 2111 ∷ stored 0 2121 ∷ [])
unfolding meaning_of opcode_table
turn_log = refl

pub turn_ends : ended one_lane turn_run ≡ Some (true ∷ [])
unfolding meaning_of opcode_table
turn_ends = refl
