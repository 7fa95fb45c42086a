-- Modules written by hand, run on small memories: the words, the events and the ends that each run leaves.
use Rattle.std.specs.Prelude.{◌≡◌, ℕ, true, false, List, [], ◌∷◌, ◌++◌, Option, Some, refl}
use Rattle.word_base.specs.declared.event.Act.TheVariants.{Add}
use Rattle.word_base.specs.declared.event.Event.TheVariants.{Load, Atomic, Barrier}
use Rattle.word_base.specs.declared.event.Room.TheVariants.{Resource, Uav, Shared}
use Rattle.word_base.specs.declared.event.Scope.TheVariants.{Group}
use Rattle.tpf_program.specs.declared.declaration.Declaration.TheVariants as declaration
use Rattle.tpf_program.specs.Declarations.{threads_in}
use Rattle.tpf_program.specs.Program.{Shader}
use Rattle.tpf_program.specs.ExampleParts.{program_of}
use Rattle.spirv_words.specs.Operations.{OpAccessChain, OpAtomicIAdd, OpBranchConditional, OpCapability, OpConstant, OpControlBarrier, OpDecorate, OpEntryPoint, OpExecutionMode, OpFunction, OpFunctionEnd, OpIAdd, OpIMul, OpLoad, OpMemberDecorate, OpMemoryModel, OpStore, OpSwitch, OpTypeArray, OpTypeBool, OpTypeFunction, OpTypeInt, OpTypePointer, OpTypeRuntimeArray, OpTypeStruct, OpTypeVoid, OpUGreaterThanEqual, OpULessThan, OpVariable}
use Rattle.spirv_words.specs.Text.{Instr, Module, instruction}
use Rattle.spirv_words.specs.Globals.{Places}
use Rattle.spirv_words.specs.Lane as lane
use Rattle.word_base.specs.Settings.{axes}
use Rattle.spirv_words.specs.Variables.{Wanted, nothing_wanted}
use Rattle.spirv_words.specs.VariableExamples.{buffer}
use Rattle.spirv_words.specs.Broken.{Condition, Variables, broken_in, label, goto, select_to, loop_to, leave}
use Rattle.dispatch_machine.specs.Dispatch.{Dispatch, Logged, Shares}
use Rattle.dispatch_machine.specs.RunExamples.{run_by}
use Rattle.dispatch_machine.specs.RowExamples.{filled, dispatch, in_turns, words_of, logs_of, ended, one_lane, two_lanes, answered, stored, shared_alone}

-- A module of version 1.3, with inputs and declarations of its own and the body of its function. Its ids are 1 main, 2 void, 3 the
-- function's type, 4 truths, 5 words, 6 to 10 the words 0, 1, 2, 3 and 7, 11 to 14 the types of a view and its words, 15 the view at set 0
-- and binding 0, and 16 pointers to words of the function.
abbrev pub module_of : ℕ → List ℕ → List Instr → List Instr → List Instr → Module
module_of threads inputs decorations declarations body = record {
  version = 0x00010300;
  bound = 100;
  code =
      instruction OpCapability (1 ∷ []) ∷ instruction OpMemoryModel (0 ∷ 1 ∷ []) ∷
      instruction OpEntryPoint (5 ∷ 1 ∷ 0x6E69616D ∷ 0 ∷ inputs) ∷
      instruction OpExecutionMode (1 ∷ 17 ∷ threads ∷ 1 ∷ 1 ∷ []) ∷
      instruction OpDecorate (11 ∷ 6 ∷ 4 ∷ []) ∷ instruction OpMemberDecorate (12 ∷ 0 ∷ 35 ∷ 0 ∷ []) ∷
      instruction OpDecorate (12 ∷ 2 ∷ []) ∷
      instruction OpDecorate (15 ∷ 34 ∷ 0 ∷ []) ∷ instruction OpDecorate (15 ∷ 33 ∷ 0 ∷ []) ∷
      (decorations ++ (instruction OpTypeVoid (2 ∷ []) ∷ instruction OpTypeFunction (3 ∷ 2 ∷ []) ∷
      instruction OpTypeBool (4 ∷ []) ∷ instruction OpTypeInt (5 ∷ 32 ∷ 0 ∷ []) ∷
      instruction OpConstant (5 ∷ 6 ∷ 0 ∷ []) ∷ instruction OpConstant (5 ∷ 7 ∷ 1 ∷ []) ∷
      instruction OpConstant (5 ∷ 8 ∷ 2 ∷ []) ∷
      instruction OpConstant (5 ∷ 9 ∷ 3 ∷ []) ∷ instruction OpConstant (5 ∷ 10 ∷ 7 ∷ []) ∷
      instruction OpTypeRuntimeArray (11 ∷ 5 ∷ []) ∷ instruction OpTypeStruct (12 ∷ 11 ∷ []) ∷
      instruction OpTypePointer (13 ∷ 12 ∷ 12 ∷ []) ∷ instruction OpTypePointer (14 ∷ 12 ∷ 5 ∷ []) ∷
      instruction OpVariable (13 ∷ 15 ∷ 12 ∷ []) ∷ instruction OpTypePointer (16 ∷ 7 ∷ 5 ∷ []) ∷
      (declarations ++ (instruction OpFunction (2 ∷ 1 ∷ 0 ∷ 3 ∷ []) ∷
      label 20 ∷ (body ++ (instruction OpFunctionEnd [] ∷ []))))));
}

abbrev pub simple : List Instr → Module
simple body = module_of 1 [] [] [] body

-- the pointer to a word of the view, by the id of its index; loads, stores and sums
abbrev pub word_of_view : ℕ → ℕ → Instr
word_of_view result index = instruction OpAccessChain (14 ∷ result ∷ 15 ∷ 6 ∷ index ∷ [])

abbrev pub load : ℕ → ℕ → Instr
load result pointer = instruction OpLoad (5 ∷ result ∷ pointer ∷ [])

abbrev pub store : ℕ → ℕ → Instr
store pointer value = instruction OpStore (pointer ∷ value ∷ [])

abbrev pub add : ℕ → ℕ → ℕ → Instr
add result left right = instruction OpIAdd (5 ∷ result ∷ left ∷ right ∷ [])

abbrev pub choose_by : ℕ → ℕ → ℕ → Instr
choose_by truth l k = instruction OpBranchConditional (truth ∷ l ∷ k ∷ [])

-- where lanes find the view and what else is bound, and a program with that many threads in its group
abbrev pub view_alone : Places
view_alone = record { rooms = record { set = 0; binding = 0; room = Uav 0 } ∷ []; slots = []; pushes = []; shared = [] }

abbrev pub threads_of : ℕ → Shader
threads_of threads = program_of (declaration.Group threads 1 1 ∷ []) []

-- What a module breaks of the form: of a number of threads, and of one thread where the view is all that is bound.
abbrev pub view_wanted : Wanted
view_wanted = record nothing_wanted { buffers = buffer 0 0 false false ∷ [] }

abbrev pub broken_for : ℕ → Wanted → Module → List Condition
broken_for threads wanted m = broken_in 0x00010300 (axes threads 1 1) wanted m

abbrev pub broken_alone : Module → List Condition
broken_alone m = broken_for 1 view_wanted m

-- RUNS, where each pick makes fewer silent steps than a bound.
abbrev pub run_module : ℕ → Module → Places → Dispatch → ℕ → List ℕ → Option Shares
run_module threads m places d bound picks = run_by (threads_in (threads_of threads).declarations) (lane.lane m places) (lane.start m places) d bound picks

-- the run of one lane on words of the view
abbrev pub run_alone : Module → List ℕ → ℕ → ℕ → Option Shares
run_alone m words bound picks = run_module 1 m view_alone (dispatch (filled (Uav 0) words ∷ [])) bound (in_turns picks one_lane)

-- STRAIGHT LINE: the sum of 3 and 7 is stored in word 2.
abbrev pub straight : Module
straight = simple (add 30 9 10 ∷ word_of_view 31 8 ∷ store 31 30 ∷ leave ∷ [])

pub straight_has_form : broken_alone straight ≡ []
straight_has_form = refl

abbrev pub straight_run : Option Shares
straight_run = run_alone straight (0 ∷ 0 ∷ 0 ∷ 0 ∷ []) 8 2

pub straight_words : words_of (Uav 0) straight_run ≡ Some (0 ∷ 0 ∷ 10 ∷ 0 ∷ [])
straight_words = refl

pub straight_ends : ended one_lane straight_run ≡ Some (true ∷ [])
straight_ends = refl

-- GUARDED STORE: 7 is stored in word 1 only where word 0 is less than 3.
abbrev pub guarded : Module
guarded = simple (
    word_of_view 30 6 ∷ load 31 30 ∷ instruction OpULessThan (4 ∷ 32 ∷ 31 ∷ 9 ∷ []) ∷ select_to 22 ∷
    choose_by 32 21 22 ∷
    label 21 ∷ word_of_view 33 7 ∷ store 33 10 ∷ goto 22 ∷
    label 22 ∷ leave ∷ [])

pub guarded_has_form : broken_alone guarded ≡ []
guarded_has_form = refl

abbrev pub guarded_run : ℕ → Option Shares
guarded_run first = run_alone guarded (first ∷ 0 ∷ []) 8 3

pub guarded_stores : words_of (Uav 0) (guarded_run 2) ≡ Some (2 ∷ 7 ∷ [])
guarded_stores = refl

pub guarded_passes : words_of (Uav 0) (guarded_run 3) ≡ Some (3 ∷ 0 ∷ [])
guarded_passes = refl

pub guarded_stores_ends : ended one_lane (guarded_run 2) ≡ Some (true ∷ [])
guarded_stores_ends = refl

pub guarded_passes_ends : ended one_lane (guarded_run 3) ≡ Some (true ∷ [])
guarded_passes_ends = refl

-- LOOP: it counts to 3 and adds 7 in each turn; behind its exit the count is stored in word 0 and the total in word 1.
abbrev pub counts : Module
counts = simple (
    instruction OpVariable (16 ∷ 30 ∷ 7 ∷ 6 ∷ []) ∷ instruction OpVariable (16 ∷ 31 ∷ 7 ∷ 6 ∷ []) ∷ goto 21 ∷
    label 21 ∷ loop_to 24 23 ∷ goto 22 ∷
    label 22 ∷ load 32 30 ∷ instruction OpUGreaterThanEqual (4 ∷ 33 ∷ 32 ∷ 9 ∷ []) ∷ select_to 26 ∷ choose_by 33 25 26 ∷
    label 25 ∷ goto 24 ∷
    label 26 ∷ load 34 30 ∷ add 35 34 7 ∷ store 30 35 ∷ load 36 31 ∷ add 37 36 10 ∷ store 31 37 ∷ goto 23 ∷
    label 23 ∷ goto 21 ∷
    label 24 ∷ load 38 30 ∷ word_of_view 39 6 ∷ store 39 38 ∷ load 40 31 ∷ word_of_view 41 7 ∷ store 41 40 ∷ leave ∷ [])

pub counts_has_form : broken_alone counts ≡ []
counts_has_form = refl

abbrev pub counts_run : Option Shares
counts_run = run_alone counts (0 ∷ 0 ∷ []) 64 3

pub counts_words : words_of (Uav 0) counts_run ≡ Some (3 ∷ 21 ∷ [])
counts_words = refl

pub counts_ends : ended one_lane counts_run ≡ Some (true ∷ [])
counts_ends = refl

-- SWITCH: case 0 falls through to the default, which stands between the cases and falls through to case 1. Each stores a word of its own.
abbrev pub switches : Module
switches = simple (
    word_of_view 30 6 ∷ load 31 30 ∷ select_to 24 ∷ instruction OpSwitch (31 ∷ 22 ∷ 0 ∷ 21 ∷ 1 ∷ 23 ∷ []) ∷
    label 21 ∷ word_of_view 32 7 ∷ store 32 7 ∷ goto 22 ∷
    label 22 ∷ word_of_view 33 8 ∷ store 33 8 ∷ goto 23 ∷
    label 23 ∷ word_of_view 34 9 ∷ store 34 9 ∷ goto 24 ∷
    label 24 ∷ leave ∷ [])

pub switches_has_form : broken_alone switches ≡ []
switches_has_form = refl

abbrev pub switch_run : ℕ → Option Shares
switch_run first = run_alone switches (first ∷ 0 ∷ 0 ∷ 0 ∷ []) 8 5

pub switch_zero : words_of (Uav 0) (switch_run 0) ≡ Some (0 ∷ 1 ∷ 2 ∷ 3 ∷ [])
switch_zero = refl

pub switch_one : words_of (Uav 0) (switch_run 1) ≡ Some (1 ∷ 0 ∷ 0 ∷ 3 ∷ [])
switch_one = refl

pub switch_other : words_of (Uav 0) (switch_run 5) ≡ Some (5 ∷ 0 ∷ 2 ∷ 3 ∷ [])
switch_other = refl

pub switch_zero_ends : ended one_lane (switch_run 0) ≡ Some (true ∷ [])
switch_zero_ends = refl

pub switch_one_ends : ended one_lane (switch_run 1) ≡ Some (true ∷ [])
switch_one_ends = refl

pub switch_other_ends : ended one_lane (switch_run 5) ≡ Some (true ∷ [])
switch_other_ends = refl

-- ATOMICS AND A BARRIER: two lanes add their numbers and 1 to a word that they share, meet at a barrier, and each stores the sum at its
-- number.
abbrev pub meets : Module
meets = module_of 2 (43 ∷ []) (instruction OpDecorate (43 ∷ 11 ∷ 29 ∷ []) ∷ [])
    (instruction OpTypeArray (39 ∷ 5 ∷ 7 ∷ []) ∷ instruction OpTypePointer (40 ∷ 4 ∷ 39 ∷ []) ∷
    instruction OpVariable (40 ∷ 41 ∷ 4 ∷ []) ∷ instruction OpTypePointer (45 ∷ 4 ∷ 5 ∷ []) ∷
    instruction OpTypePointer (42 ∷ 1 ∷ 5 ∷ []) ∷ instruction OpVariable (42 ∷ 43 ∷ 1 ∷ []) ∷
    instruction OpConstant (5 ∷ 44 ∷ 0x108 ∷ []) ∷ [])
    (load 30 43 ∷ add 31 30 7 ∷ instruction OpAccessChain (45 ∷ 46 ∷ 41 ∷ 6 ∷ []) ∷
    instruction OpAtomicIAdd (5 ∷ 32 ∷ 46 ∷ 8 ∷ 6 ∷ 31 ∷ []) ∷
    instruction OpControlBarrier (8 ∷ 8 ∷ 44 ∷ []) ∷ load 33 46 ∷ word_of_view 34 30 ∷ store 34 33 ∷ leave ∷ [])

pub meets_has_form : broken_for 2 (record view_wanted { shared = 1 ∷ []; inputs = 29 ∷ [] }) meets ≡ []
meets_has_form = refl

-- the picks of these lanes, and then five of each in turns
abbrev pub meets_run : List ℕ → Option Shares
meets_run picks =
    run_module 2 meets (record view_alone { shared = 0 ∷ [] }) (dispatch (filled (Uav 0) (0 ∷ 0 ∷
    []) ∷ filled (Shared 0) (0 ∷ []) ∷ [])) 8
    (picks ++ in_turns 5 two_lanes)

-- the events of a lane, whose add is answered with that word
abbrev pub meets_events : ℕ → ℕ → ℕ → List Logged
meets_events lane addend answer =
    answered (Atomic (Shared 0) 0 Add addend 0) answer ∷ answered (Barrier Group shared_alone) 0 ∷
    answered (Load (Shared 0) 0) 3 ∷ stored lane 3 ∷ []

-- in turns; and the second lane first, up to the barrier, where it waits
pub meets_in_turns : words_of (Uav 0) (meets_run []) ≡ Some (3 ∷ 3 ∷ [])
meets_in_turns = refl

pub meets_second_first : words_of (Uav 0) (meets_run (1 ∷ 1 ∷ 1 ∷ [])) ≡ Some (3 ∷ 3 ∷ [])
meets_second_first = refl

pub meets_logs_in_turns : logs_of two_lanes (meets_run []) ≡ Some (meets_events 0 1 0 ∷ meets_events 1 2 1 ∷ [])
meets_logs_in_turns = refl

pub meets_logs_second_first : logs_of two_lanes (meets_run (1 ∷ 1 ∷ 1 ∷ [])) ≡ Some (meets_events 0 1 2 ∷ meets_events 1 2 0 ∷ [])
meets_logs_second_first = refl

pub meets_ends_in_turns : ended two_lanes (meets_run []) ≡ Some (true ∷ true ∷ [])
meets_ends_in_turns = refl

pub meets_ends_second_first : ended two_lanes (meets_run (1 ∷ 1 ∷ 1 ∷ [])) ≡ Some (true ∷ true ∷ [])
meets_ends_second_first = refl

-- STRUCTURED LOAD: a read-only view at binding 1 has elements of two words. The word 0 of the first view and 1 make the element's number,
-- and its words are stored in words 1 and 2.
abbrev pub structured : Module
structured = module_of 1 []
    (instruction OpDecorate (50 ∷ 2 ∷ []) ∷ instruction OpMemberDecorate (50 ∷ 0 ∷ 35 ∷ 0 ∷ []) ∷
    instruction OpMemberDecorate (50 ∷ 0 ∷ 24 ∷ []) ∷
    instruction OpDecorate (52 ∷ 34 ∷ 0 ∷ []) ∷ instruction OpDecorate (52 ∷ 33 ∷ 1 ∷ []) ∷ [])
    (instruction OpTypeStruct (50 ∷ 11 ∷ []) ∷ instruction OpTypePointer (51 ∷ 12 ∷ 50 ∷ []) ∷
    instruction OpVariable (51 ∷ 52 ∷ 12 ∷ []) ∷ [])
    (word_of_view 30 6 ∷ load 31 30 ∷ add 32 31 7 ∷ instruction OpIMul (5 ∷ 33 ∷ 32 ∷ 8 ∷ []) ∷
    instruction OpAccessChain (14 ∷ 34 ∷ 52 ∷ 6 ∷ 33 ∷ []) ∷ load 35 34 ∷ word_of_view 36 7 ∷ store 36 35 ∷
    add 37 33 7 ∷
    instruction OpAccessChain (14 ∷ 38 ∷ 52 ∷ 6 ∷ 37 ∷ []) ∷ load 39 38 ∷ word_of_view 40 8 ∷ store 40 39 ∷ leave ∷ [])

abbrev pub both_wanted : Wanted
both_wanted = record nothing_wanted { buffers = buffer 0 0 false false ∷ buffer 0 1 true false ∷ [] }

pub structured_has_form : broken_for 1 both_wanted structured ≡ []
structured_has_form = refl

abbrev pub both_views : Places
both_views = record view_alone {
  rooms = record { set = 0; binding = 0; room = Uav 0 } ∷ record { set = 0; binding = 1; room = Resource 0 } ∷ [];
}

abbrev pub both_run : Module → ℕ → Option Shares
both_run m first =
    run_module 1 m both_views
    (dispatch (filled (Uav 0) (first ∷ 0 ∷ 0 ∷ []) ∷ filled (Resource 0) (10 ∷ 11 ∷ 20 ∷ 21 ∷ 30 ∷ 31 ∷ []) ∷
    [])) 8 (in_turns 6 one_lane)

-- the second element, and the last
pub structured_second : words_of (Uav 0) (both_run structured 0) ≡ Some (0 ∷ 20 ∷ 21 ∷ [])
structured_second = refl

pub structured_last : words_of (Uav 0) (both_run structured 1) ≡ Some (1 ∷ 30 ∷ 31 ∷ [])
structured_last = refl

pub structured_log :
    logs_of one_lane (both_run structured 1) ≡ Some (
    (answered (Load (Uav 0) 0) 1 ∷ answered (Load (Resource 0) 4) 30 ∷
    stored 1 30 ∷ answered (Load (Resource 0) 5) 31 ∷ stored 2 31 ∷ []) ∷ [])
structured_log = refl

pub structured_second_ends : ended one_lane (both_run structured 0) ≡ Some (true ∷ [])
structured_second_ends = refl

pub structured_last_ends : ended one_lane (both_run structured 1) ≡ Some (true ∷ [])
structured_last_ends = refl

-- RECORDS: the same words as records of two members, which a chain of three indices leads to. Its lanes run, but the form asks for views
-- of words.
abbrev pub records : Module
records = module_of 1 []
    (instruction OpMemberDecorate (50 ∷ 0 ∷ 35 ∷ 0 ∷ []) ∷ instruction OpMemberDecorate (50 ∷ 1 ∷ 35 ∷ 4 ∷ []) ∷
    instruction OpDecorate (51 ∷ 6 ∷ 8 ∷ []) ∷ instruction OpMemberDecorate (52 ∷ 0 ∷ 35 ∷ 0 ∷ []) ∷
    instruction OpMemberDecorate (52 ∷ 0 ∷ 24 ∷ []) ∷ instruction OpDecorate (52 ∷ 2 ∷ []) ∷
    instruction OpDecorate (54 ∷ 34 ∷ 0 ∷ []) ∷ instruction OpDecorate (54 ∷ 33 ∷ 1 ∷ []) ∷ [])
    (instruction OpTypeStruct (50 ∷ 5 ∷ 5 ∷ []) ∷ instruction OpTypeRuntimeArray (51 ∷ 50 ∷ []) ∷
    instruction OpTypeStruct (52 ∷ 51 ∷ []) ∷ instruction OpTypePointer (53 ∷ 12 ∷ 52 ∷ []) ∷
    instruction OpVariable (53 ∷ 54 ∷ 12 ∷ []) ∷ [])
    (word_of_view 30 6 ∷ load 31 30 ∷ add 32 31 7 ∷
    instruction OpAccessChain (14 ∷ 33 ∷ 54 ∷ 6 ∷ 32 ∷ 6 ∷ []) ∷ load 34 33 ∷ word_of_view 35 7 ∷ store 35 34 ∷
    instruction OpAccessChain (14 ∷ 36 ∷ 54 ∷ 6 ∷ 32 ∷ 7 ∷ []) ∷ load 37 36 ∷ word_of_view 38 8 ∷ store 38 37 ∷
    leave ∷ [])

pub records_variables : broken_for 1 both_wanted records ≡ Variables ∷ []
records_variables = refl

pub records_second : words_of (Uav 0) (both_run records 0) ≡ Some (0 ∷ 20 ∷ 21 ∷ [])
records_second = refl

pub records_last : words_of (Uav 0) (both_run records 1) ≡ Some (1 ∷ 30 ∷ 31 ∷ [])
records_last = refl

pub records_second_ends : ended one_lane (both_run records 0) ≡ Some (true ∷ [])
records_second_ends = refl

pub records_last_ends : ended one_lane (both_run records 1) ≡ Some (true ∷ [])
records_last_ends = refl
