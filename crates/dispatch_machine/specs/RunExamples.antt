-- Two lanes that add their numbers in shared memory, meet at a barrier, and write the sum, under three lists of picks.
use Rattle.tpf_decode.specs.Profiles.{Base}
use Rattle.std.specs.Prelude.{◌≡◌, ℕ, zero, suc, nat_eq, if◌then◌else◌, Bool, true, false, List, [], ◌∷◌, Option, Some, None, option_map, refl}
use Rattle.word_base.specs.declared.event.Act.TheVariants.{Add}
use Rattle.word_base.specs.declared.event.Event.TheVariants.{Load, Store, Atomic, Barrier}
use Rattle.word_base.specs.declared.event.Room.{Room}
use Rattle.word_base.specs.declared.event.Room.TheVariants.{Uav, Shared}
use Rattle.word_base.specs.declared.event.Scope.TheVariants.{Group}
use Rattle.word_base.specs.Lanes.{Turn, Silent, Asks, Ends, Wrong}
use Rattle.word_base.specs.Settings.{axes, Setting, Axes}
use Rattle.tpf_program.specs.declared.declaration.Declaration.TheVariants as declaration
use Rattle.tpf_program.specs.declared.declaration.SharedKind.TheVariants as shared
use Rattle.tpf_program.specs.declared.declaration.ViewKind.TheVariants as view
use Rattle.tpf_decode.specs.declared.argument.Argument.{Argument}
use Rattle.tpf_program.specs.declared.instruction.Instruction.{Instruction}
use Rattle.tpf_decode.specs.declared.argument.Kind.TheVariants as kind
use Rattle.tpf_decode.specs.declared.argument.Select.TheVariants.{Bare, Mask, Swizzle}
use Rattle.tpf_program.specs.Bytecode as bytecode
use Rattle.tpf_program.specs.Declarations.{threads_in}
use Rattle.tpf_decode.specs.Opcodes.{meaning_of, opcode_table}
use Rattle.tpf_program.specs.Program.{Shader}
use Rattle.tpf_program.specs.Spelling.{nothing}
use Rattle.binding_map.specs.declared.register.Register.TheVariants.{Uav as TheView}
use Rattle.binding_map.specs.declared.register.Place.TheVariants.{Bound}
use Rattle.binding_map.specs.Bindings.{Binding, binding}
use Rattle.tpf_program.specs.ExampleParts.{slot_of, literal, r0, r0_to, instruction, bare, program_of}
use Rattle.dispatch_machine.specs.Dispatch.{Dispatch, Shares, setting_of, at_start, shared_machine}
use Rattle.dispatch_machine.specs.Runs.{Machine, moved}

-- A RUN BY COMPUTATION, where each pick makes fewer silent steps than a bound.
abbrev pub stop_of : {S : Type 0} → Turn S → (S → Option (Turn S)) → Option (Turn S)
stop_of (Silent to) further = further to
stop_of (Asks e after) further = Some (Asks e after)
stop_of Ends further = Some Ends
stop_of (Wrong place rule) further = None

abbrev pub next_in : {S : Type 0} → ℕ → (S → Turn S) → S → Option (Turn S)
next_in zero step s = None
next_in (suc n) step s = stop_of (step s) (next_in n step)

pub record Stand (C S : Type 0) : Type 0 where
  pub at : ℕ → S
  pub shared : C

abbrev pub stand : {C S : Type 0} → (ℕ → S) → C → Stand C S
stand at c = record { at = at; shared = c }

abbrev pub taken : {C S : Type 0} → Machine C → Stand C S → ℕ → Option (Turn S) → Option (Stand C S)
taken m s lane (Some (Asks e after)) = Some (stand (moved s.at lane (after (m.answer s.shared lane e))) (m.happens s.shared lane e))
taken m s lane (Some Ends) = Some (stand s.at (m.ended s.shared lane))
taken m s lane other = None

abbrev pub picked : {C S : Type 0} → Bool → Machine C → ℕ → (ℕ → S → Turn S) → Stand C S → ℕ → Option (Stand C S)
picked true m bound step s lane = Some s
picked false m bound step s lane = taken m s lane (next_in bound (step lane) (s.at lane))

abbrev pub run_on : {C S : Type 0} → (Stand C S → Option C) → Option (Stand C S) → Option C
run_on onward None = None
run_on onward (Some s) = onward s

abbrev pub run_in : {C S : Type 0} → Machine C → ℕ → (ℕ → S → Turn S) → List ℕ → Stand C S → Option C
run_in m bound step [] s = Some s.shared
run_in m bound step (lane ∷ picks) s = run_on (run_in m bound step picks) (picked (m.is_idle s.shared lane) m bound step s lane)

-- The run of a dispatch whose lanes start so and make such steps.
abbrev pub run_by : {S : Type 0} → Axes → (Setting → S → Turn S) → (Setting → S) → Dispatch → ℕ → List ℕ → Option Shares
run_by threads step start d bound picks =
    run_in (shared_machine threads) bound (λ l. step (setting_of threads d l)) picks (stand (λ l. start (setting_of threads d l)) (at_start d))

-- THE PROGRAM: a u# of bytes, one word of shared memory, a group of two lanes.
abbrev pub flat : Argument
flat = slot_of kind.FlatId 0 Bare

abbrev pub sums : List Instruction
sums =
    instruction 173 0 (slot_of kind.Shared 0 Bare) (literal 0) flat nothing ∷  -- atomic_iadd g0, l(0), vThreadIDInGroupFlattened
    record (bare 190) { controls = 0x1800 } ∷  -- sync_g_t
    instruction 165 0 (r0_to 1) (literal 0) (slot_of kind.Shared 0 (Swizzle 0)) nothing ∷  -- ld_raw r0.x, l(0), g0.xxxx
    instruction 41 0 (r0_to 2) flat (literal 2) nothing ∷  -- ishl r0.y, vThreadIDInGroupFlattened, l(2)
    instruction 166 0 (slot_of kind.Uav 0 (Mask 1)) (r0 1) (r0 0) nothing ∷  -- store_raw u0.x, r0.y, r0.x
    bare 62 ∷ []  -- ret

abbrev pub summing : Shader
summing = program_of
    (declaration.Uav 0 view.Raw false false ∷ declaration.Input kind.FlatId Bare ∷ declaration.Temps 1 ∷
    declaration.Shared 0 (shared.Raw 4) ∷ declaration.Group 2 1 1 ∷ []) sums

-- an instruction `ret`, by its opcode
abbrev pub returns : Instruction → Bool
returns i = nat_eq i.code 62

-- u0 at set 0 and binding 0
abbrev pub u0_bound : List Binding
u0_bound = binding (TheView 0) (Bound 0 0) ∷ []

-- one group, u0 of two zero words and g0 of one
abbrev pub where_zero : ℕ → List ℕ → List ℕ
where_zero slot words = if nat_eq 0 slot then words else []

abbrev pub views : Room → List ℕ
views (Uav slot) = where_zero slot (0 ∷ 0 ∷ [])
views other = []

abbrev pub one_group : Dispatch
one_group = record { groups = axes 1 1 1; constants = λ slot. []; memory = record { views = views; shared = λ group slot. where_zero slot (0 ∷ []) } }

abbrev pub run_of : List ℕ → Option Shares
run_of picks = run_by (threads_in summing.declarations) (bytecode.step Base summing) (λ setting. bytecode.start) one_group 8 picks

-- the words of u0 behind a run
abbrev pub written_by : Option Shares → Option (List ℕ)
written_by = option_map (λ c. c.memory.views (Uav 0))

-- in turns; the second lane first; the first lane up to the barrier, where it waits while it is picked
abbrev pub in_turns : List ℕ
in_turns = 0 ∷ 1 ∷ 0 ∷ 1 ∷ 0 ∷ 1 ∷ 0 ∷ 1 ∷ 0 ∷ 1 ∷ []

abbrev pub second_first : List ℕ
second_first = 1 ∷ 1 ∷ 1 ∷ in_turns

abbrev pub first_waits : List ℕ
first_waits = 0 ∷ 0 ∷ 0 ∷ 0 ∷ in_turns

pub sum_in_turns : written_by (run_of in_turns) ≡ Some (1 ∷ 1 ∷ [])
unfolding meaning_of opcode_table
sum_in_turns = refl

pub sum_second_first : written_by (run_of second_first) ≡ Some (1 ∷ 1 ∷ [])
unfolding meaning_of opcode_table
sum_second_first = refl

pub sum_first_waits : written_by (run_of first_waits) ≡ Some (1 ∷ 1 ∷ [])
unfolding meaning_of opcode_table
sum_first_waits = refl

-- A lane's log; after four picks of the first lane it waits, and after the whole list both have ended.
pub log_of_second : option_map (λ c. c.log 1) (run_of in_turns) ≡ Some (
    record { event = Atomic (Shared 0) 0 Add 1 0; answer = 0 } ∷
    record { event = Barrier Group (record { buffers = false; shared = true }); answer = 0 } ∷
    record { event = Load (Shared 0) 0; answer = 1 } ∷
    record { event = Store (Uav 0) 1 1; answer = 0 } ∷ [])
unfolding meaning_of opcode_table
log_of_second = refl

pub waits_alone : option_map (λ c. c.waits 0) (run_of (0 ∷ 0 ∷ 0 ∷ 0 ∷ [])) ≡ Some true
unfolding meaning_of opcode_table
waits_alone = refl

pub both_end : option_map (λ c. c.has_ended 1) (run_of first_waits) ≡ Some true
unfolding meaning_of opcode_table
both_end = refl
