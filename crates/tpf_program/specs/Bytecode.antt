-- A lane of a program. (Shader Model 5 assembly: the instructions and their order.)
use Rattle.std.specs.Prelude.{ℕ, ◌+◌, nat_eq, not, if◌then◌else◌, Bool, List, [], ◌∷◌, ◌++◌, length, Option, Some, None, slice_get}
use Rattle.word_base.specs.declared.event.Event.{Event}
use Rattle.word_base.specs.Lanes.{Turn, Silent, Asks, Ends}
use Rattle.word_base.specs.Registers.{Registers, zeros}
use Rattle.word_base.specs.Settings.{Setting}
use Rattle.tpf_decode.specs.Profiles.{Profile}
use Rattle.tpf_decode.specs.Opcodes.{meaning_of}
use Rattle.tpf_decode.specs.declared.meaning.Meaning.{Meaning}
use Rattle.tpf_decode.specs.declared.meaning.Meaning.TheVariants.{If, Else, EndLoop, Continue, ContinueIf, Switch, Break, BreakIf, Return, ReturnIf}
use Rattle.tpf_program.specs.declared.instruction.Instruction.{Instruction}
use Rattle.tpf_program.specs.Program.{Shader}
use Rattle.tpf_program.specs.Values.{Context, context, scalar}
use Rattle.tpf_program.specs.Writes.{has_bit}
use Rattle.tpf_program.specs.Plans.{parts, made, answered}
use Rattle.tpf_program.specs.Results.{outcome}
use Rattle.tpf_program.specs.Ends.{else_of, case_of, around, close_around, is_if, is_loop, is_loop_or_switch}

-- The place in the flat list of instructions, the registers, and the answers to the events already made of the plan there.
pub record State : Type 0 where
  pub place : ℕ
  pub registers : Registers
  pub answers : List ℕ

abbrev pub start : State
start = record { place = 0; registers = zeros; answers = [] }

-- The events that an instruction makes, and the registers that it leaves, both from the registers at its start. One that means nothing
-- makes none and leaves them.
abbrev pub plan_by : Context → Option Meaning → Instruction → List Event
plan_by k None i = []
plan_by k (Some meaning) i = made (parts k meaning i)

abbrev pub plan : Profile → Shader → Setting → Registers → Instruction → List Event
plan profile p setting registers i = plan_by (context p setting registers) (meaning_of profile i.code) i

abbrev pub left_by : Context → Meaning → Instruction → List ℕ → Registers
left_by k meaning i answers = outcome k meaning i (answered (parts k meaning i) answers)

abbrev pub result_by : Context → Option Meaning → Instruction → List ℕ → Registers
result_by k None i answers = k.registers
result_by k (Some meaning) i answers = left_by k meaning i answers

abbrev pub result : Profile → Shader → Setting → Registers → Instruction → List ℕ → Registers
result profile p setting registers i answers = result_by (context p setting registers) (meaning_of profile i.code) i answers

-- silent, to a place
abbrev pub goes_to : Registers → ℕ → Turn State
goes_to registers place = Silent (record { place = place; registers = registers; answers = [] })

-- Behind a place. In a program that is read each place that is looked for is there; without one the lane ends.
abbrev pub goes_behind : Registers → Option ℕ → Turn State
goes_behind registers None = Ends
goes_behind registers (Some place) = goes_to registers (place + 1)

-- the test of if, breakc, continuec and retc: bit 18 says whether it is that the scalar is not 0
abbrev pub holds : Context → Instruction → Bool
holds k i = if has_bit i.controls 18 then not (nat_eq (scalar k i.o0) 0) else nat_eq (scalar k i.o0) 0

-- the loop anew that is the innermost around q; out of the innermost loop or switch
abbrev pub goes_round : Profile → Context → ℕ → Turn State
goes_round profile k q = goes_behind k.registers (around profile is_loop k.program.instructions q)

abbrev pub goes_out : Profile → Context → ℕ → Turn State
goes_out profile k q = goes_behind k.registers (close_around profile is_loop_or_switch k.program.instructions q)

-- where an instruction goes when its plan is made
abbrev pub onward : Profile → Context → ℕ → Meaning → Instruction → List ℕ → Turn State
onward profile k q If i answers =
    if holds k i then goes_to k.registers (q + 1) else goes_behind k.registers (else_of profile k.program.instructions q)
onward profile k q Else i answers = goes_behind k.registers (close_around profile is_if k.program.instructions q)
onward profile k q EndLoop i answers = goes_round profile k q
onward profile k q Continue i answers = goes_round profile k q
onward profile k q ContinueIf i answers = if holds k i then goes_round profile k q else goes_to k.registers (q + 1)
onward profile k q Break i answers = goes_out profile k q
onward profile k q BreakIf i answers = if holds k i then goes_out profile k q else goes_to k.registers (q + 1)
onward profile k q Switch i answers = goes_behind k.registers (case_of profile k.program.instructions q (scalar k i.o0))
onward profile k q Return i answers = Ends
onward profile k q ReturnIf i answers = if holds k i then Ends else goes_to k.registers (q + 1)
onward profile k q other i answers = goes_to (left_by k other i answers) (q + 1)

-- the next event of a plan, or the way on behind it
abbrev pub turn_of : State → Option Event → Turn State → Turn State
turn_of s None way = way
turn_of s (Some e) way = Asks e (λ a. record { place = s.place; registers = s.registers; answers = s.answers ++ a ∷ [] })

-- At an instruction that means nothing the lane ends, as behind the list.
abbrev pub turn_by : Profile → Context → State → Option Meaning → Instruction → Turn State
turn_by profile k s None i = Ends
turn_by profile k s (Some meaning) i =
    turn_of s (slice_get (made (parts k meaning i)) (length s.answers)) (onward profile k s.place meaning i s.answers)

abbrev pub turn_at : Profile → Shader → Setting → State → Option Instruction → Turn State
turn_at profile p setting s None = Ends
turn_at profile p setting s (Some i) = turn_by profile (context p setting s.registers) s (meaning_of profile i.code) i

-- One step of a lane. Where events of the plan are left it asks the next one; elsewhere it is silent, or the end.
abbrev pub step : Profile → Shader → Setting → State → Turn State
step profile p setting s = turn_at profile p setting s (slice_get p.instructions s.place)
