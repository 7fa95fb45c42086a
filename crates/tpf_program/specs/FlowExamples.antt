-- A lane of a program with a loop, a switch in it, and every way out of both.
use Rattle.std.specs.Prelude.{◌≡◌, ℕ, false, List, [], ◌∷◌, Some, refl}
use Rattle.word_base.specs.declared.event.Event.TheVariants.{Store}
use Rattle.word_base.specs.declared.event.Ids.{Ids}
use Rattle.word_base.specs.declared.event.Room.TheVariants.{Uav}
use Rattle.tpf_program.specs.declared.declaration.Declaration.TheVariants as declaration
use Rattle.tpf_program.specs.declared.declaration.ViewKind.TheVariants.{Raw}
use Rattle.tpf_program.specs.declared.instruction.Instruction.{Instruction}
use Rattle.tpf_decode.specs.declared.argument.Kind.TheVariants as kind
use Rattle.tpf_decode.specs.declared.argument.Select.TheVariants.{Mask}
use Rattle.tpf_program.specs.Program.{Shader}
use Rattle.tpf_program.specs.Spelling.{nothing}
use Rattle.tpf_decode.specs.Profiles.{Base}
use Rattle.tpf_decode.specs.Opcodes.{meaning_of, opcode_table}
use Rattle.tpf_program.specs.Ends.{close, case_of, around, close_around, is_loop, is_loop_or_switch}
use Rattle.tpf_program.specs.Bytecode.{step, start}
use Rattle.tpf_program.specs.ExampleParts.{slot_of, literal, r0, r0_to, instruction, bare, program_of, setting_of, events_in}

-- an instruction on two operands, on three, and one that tests that a component is not 0
abbrev pub on_two : ℕ → ℕ → ℕ → ℕ → Instruction
on_two code mask component n = instruction code 0 (r0_to mask) (r0 component) (literal n) nothing

abbrev pub where_not_zero : ℕ → ℕ → Instruction
where_not_zero code component = instruction code 0x40000 (r0 component) nothing nothing nothing

abbrev pub case_at : ℕ → Instruction
case_at n = instruction 6 0 (literal n) nothing nothing nothing

abbrev pub turns : List Instruction
turns =
    instruction 54 0 (r0_to 3) (literal 0) nothing nothing ∷  -- mov r0.xy, l(0, 0, 0, 0)
    bare 48 ∷  -- loop
    on_two 80 4 0 6 ∷  -- uge r0.z, r0.x, l(6)
    where_not_zero 3 2 ∷  -- breakc_nz r0.z
    on_two 30 1 0 1 ∷  -- iadd r0.x, r0.x, l(1)
    on_two 32 4 0 2 ∷  -- ieq r0.z, r0.x, l(2)
    where_not_zero 8 2 ∷  -- continuec_nz r0.z
    instruction 76 0 (r0 0) nothing nothing nothing ∷  -- switch r0.x
    case_at 1 ∷  -- case l(1)
    on_two 30 2 1 1 ∷  -- iadd r0.y, r0.y, l(1)
    bare 10 ∷  -- default
    on_two 30 2 1 10 ∷  -- iadd r0.y, r0.y, l(10)
    bare 2 ∷  -- break
    case_at 3 ∷  -- case l(3)
    on_two 30 2 1 100 ∷  -- iadd r0.y, r0.y, l(100)
    case_at 4 ∷  -- case l(4)
    on_two 30 2 1 1000 ∷  -- iadd r0.y, r0.y, l(1000)
    bare 2 ∷  -- break
    bare 23 ∷  -- endswitch
    instruction 166 0 (slot_of kind.Uav 0 (Mask 1)) (literal 0) (r0 1) nothing ∷  -- store_raw u0.x, l(0), r0.y
    on_two 32 4 0 5 ∷  -- ieq r0.z, r0.x, l(5)
    where_not_zero 63 2 ∷  -- retc_nz r0.z
    bare 22 ∷  -- endloop
    bare 62 ∷ []  -- ret

abbrev pub turning : Shader
turning = program_of (declaration.Uav 0 Raw false false ∷ declaration.Temps 1 ∷ declaration.Group 1 1 1 ∷ []) turns

-- The loop closes at 22 and the switch at 18; its value 4 leads to 15, and 7 to the default at 10.
pub loop_closes : close Base turns 1 ≡ Some 22
unfolding meaning_of opcode_table
loop_closes = refl

pub switch_closes : close Base turns 7 ≡ Some 18
unfolding meaning_of opcode_table
switch_closes = refl

pub case_four : case_of Base turns 7 4 ≡ Some 15
unfolding meaning_of opcode_table
case_four = refl

pub case_seven : case_of Base turns 7 7 ≡ Some 10
unfolding meaning_of opcode_table
case_seven = refl

-- A break at 12 leaves the switch, a break at 3 the loop; a continue at 6 and the end at 22 begin the loop at 1 anew.
pub break_of_switch : close_around Base is_loop_or_switch turns 12 ≡ Some 18
unfolding meaning_of opcode_table
break_of_switch = refl

pub break_of_loop : close_around Base is_loop_or_switch turns 3 ≡ Some 22
unfolding meaning_of opcode_table
break_of_loop = refl

pub continue_of_loop : around Base is_loop turns 6 ≡ Some 1
unfolding meaning_of opcode_table
continue_of_loop = refl

pub end_of_loop : around Base is_loop turns 22 ≡ Some 1
unfolding meaning_of opcode_table
end_of_loop = refl

-- Its first two events: 11 in the first turn, through the case 1 and the default; none in the second; 1111 in the third.
pub first_events : (ids : Ids) → events_in 43 (step Base turning (setting_of ids (λ room. 1))) start ≡ Store (Uav 0) 0 11 ∷ Store (Uav 0) 0 1111 ∷ []
unfolding meaning_of opcode_table
first_events ids = refl

-- Its whole run: 2111 in the fourth turn, by the case 4 alone, and 2121 in the fifth, by the default, behind which it returns.
pub all_events : (ids : Ids) →
    events_in 90 (step Base turning (setting_of ids (λ room. 1))) start
    ≡ Store (Uav 0) 0 11 ∷ Store (Uav 0) 0 1111 ∷ Store (Uav 0) 0 2111 ∷ Store (Uav 0) 0 2121 ∷ []
unfolding meaning_of opcode_table
all_events ids = refl
