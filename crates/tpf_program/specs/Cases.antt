-- The case that stands last before another one of its value at its level, where the level of an instruction is told by counting
-- alone: a case that its switch already has is found by it. (Shader Model 5 assembly: case.)
use Rattle.std.specs.Prelude.{◌≡◌, ℕ, ◌-◌, nat_eq, ◌&&◌, if◌then◌else◌, Bool, true, false, List, [], ◌∷◌, take, Option, Some, None, slice_get, option_and_then, refl}
use Rattle.tpf_decode.specs.Profiles.{Profile, Base}
use Rattle.tpf_decode.specs.Opcodes.{meaning_of, opcode_table}
use Rattle.tpf_decode.specs.declared.meaning.Meaning.{Meaning}
use Rattle.tpf_decode.specs.declared.meaning.Meaning.TheVariants as meaning
use Rattle.tpf_program.specs.declared.instruction.Instruction.{Instruction}
use Rattle.tpf_program.specs.Ends.{has, means, count, last_below, is_opening, is_closing, is_case_of}
use Rattle.tpf_program.specs.ExampleParts.{bare, instruction, literal}
use Rattle.tpf_program.specs.Spelling.{nothing}

-- the openings less the closings in front of the instruction q, and 0 where there are more closings
abbrev pub level : Profile → List Instruction → ℕ → ℕ
level profile code q = count profile is_opening (take q code) - count profile is_closing (take q code)

-- the instruction n is a case of that value at that level
abbrev pub is_case_at : Profile → List Instruction → ℕ → ℕ → ℕ → Bool
is_case_at profile code w depth n = has (is_case_of profile w) (slice_get code n) && nat_eq (level profile code n) depth

-- the last of them among the first so many
abbrev pub last_case : Profile → List Instruction → ℕ → ℕ → ℕ → Option ℕ
last_case profile code w depth n = last_below (is_case_at profile code w depth) n

abbrev pub is_any_case : Meaning → Bool
is_any_case meaning.Case = true
is_any_case other = false

-- For a case at q the last one before it of its value at its level; nothing for another instruction.
abbrev pub case_before_at : Profile → List Instruction → ℕ → Instruction → Option ℕ
case_before_at profile code q i =
    if means profile is_any_case i then last_case profile code i.o0.x (level profile code q) q else None

abbrev pub previous_case : Profile → List Instruction → ℕ → Option ℕ
previous_case profile code q = option_and_then (case_before_at profile code q) (slice_get code q)

-- Example: a case of 7 in a switch, a switch in it with cases of 7 and 8, a case of 8 behind that, and one of 7 again.
abbrev pub case_of_word : ℕ → Instruction
case_of_word w = instruction 6 0 (literal w) nothing nothing nothing

abbrev pub two_switches : List Instruction
two_switches =
    bare 76 ∷ case_of_word 7
    ∷ bare 76 ∷ case_of_word 7 ∷ case_of_word 8 ∷ bare 23
    ∷ case_of_word 8 ∷ case_of_word 7 ∷ bare 23 ∷ []

pub case_again : previous_case Base two_switches 7 ≡ Some 1
unfolding meaning_of opcode_table
case_again = refl

pub case_of_another_level : previous_case Base two_switches 6 ≡ None
unfolding meaning_of opcode_table
case_of_another_level = refl

pub no_case : previous_case Base two_switches 8 ≡ None
unfolding meaning_of opcode_table
no_case = refl
