-- The rules on the structure of a program: what opens is closed, and else, case, default, break and continue stand where they belong.
-- A construct that is never closed reaches to the end of the program. (Shader Model 5 assembly: if, loop, switch, case, default, break,
-- continue, ret.)
use Rattle.std.specs.Prelude.{ℕ, ◌+◌, nat_eq, not, ◌&&◌, ◌||◌, Bool, true, false, List, [], ◌∷◌, ◌++◌, Option, Some, None, is_some, is_none, slice_get}
use Rattle.word_base.specs.declared.rule.Refusal.{Refusal}
use Rattle.word_base.specs.declared.rule.Rule.TheVariants.{S1, S2, S3, S4, S5, S6, S7, S8, S9, M3}
use Rattle.word_base.specs.Rules.{broken, refusal}
use Rattle.tpf_decode.specs.Profiles.{Profile}
use Rattle.tpf_decode.specs.Opcodes.{meaning_of}
use Rattle.tpf_decode.specs.declared.meaning.Meaning.{Meaning}
use Rattle.tpf_decode.specs.declared.meaning.Meaning.TheVariants.{Else, EndIf, EndLoop, Continue, ContinueIf, Case, Default, EndSwitch, Break, BreakIf, Return}
use Rattle.tpf_program.specs.declared.instruction.Instruction.{Instruction}
use Rattle.tpf_program.specs.Ends.{has, means, last_below, count_below, close, is_around, innermost, is_direct, is_opening, is_if, is_loop, is_switch, is_loop_or_switch, is_else, is_case_of, is_default}
use Rattle.tpf_program.specs.Program.{Shader}

abbrev pub is_return : Meaning → Bool
is_return Return = true
is_return other = false

-- the innermost construct around a place
abbrev pub inner : Profile → List Instruction → ℕ → Option ℕ
inner profile code q = innermost profile true is_opening code q

-- a place stands in a construct of that sort, and in so many
abbrev pub is_in : Profile → (Meaning → Bool) → List Instruction → ℕ → Bool
is_in profile sort code q = is_some (innermost profile true sort code q)

abbrev pub depth : Profile → List Instruction → ℕ → ℕ
depth profile code q = count_below (is_around profile true is_opening code q) q

-- what the innermost construct is
abbrev pub inner_is : Profile → (Meaning → Bool) → List Instruction → Option ℕ → Bool
inner_is profile sort code None = false
inner_is profile sort code (Some n) = has (means profile sort) (slice_get code n)

-- directly in that construct, before q, stands an instruction that the test takes
abbrev pub has_before : Profile → (Instruction → Bool) → List Instruction → Option ℕ → ℕ → Bool
has_before profile test code around q = is_some (last_below (is_direct profile true test code around) q)

-- An end that does not close the innermost construct.
abbrev pub is_wrong_end : Profile → List Instruction → Option ℕ → Meaning → Bool
is_wrong_end profile code around EndIf = not (inner_is profile is_if code around)
is_wrong_end profile code around EndLoop = not (inner_is profile is_loop code around)
is_wrong_end profile code around EndSwitch = not (inner_is profile is_switch code around)
is_wrong_end profile code around other = false

-- An else whose innermost construct is no if, or the second one of it.
abbrev pub is_wrong_else : Profile → List Instruction → ℕ → Option ℕ → Meaning → Bool
is_wrong_else profile code q around Else = not (inner_is profile is_if code around) || has_before profile (means profile is_else) code around q
is_wrong_else profile code q around other = false

-- A break outside of every loop and switch, a continue outside of every loop.
abbrev pub is_wrong_leap : Profile → List Instruction → ℕ → Meaning → Bool
is_wrong_leap profile code q Break = not (is_in profile is_loop_or_switch code q)
is_wrong_leap profile code q BreakIf = not (is_in profile is_loop_or_switch code q)
is_wrong_leap profile code q Continue = not (is_in profile is_loop code q)
is_wrong_leap profile code q ContinueIf = not (is_in profile is_loop code q)
is_wrong_leap profile code q other = false

abbrev pub is_label : Meaning → Bool
is_label Case = true
is_label Default = true
is_label other = false

abbrev pub is_end_of_switch : Meaning → Bool
is_end_of_switch EndSwitch = true
is_end_of_switch other = false

-- A case or default whose innermost construct is no switch; a second default; a case whose value its switch already has.
abbrev pub is_wrong_label : Profile → List Instruction → Option ℕ → Meaning → Bool
is_wrong_label profile code around meaning = is_label meaning && not (inner_is profile is_switch code around)

abbrev pub is_second_default : Profile → List Instruction → ℕ → Option ℕ → Meaning → Bool
is_second_default profile code q around meaning = is_default meaning && has_before profile (means profile is_default) code around q

abbrev pub is_second_case : Profile → List Instruction → ℕ → Option ℕ → Meaning → ℕ → Bool
is_second_case profile code q around Case w = has_before profile (is_case_of profile w) code around q
is_second_case profile code q around other w = false

-- An instruction directly in a switch before its first case or default, other than the end of it.
abbrev pub is_too_early : Profile → List Instruction → ℕ → Option ℕ → Meaning → Bool
is_too_early profile code q around meaning =
    inner_is profile is_switch code around && not (is_label meaning || is_end_of_switch meaning)
    && not (has_before profile (means profile is_label) code around q)

-- the rules that the instruction q breaks, with that meaning, where that is its innermost construct
abbrev pub walk_at : Profile → List Instruction → ℕ → Option ℕ → Meaning → Instruction → List Refusal
walk_at profile code q around meaning i =
    broken (is_wrong_end profile code around meaning) S1 i.place
    ++ broken (is_wrong_else profile code q around meaning) S3 i.place
    ++ broken (is_wrong_leap profile code q meaning) S4 i.place
    ++ broken (is_wrong_label profile code around meaning) S5 i.place
    ++ broken (is_second_default profile code q around meaning) S6 i.place
    ++ broken (is_second_case profile code q around meaning i.o0.x) S7 i.place
    ++ broken (is_too_early profile code q around meaning) S8 i.place
    ++ broken (is_opening meaning && nat_eq (depth profile code q) 64) M3 i.place

abbrev pub walk_by : Profile → List Instruction → ℕ → Option Meaning → Instruction → List Refusal
walk_by profile code q None i = []
walk_by profile code q (Some meaning) i = walk_at profile code q (inner profile code q) meaning i

abbrev pub walk_from : Profile → List Instruction → ℕ → List Instruction → List Refusal
walk_from profile code q [] = []
walk_from profile code q (i ∷ rest) = walk_by profile code q (meaning_of profile i.code) i ++ walk_from profile code (q + 1) rest

-- the openings that are never closed
abbrev pub open_from : Profile → List Instruction → ℕ → List Instruction → List Refusal
open_from profile code q [] = []
open_from profile code q (i ∷ rest) =
    broken (means profile is_opening i && is_none (close profile code q)) S2 i.place ++ open_from profile code (q + 1) rest

-- They count where no other rule of the walk is broken.
abbrev pub where_none : List Refusal → List Refusal → List Refusal
where_none [] refusals = refusals
where_none (r ∷ rest) refusals = []

-- The last instruction is `ret` outside of all constructs.
abbrev pub last_from : Profile → ℕ → List Instruction → ℕ → List Instruction → List Refusal
last_from profile words code q [] = refusal S9 words ∷ []
last_from profile words code q (i ∷ []) = broken (not (means profile is_return i && is_none (inner profile code q))) S9 i.place
last_from profile words code q (i ∷ j ∷ rest) = last_from profile words code (q + 1) (j ∷ rest)

-- the broken rules of the structure
abbrev pub nesting_refusals : Profile → Shader → List Refusal
nesting_refusals profile p =
    walk_from profile p.instructions 0 p.instructions
    ++ where_none (walk_from profile p.instructions 0 p.instructions) (open_from profile p.instructions 0 p.instructions)
    ++ last_from profile p.words p.instructions 0 p.instructions
