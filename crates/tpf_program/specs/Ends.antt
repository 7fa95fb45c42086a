-- Which ends match, by counting on the flat list, and what is around a place. (Shader Model 5 assembly: if, loop and switch with their
-- ends, else, case, default.)
use Rattle.std.specs.Prelude.{ℕ, zero, suc, ◌+◌, ◌-◌, nat_eq, nat_le, if◌then◌else◌, Bool, true, false, ◌&&◌, List, length, slice_range, sum_by, Option, Some, None, slice_get, option_and_then}
use Rattle.tpf_decode.specs.Profiles.{Profile}
use Rattle.tpf_decode.specs.Opcodes.{meaning_of}
use Rattle.tpf_decode.specs.declared.meaning.Meaning.{Meaning}
use Rattle.tpf_decode.specs.declared.meaning.Meaning.TheVariants.{If, Else, EndIf, Loop, EndLoop, Switch, Case, Default, EndSwitch}
use Rattle.tpf_program.specs.declared.instruction.Instruction.{Instruction}

-- an instruction opens a construct, closes one, or neither
pub data Part : Type 0 where
  Opens : Part
  Closes : Part
  Within : Part

abbrev pub part_of : Meaning → Part
part_of If = Opens
part_of Loop = Opens
part_of Switch = Opens
part_of EndIf = Closes
part_of EndLoop = Closes
part_of EndSwitch = Closes
part_of other = Within

abbrev pub opens : Part → Bool
opens Opens = true
opens other = false

abbrev pub closes : Part → Bool
closes Closes = true
closes other = false

abbrev pub is_opening : Meaning → Bool
is_opening meaning = opens (part_of meaning)

abbrev pub is_closing : Meaning → Bool
is_closing meaning = closes (part_of meaning)

abbrev pub is_if : Meaning → Bool
is_if If = true
is_if other = false

abbrev pub is_loop : Meaning → Bool
is_loop Loop = true
is_loop other = false

abbrev pub is_switch : Meaning → Bool
is_switch Switch = true
is_switch other = false

abbrev pub is_loop_or_switch : Meaning → Bool
is_loop_or_switch Loop = true
is_loop_or_switch Switch = true
is_loop_or_switch other = false

abbrev pub is_else : Meaning → Bool
is_else Else = true
is_else other = false

abbrev pub is_case : ℕ → ℕ → Meaning → Bool
is_case w literal Case = nat_eq literal w
is_case w literal other = false

abbrev pub is_default : Meaning → Bool
is_default Default = true
is_default other = false

-- something is there, and the test takes it
abbrev pub has : {X : Type 0} → (X → Bool) → Option X → Bool
has test None = false
has test (Some x) = test x

-- an instruction of a meaning that the test takes, and one that is a case of a value
abbrev pub means : Profile → (Meaning → Bool) → Instruction → Bool
means profile sort i = has sort (meaning_of profile i.code)

abbrev pub is_case_of : Profile → ℕ → Instruction → Bool
is_case_of profile w i = means profile (is_case w i.o0.x) i

-- of the numbers that the test takes: the least of so many from one on, the greatest below one, and how many there are below one
abbrev pub least : (ℕ → Bool) → ℕ → ℕ → Option ℕ
least test at zero = None
least test at (suc n) = if test at then Some at else least test (at + 1) n

abbrev pub last_below : (ℕ → Bool) → ℕ → Option ℕ
last_below test zero = None
last_below test (suc n) = if test n then Some n else last_below test n

abbrev pub count_below : (ℕ → Bool) → ℕ → ℕ
count_below test zero = 0
count_below test (suc n) = (if test n then 1 else 0) + count_below test n

-- the least of the places of instructions behind q
abbrev pub least_behind : (ℕ → Bool) → List Instruction → ℕ → Option ℕ
least_behind test code q = least test (q + 1) (length code - (q + 1))

-- how many of some instructions have a meaning that the test takes
abbrev pub count : Profile → (Meaning → Bool) → List Instruction → ℕ
count profile sort code = sum_by (λ i. if means profile sort i then 1 else 0) code

-- from q up to c there are as many closings as openings
abbrev pub is_even : Profile → List Instruction → ℕ → ℕ → Bool
is_even profile code q c =
    nat_eq (count profile is_closing (slice_range code q (c + 1))) (count profile is_opening (slice_range code q (c + 1)))

-- The close of an opening: the least later place up to which, from the opening on, there are as many closings as openings.
abbrev pub close : Profile → List Instruction → ℕ → Option ℕ
close profile code q =
    if has (means profile is_opening) (slice_get code q) then least_behind (is_even profile code q) code q else None

-- A construct reaches to a place where its close does not stand before it; an end stands in what it closes. One that is never closed
-- reaches to each place behind its opening for the rules on structure, and to none for a lane.
abbrev pub reaches : Bool → ℕ → Option ℕ → Bool
reaches unclosed q None = unclosed
reaches unclosed q (Some c) = nat_le q c

-- the instruction n opens a construct of that sort, and q stands in it
abbrev pub is_around : Profile → Bool → (Meaning → Bool) → List Instruction → ℕ → ℕ → Bool
is_around profile unclosed sort code q n =
    has (means profile sort) (slice_get code n) && reaches unclosed q (close profile code n)

-- the innermost construct of a sort in which q stands: the last of them that opens before it
abbrev pub innermost : Profile → Bool → (Meaning → Bool) → List Instruction → ℕ → Option ℕ
innermost profile unclosed sort code q = last_below (is_around profile unclosed sort code q) q

-- the construct of a sort that a lane is in at q, and its close
abbrev pub around : Profile → (Meaning → Bool) → List Instruction → ℕ → Option ℕ
around profile sort code q = innermost profile false sort code q

abbrev pub close_around : Profile → (Meaning → Bool) → List Instruction → ℕ → Option ℕ
close_around profile sort code q = option_and_then (close profile code) (around profile sort code q)

-- one construct, and not none
abbrev pub is_same : Option ℕ → Option ℕ → Bool
is_same (Some m) (Some n) = nat_eq m n
is_same a b = false

-- at n stands an instruction that the test takes, directly in that construct
abbrev pub is_direct : Profile → Bool → (Instruction → Bool) → List Instruction → Option ℕ → ℕ → Bool
is_direct profile unclosed test code inner n =
    has test (slice_get code n) && is_same (innermost profile unclosed is_opening code n) inner

-- the first place directly in the construct that opens at q
abbrev pub direct : Profile → (Instruction → Bool) → List Instruction → ℕ → Option ℕ
direct profile test code q = least_behind (is_direct profile false test code (Some q)) code q

abbrev pub or_else : Option ℕ → Option ℕ → Option ℕ
or_else None other = other
or_else (Some place) other = Some place

-- where an `if` goes whose test is false: its else, or its close
abbrev pub else_of : Profile → List Instruction → ℕ → Option ℕ
else_of profile code q = or_else (direct profile (means profile is_else) code q) (close profile code q)

-- where a switch goes: its case with that value, else its default, else its close
abbrev pub case_of : Profile → List Instruction → ℕ → ℕ → Option ℕ
case_of profile code q w =
    or_else (direct profile (is_case_of profile w) code q)
    (or_else (direct profile (means profile is_default) code q) (close profile code q))
