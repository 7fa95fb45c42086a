-- The constructs around a place, and what a walk over the instructions keeps of them.
use Rattle.std.specs.Prelude.{◌≡◌, ℕ, zero, suc, ◌-◌, nat_eq, nat_lt, not, ◌&&◌, ◌||◌, if◌then◌else◌, Bool, true, false}
use Rattle.std.specs.Prelude.{List, [], ◌∷◌, ◌++◌, length, take, get_or, slice_get}
use Rattle.std.specs.Prelude.{Option, Some, None, is_some, option_and_then}
use Rattle.word_base.specs.declared.rule.Rule.{Rule}
use Rattle.word_base.specs.declared.rule.Rule.TheVariants.{S1, S3, S4, S5, S6, S7, S8, S9, M3}
use Rattle.tpf_decode.specs.Profiles.{Base}
use Rattle.tpf_decode.specs.Opcodes.{meaning_of}
use Rattle.tpf_decode.specs.declared.meaning.Meaning.{Meaning}
use Rattle.tpf_decode.specs.declared.meaning.Meaning.TheVariants as meaning
use Rattle.tpf_program.specs.declared.instruction.Instruction.{Instruction}
use Rattle.tpf_program.specs.Ends.{Part, Opens, Closes, Within, part_of, has, means, is_around, is_opening}
use Rattle.tpf_program.specs.Ends.{is_loop, is_loop_or_switch, is_else, is_default}
use Rattle.tpf_program.specs.Nesting.{has_before, is_label, is_end_of_switch, walk_from}
use Rattle.shader_check.specs.declared.constructs.Sort.{Sort}
use Rattle.shader_check.specs.declared.constructs.Sort.TheVariants as sort
use Rattle.shader_check.specs.declared.constructs.Construct.{Construct}
use Rattle.shader_check.specs.declared.constructs.Nesting.{Nesting}

-- the numbers below one that the test takes, the greatest first
abbrev pub all_below : (ℕ → Bool) → ℕ → List ℕ
all_below test zero = []
all_below test (suc n) = if test n then n ∷ all_below test n else all_below test n

-- the openings of the constructs around a place, the innermost first
abbrev pub openings : List Instruction → ℕ → List ℕ
openings code q = all_below (is_around Base true is_opening code q) q

-- without the innermost
abbrev pub without_first : List ℕ → List ℕ
without_first [] = []
without_first (n ∷ rest) = rest

abbrev pub first_number : List ℕ → Option ℕ
first_number [] = None
first_number (n ∷ rest) = Some n

-- the outermost
abbrev pub last_number : List ℕ → Option ℕ
last_number [] = None
last_number (n ∷ []) = Some n
last_number (n ∷ m ∷ rest) = last_number (m ∷ rest)

-- the innermost opening whose meaning the test takes
abbrev pub first_of : (Meaning → Bool) → List Instruction → List ℕ → Option ℕ
first_of sort code [] = None
first_of sort code (n ∷ rest) = if has (means Base sort) (slice_get code n) then Some n else first_of sort code rest

-- what an instruction does to the constructs around the next: it opens one more, closes the innermost, or neither
abbrev pub part_of_any : Option Meaning → Part
part_of_any None = Within
part_of_any (Some meaning) = part_of meaning

abbrev pub passed : Part → ℕ → List ℕ → List ℕ
passed Opens q around = q ∷ around
passed Closes q around = without_first around
passed Within q around = around

-- WHAT IS KEPT of the innermost of these constructs, at a place: its sort and opening, whether one of them is a loop,
-- or a loop or switch, and whether an else, a case or default, and a default stand before the place, directly in it
abbrev pub sort_of : Meaning → Sort
sort_of meaning.If = sort.If
sort_of meaning.Loop = sort.Loop
sort_of meaning.Switch = sort.Switch
sort_of other = sort.Outside

abbrev pub sort_of_any : Option Meaning → Sort
sort_of_any None = sort.Outside
sort_of_any (Some meaning) = sort_of meaning

abbrev pub meaning_at : List Instruction → ℕ → Option Meaning
meaning_at code n = option_and_then (λ i. meaning_of Base i.code) (slice_get code n)

abbrev pub construct : List Instruction → ℕ → List ℕ → Construct
construct code q around = record {
  sort = sort_of_any (option_and_then (meaning_at code) (first_number around));
  opening = first_number around;
  loops = is_some (first_of is_loop code around);
  leaves = is_some (first_of is_loop_or_switch code around);
  has_else = has_before Base (means Base is_else) code (first_number around) q;
  has_label = has_before Base (means Base is_label) code (first_number around) q;
  has_default = has_before Base (means Base is_default) code (first_number around) q;
}

-- the same of the constructs around that one, the outermost first; in front of them what is kept outside of all
abbrev pub outer : List Instruction → ℕ → List ℕ → List Construct
outer code q [] = []
outer code q (n ∷ rest) = outer code q rest ++ construct code q rest ∷ []

pub record IsKept (code : List Instruction) (q : ℕ) (nesting : Nesting) : Type 0 where
  pub around : nesting.around ≡ construct code q (openings code q)
  pub outer : nesting.outer.items ≡ outer code q (openings code q)

-- what is kept outside of all constructs
abbrev pub outside : Construct
outside = record {
  sort = sort.Outside;
  opening = None;
  loops = false;
  leaves = false;
  has_else = false;
  has_label = false;
  has_default = false;
}

-- ONE INSTRUCTION further: a construct that opens in that one, and what an instruction in between adds to it
abbrev pub opened : Construct → Meaning → ℕ → Construct
opened c meaning q = record outside {
  sort = sort_of meaning;
  opening = Some q;
  loops = c.loops || is_loop meaning;
  leaves = c.leaves || is_loop_or_switch meaning;
}

abbrev pub marked : Construct → Meaning → Construct
marked c meaning = record c {
  has_else = c.has_else || is_else meaning;
  has_label = c.has_label || is_label meaning;
  has_default = c.has_default || is_default meaning;
}

abbrev pub around_next : Part → Construct → List Construct → Meaning → ℕ → Construct
around_next Opens c outer meaning q = opened c meaning q
around_next Closes c outer meaning q = get_or outer (length outer - 1) c
around_next Within c outer meaning q = marked c meaning

abbrev pub outer_next : Part → Construct → List Construct → List Construct
outer_next Opens c outer = outer ++ c ∷ []
outer_next Closes c outer = take (length outer - 1) outer
outer_next Within c outer = outer

-- the opening of the outermost construct
abbrev pub outermost_of : Construct → List Construct → Option ℕ
outermost_of c outer = if nat_lt (length outer) 2 then c.opening else (get_or outer 1 outside).opening

-- THE FIRST RULE that an instruction breaks in such a construct, in so many, where it is told whether it is a case
-- again
abbrev pub is_if_sort : Sort → Bool
is_if_sort sort.If = true
is_if_sort other = false

abbrev pub is_loop_sort : Sort → Bool
is_loop_sort sort.Loop = true
is_loop_sort other = false

abbrev pub is_switch_sort : Sort → Bool
is_switch_sort sort.Switch = true
is_switch_sort other = false

abbrev pub ends_wrong : Sort → Meaning → Bool
ends_wrong s meaning.EndIf = not (is_if_sort s)
ends_wrong s meaning.EndLoop = not (is_loop_sort s)
ends_wrong s meaning.EndSwitch = not (is_switch_sort s)
ends_wrong s other = false

abbrev pub else_wrong : Construct → Meaning → Bool
else_wrong c meaning.Else = not (is_if_sort c.sort) || c.has_else
else_wrong c other = false

abbrev pub leaps_wrong : Construct → Meaning → Bool
leaps_wrong c meaning.Break = not c.leaves
leaps_wrong c meaning.BreakIf = not c.leaves
leaps_wrong c meaning.Continue = not c.loops
leaps_wrong c meaning.ContinueIf = not c.loops
leaps_wrong c other = false

abbrev pub rule_within : Construct → ℕ → Bool → Meaning → Option Rule
rule_within c depth again meaning =
    if ends_wrong c.sort meaning then Some S1 else
    if else_wrong c meaning then Some S3 else
    if leaps_wrong c meaning then Some S4 else
    if is_label meaning && not (is_switch_sort c.sort) then Some S5 else
    if is_default meaning && c.has_default then Some S6 else
    if again then Some S7 else
    if is_switch_sort c.sort && not (is_label meaning || is_end_of_switch meaning) && not c.has_label then Some S8 else
    if is_opening meaning && nat_eq depth 64 then Some M3 else
    None

-- the second of two numbers is greater
abbrev pub is_behind : Option ℕ → Option ℕ → Bool
is_behind (Some n) (Some m) = nat_lt n m
is_behind a b = false

-- an opening that is one too many breaks another rule first where it is the last instruction
abbrev pub at_end : Bool → Rule → Rule
at_end true M3 = S9
at_end last rule = rule

-- the first rule that an instruction breaks there, behind the case before it, and the constructs around the next one
abbrev pub rule_visited : Nesting → Option ℕ → Option Meaning → Option Rule
rule_visited nesting previous None = None
rule_visited nesting previous (Some meaning) =
    rule_within nesting.around (length nesting.outer.items) (is_behind nesting.around.opening previous) meaning

abbrev pub GoesOn : Nesting → Option Meaning → ℕ → Nesting → Type 0
GoesOn old None q new = (new.around ≡ old.around) × (new.outer.items ≡ old.outer.items)
GoesOn old (Some meaning) q new =
    (new.around ≡ around_next (part_of meaning) old.around old.outer.items meaning q)
    × (new.outer.items ≡ outer_next (part_of meaning) old.around old.outer.items)

-- no instruction breaks a rule, and the outermost construct that is left open is that one
pub record IsPassed (code : List Instruction) (outermost : Option ℕ) : Type 0 where
  pub walked : walk_from Base code 0 code ≡ []
  pub left : outermost ≡ last_number (openings code (length code))
