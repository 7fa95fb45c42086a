-- A statement in its surroundings, and where an instruction in it leads. (Shader Model 5 assembly: if, else, endif,
-- loop, endloop, switch, case, default, endswitch, break, continue.)
use Rattle.std.specs.Prelude.{◌≡◌, ℕ, ◌+◌, if◌then◌else◌, Bool, List, [], ◌∷◌, ◌++◌, length, Option, Some, None, refl}
use Rattle.tpf_decode.specs.Profiles.{Base}
use Rattle.tpf_decode.specs.Opcodes.{meaning_of, opcode_table}
use Rattle.tpf_program.specs.declared.instruction.Instruction.{Instruction}
use Rattle.tpf_program.specs.Ends.{around, close_around, else_of, means, is_loop, is_loop_or_switch, is_if, is_default, is_case_of, or_else}
use Rattle.tpf_program.specs.ExampleParts.{bare}
use Rattle.shader_check.specs.Statements.{Statement, Then, Plain, If, IfElse, Loop, Switch, Label, flattened, Where, outside_all, in_if, in_loop, in_switch, IsSound}

-- WHAT IS DIRECTLY AROUND a statement: another one behind it or in front of it, or a construct
pub data Frame : Type 0 where
  Before : (next : Statement) → Frame
  Behind : (first : Statement) → Frame
  InIf : (opening end : Instruction) → Frame
  -- the first of the two bodies of an if with an else, and the second
  InThen : (opening middle : Instruction) (other : Statement) (end : Instruction) → Frame
  InElse : (opening : Instruction) (body : Statement) (middle end : Instruction) → Frame
  InLoop : (opening end : Instruction) → Frame
  InSwitch : (opening end : Instruction) → Frame

abbrev pub fill : Frame → Statement → Statement
fill (Before next) s = Then s next
fill (Behind first) s = Then first s
fill (InIf opening end) s = If opening s end
fill (InThen opening middle other end) s = IfElse opening s middle other end
fill (InElse opening body middle end) s = IfElse opening body middle s end
fill (InLoop opening end) s = Loop opening s end
fill (InSwitch opening end) s = Switch opening s end

-- the whole, of the frames around a statement, the innermost first
abbrev pub filled : List Frame → Statement → Statement
filled [] s = s
filled (f ∷ frames) s = filled frames (fill f s)

-- the instructions of a frame in front of what it holds, and behind that
abbrev pub before : Frame → List Instruction
before (Before next) = []
before (Behind first) = flattened first
before (InIf opening end) = opening ∷ []
before (InThen opening middle other end) = opening ∷ []
before (InElse opening body middle end) = opening ∷ (flattened body ++ middle ∷ [])
before (InLoop opening end) = opening ∷ []
before (InSwitch opening end) = opening ∷ []

abbrev pub after : Frame → List Instruction
after (Before next) = flattened next
after (Behind first) = []
after (InIf opening end) = end ∷ []
after (InThen opening middle other end) = middle ∷ (flattened other ++ end ∷ [])
after (InElse opening body middle end) = end ∷ []
after (InLoop opening end) = end ∷ []
after (InSwitch opening end) = end ∷ []

-- all of them, in their order
abbrev pub in_front : List Frame → List Instruction
in_front [] = []
in_front (f ∷ frames) = in_front frames ++ before f

abbrev pub behind : List Frame → List Instruction
behind [] = []
behind (f ∷ frames) = after f ++ behind frames

-- the place of the first instruction in the frames, and how many a statement has
abbrev pub place_in : List Frame → ℕ
place_in frames = length (in_front frames)

abbrev pub size : Statement → ℕ
size s = length (flattened s)

-- the opening of a construct, and the instructions between that and its end
abbrev pub opening_of : Statement → Option Instruction
opening_of (If opening body end) = Some opening
opening_of (IfElse opening body middle other end) = Some opening
opening_of (Loop opening body end) = Some opening
opening_of (Switch opening body end) = Some opening
opening_of other = None

abbrev pub inside : Statement → List Instruction
inside (If opening body end) = flattened body
inside (IfElse opening body middle other end) = flattened body ++ (middle ∷ flattened other)
inside (Loop opening body end) = flattened body
inside (Switch opening body end) = flattened body
inside other = []

-- where a statement in the frames stands
abbrev pub where_within : Frame → Where → Where
where_within (Before next) w = w
where_within (Behind first) w = w
where_within (InIf opening end) w = in_if w
where_within (InThen opening middle other end) w = in_if w
where_within (InElse opening body middle end) w = in_if w
where_within (InLoop opening end) w = in_loop w
where_within (InSwitch opening end) w = in_switch w

abbrev pub where_in : List Frame → Where
where_in [] = outside_all
where_in (f ∷ frames) = where_within f (where_in frames)

-- THE LOOP AROUND: the place of the opening of the innermost
abbrev pub loop_around : List Frame → Option ℕ
loop_around [] = None
loop_around (InLoop opening end ∷ frames) = Some (place_in frames)
loop_around (f ∷ frames) = loop_around frames

-- WHERE A BREAK LEAVES: the place of the end of the innermost loop or switch around that statement
abbrev pub leave_around : List Frame → Statement → Option ℕ
leave_around [] s = None
leave_around (InLoop opening end ∷ frames) s = Some (place_in frames + 1 + size s)
leave_around (InSwitch opening end ∷ frames) s = Some (place_in frames + 1 + size s)
leave_around (f ∷ frames) s = leave_around frames (fill f s)

-- A LABEL that the test takes, the first directly in a statement that begins at a place
abbrev pub first_label : (Instruction → Bool) → ℕ → Statement → Option ℕ
first_label test at (Then first next) = or_else (first_label test at first) (first_label test (at + size first) next)
first_label test at (Label i) = if test i then Some at else None
first_label test at other = None

-- where a switch goes whose body begins at a place: its case with that value, else its default, else its end
abbrev pub place_of_label : ℕ → ℕ → Statement → Option ℕ
place_of_label w at body =
    or_else (first_label (is_case_of Base w) at body)
    (or_else (first_label (means Base is_default) at body) (Some (at + size body)))

-- A SPOT IN A LIST OF INSTRUCTIONS: the list begins with those of a sound statement, which is made of the frames and
-- what they hold.
pub record IsSpot (code : List Instruction) (frames : List Frame) (s : Statement) : Type 0 where
  pub rest : List Instruction
  pub flat : code ≡ flattened (filled frames s) ++ rest
  pub sound : IsSound outside_all (filled frames s)

-- Examples: a loop with an if and an else in it, of which the first has a break. The break is at 2; it leaves at 6, and
-- the loop opens at 0.
abbrev pub the_frames : List Frame
the_frames = InThen (bare 31) (bare 18) (Plain (bare 7)) (bare 21) ∷ InLoop (bare 48) (bare 22) ∷ []

abbrev pub the_code : List Instruction
the_code = flattened (filled the_frames (Plain (bare 2))) ++ bare 62 ∷ []

pub code_read : the_code ≡ bare 48 ∷ bare 31 ∷ bare 2 ∷ bare 18 ∷ bare 7 ∷ bare 21 ∷ bare 22 ∷ bare 62 ∷ []
code_read = refl

pub break_at : place_in the_frames ≡ 2
break_at = refl

pub leaves_at : leave_around the_frames (Plain (bare 2)) ≡ Some 6
leaves_at = refl

pub leaves_alike : close_around Base is_loop_or_switch the_code 2 ≡ Some 6
unfolding meaning_of opcode_table
leaves_alike = refl

pub turns_at : loop_around the_frames ≡ Some 0
turns_at = refl

pub turns_alike : around Base is_loop the_code 2 ≡ Some 0
unfolding meaning_of opcode_table
turns_alike = refl

pub else_alike : else_of Base the_code 1 ≡ Some 3
unfolding meaning_of opcode_table
else_alike = refl

pub ends_alike : close_around Base is_if the_code 3 ≡ Some 5
unfolding meaning_of opcode_table
ends_alike = refl

-- The labels of a switch: a default in front of two cases. (`default`, `mov`, `case 0`, `break`, `case 0` of a deeper
-- switch.)
abbrev pub a_body : Statement
a_body =
    Then (Label (bare 10))
    (Then (Plain (bare 54)) (Then (Switch (bare 76) (Label (bare 6)) (bare 23)) (Label (bare 6))))

pub label_found : place_of_label 0 1 a_body ≡ Some 6
unfolding meaning_of opcode_table
label_found = refl

pub default_found : place_of_label 5 1 a_body ≡ Some 1
unfolding meaning_of opcode_table
default_found = refl

pub none_found : place_of_label 5 1 (Label (bare 6)) ≡ Some 2
unfolding meaning_of opcode_table
none_found = refl
