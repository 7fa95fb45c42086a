-- A lane that stands at statements in their frames. (Shader Model 5 assembly: the instructions and their order.)
use Rattle.std.specs.Option.{option_map}
use Rattle.std.specs.Prelude.{◌≡◌, ℕ, zero, suc, ◌+◌, ◌<◌, ◌≤◌, if◌then◌else◌, Bool, true, false, List, [], ◌∷◌, ◌++◌, length, Option, Some, None, slice_get, ⊤, refl}
use Rattle.word_base.specs.declared.event.Event.{Event}
use Rattle.word_base.specs.Lanes.{Turn, Silent, Asks, Ends, Wrong}
use Rattle.word_base.specs.Registers.{Registers}
use Rattle.word_base.specs.Settings.{Setting}
use Rattle.tpf_decode.specs.Profiles.{Base}
use Rattle.tpf_decode.specs.Opcodes.{meaning_of}
use Rattle.tpf_decode.specs.declared.meaning.Meaning.{Meaning}
use Rattle.tpf_decode.specs.declared.meaning.Meaning.TheVariants as meaning
use Rattle.tpf_program.specs.declared.instruction.Instruction.{Instruction}
use Rattle.tpf_program.specs.ExampleParts.{bare}
use Rattle.tpf_program.specs.Program.{Shader}
use Rattle.tpf_program.specs.Values.{Context, context, scalar}
use Rattle.tpf_program.specs.Plans.{parts, made}
use Rattle.tpf_program.specs.Ends.{means, is_default, is_case_of}
use Rattle.tpf_program.specs.Bytecode.{State, holds, left_by}
use Rattle.shader_check.specs.Statements.{Statement, Nothing, Then, Plain, If, IfElse, Loop, Switch, Label}
use Rattle.raise_program.specs.Spots.{the_frames, Frame, Before, Behind, InIf, InThen, InElse, InLoop, InSwitch, fill, filled, place_in, size}

-- A SPOT: in front of a statement in its frames, or behind it
pub data Spot : Type 0 where
  AtBegin : (frames : List Frame) (s : Statement) → Spot
  AtEnd : (frames : List Frame) (s : Statement) → Spot

-- the place in the list of instructions, and the whole statement
abbrev pub place_of : Spot → ℕ
place_of (AtBegin frames s) = place_in frames
place_of (AtEnd frames s) = place_in frames + size s

abbrev pub whole_of : Spot → Statement
whole_of (AtBegin frames s) = filled frames s
whole_of (AtEnd frames s) = filled frames s

-- The next spot at the same place, where no instruction stands between them.
abbrev pub moved : Spot → Option Spot
moved (AtBegin frames Nothing) = Some (AtEnd frames Nothing)
moved (AtBegin frames (Then first next)) = Some (AtBegin (Before next ∷ frames) first)
moved (AtEnd (Before next ∷ frames) s) = Some (AtBegin (Behind s ∷ frames) next)
moved (AtEnd (Behind first ∷ frames) s) = Some (AtEnd frames (Then first s))
moved spot = None

-- behind the innermost loop or switch; the body of the innermost loop anew
abbrev pub left_spot : List Frame → Statement → Option Spot
left_spot [] s = None
left_spot (InLoop opening end ∷ frames) s = Some (AtEnd frames (Loop opening s end))
left_spot (InSwitch opening end ∷ frames) s = Some (AtEnd frames (Switch opening s end))
left_spot (f ∷ frames) s = left_spot frames (fill f s)

abbrev pub renewed_spot : List Frame → Statement → Option Spot
renewed_spot [] s = None
renewed_spot (InLoop opening end ∷ frames) s = Some (AtBegin (InLoop opening end ∷ frames) s)
renewed_spot (f ∷ frames) s = renewed_spot frames (fill f s)

-- behind the first label that the test takes, directly in a statement
abbrev pub or_spot : Option Spot → Option Spot → Option Spot
or_spot None other = other
or_spot (Some spot) other = Some spot

abbrev pub label_spot : (Instruction → Bool) → List Frame → Statement → Option Spot
label_spot test frames (Then first next) =
    or_spot (label_spot test (Before next ∷ frames) first) (label_spot test (Behind first ∷ frames) next)
label_spot test frames (Label i) = if test i then Some (AtEnd frames (Label i)) else None
label_spot test frames other = None

-- where a switch goes: behind its case with that value, else behind its default, else behind its end
abbrev pub switched_spot : ℕ → List Frame → Instruction → Statement → Instruction → Option Spot
switched_spot w frames opening body end =
    or_spot (label_spot (is_case_of Base w) (InSwitch opening end ∷ frames) body)
    (or_spot (label_spot (means Base is_default) (InSwitch opening end ∷ frames) body)
    (Some (AtEnd frames (Switch opening body end))))

-- The spot, the registers, and the answers to the events already made of the plan there.
pub record SpotState : Type 0 where
  pub spot : Spot
  pub registers : Registers
  pub answers : List ℕ

-- silent, to a spot
abbrev pub to_spot : Registers → Spot → Turn SpotState
to_spot registers spot = Silent (record { spot = spot; registers = registers; answers = [] })

abbrev pub goes_spot : Registers → Option Spot → Turn SpotState
goes_spot registers None = Ends
goes_spot registers (Some spot) = to_spot registers spot

-- where an instruction by itself goes when its plan is made
abbrev pub leads_on : Context → List Frame → Meaning → Instruction → List ℕ → Turn SpotState
leads_on k frames meaning.Continue i answers = goes_spot k.registers (renewed_spot frames (Plain i))
leads_on k frames meaning.ContinueIf i answers =
    if holds k i then goes_spot k.registers (renewed_spot frames (Plain i))
    else to_spot k.registers (AtEnd frames (Plain i))
leads_on k frames meaning.Break i answers = goes_spot k.registers (left_spot frames (Plain i))
leads_on k frames meaning.BreakIf i answers =
    if holds k i then goes_spot k.registers (left_spot frames (Plain i))
    else to_spot k.registers (AtEnd frames (Plain i))
leads_on k frames meaning.Return i answers = Ends
leads_on k frames meaning.ReturnIf i answers = if holds k i then Ends else to_spot k.registers (AtEnd frames (Plain i))
leads_on k frames other i answers = to_spot (left_by k other i answers) (AtEnd frames (Plain i))

-- the next event of its plan, or the way on behind it
abbrev pub asks_or : SpotState → Option Event → Turn SpotState → Turn SpotState
asks_or x None way = way
asks_or x (Some e) way = Asks e (λ a. record { spot = x.spot; registers = x.registers; answers = x.answers ++ a ∷ [] })

abbrev pub plain_turn : Context → SpotState → List Frame → Option Meaning → Instruction → Turn SpotState
plain_turn k x frames None i = Ends
plain_turn k x frames (Some meaning) i =
    asks_or x (slice_get (made (parts k meaning i)) (length x.answers)) (leads_on k frames meaning i x.answers)

-- ONE INSTRUCTION at a spot. Where none stands in front of the next spot there is no turn, and behind all stands `ret`.
abbrev pub turn_in : Context → SpotState → Spot → Turn SpotState
turn_in k x (AtBegin frames (Plain i)) = plain_turn k x frames (meaning_of Base i.code) i
turn_in k x (AtBegin frames (Label i)) = to_spot k.registers (AtEnd frames (Label i))
turn_in k x (AtBegin frames (If opening body end)) =
    if holds k opening then to_spot k.registers (AtBegin (InIf opening end ∷ frames) body)
    else to_spot k.registers (AtEnd frames (If opening body end))
turn_in k x (AtBegin frames (IfElse opening body middle other end)) =
    if holds k opening then to_spot k.registers (AtBegin (InThen opening middle other end ∷ frames) body)
    else to_spot k.registers (AtBegin (InElse opening body middle end ∷ frames) other)
turn_in k x (AtBegin frames (Loop opening body end)) = to_spot k.registers (AtBegin (InLoop opening end ∷ frames) body)
turn_in k x (AtBegin frames (Switch opening body end)) =
    goes_spot k.registers (switched_spot (scalar k opening.o0) frames opening body end)
turn_in k x (AtEnd (InIf opening end ∷ frames) s) = to_spot k.registers (AtEnd frames (If opening s end))
turn_in k x (AtEnd (InThen opening middle other end ∷ frames) s) =
    to_spot k.registers (AtEnd frames (IfElse opening s middle other end))
turn_in k x (AtEnd (InElse opening body middle end ∷ frames) s) =
    to_spot k.registers (AtEnd frames (IfElse opening body middle s end))
turn_in k x (AtEnd (InLoop opening end ∷ frames) s) = to_spot k.registers (AtBegin (InLoop opening end ∷ frames) s)
turn_in k x (AtEnd (InSwitch opening end ∷ frames) s) = to_spot k.registers (AtEnd frames (Switch opening s end))
turn_in k x other = Ends

abbrev pub spot_step : Shader → Setting → SpotState → Turn SpotState
spot_step p setting x = turn_in (context p setting x.registers) x x.spot

-- the same state at its place in the list of instructions, and a turn there
abbrev pub at_place : SpotState → State
at_place x = record { place = place_of x.spot; registers = x.registers; answers = x.answers }

abbrev pub in_list : Turn SpotState → Turn State
in_list (Silent to) = Silent (at_place to)
in_list (Asks e after) = Asks e (λ a. at_place (after a))
in_list Ends = Ends
in_list (Wrong place rule) = Wrong place rule

-- THE LANE GOES BACK at a continue, and at the end of a loop.
abbrev pub back_by : Context → Instruction → Option Meaning → Bool
back_by k i (Some meaning.Continue) = true
back_by k i (Some meaning.ContinueIf) = holds k i
back_by k i other = false

abbrev pub goes_back : Context → Spot → Bool
goes_back k (AtBegin frames (Plain i)) = back_by k i (meaning_of Base i.code)
goes_back k (AtEnd (InLoop opening end ∷ frames) s) = true
goes_back k other = false

-- Where a turn leads: into the same whole, and to a greater place, but where the lane goes back.
abbrev pub IsReached : Bool → ℕ → ℕ → Type 0
IsReached true from to = to ≤ from
IsReached false from to = from < to

abbrev pub Follows : Context → Spot → Turn SpotState → Type 0
Follows k x (Silent to) = (whole_of to.spot ≡ whole_of x) × IsReached (goes_back k x) (place_of x) (place_of to.spot)
Follows k x (Asks e after) = (a : ℕ) → (after a).spot ≡ x
Follows k x other = ⊤

-- so many moves, at the same place
abbrev pub IsMoved : ℕ → Spot → Spot → Type 0
IsMoved zero x y = x ≡ y
IsMoved (suc n) x y = (m : Spot) × (moved x ≡ Some m) × IsMoved n m y

-- Examples: the break of `Spots` leads behind the loop, at 7; a continue there leads to the loop's body anew, at 1; and
-- a move leads from the end of one statement to the next.
abbrev pub behind_loop : Spot
behind_loop = AtEnd [] (filled the_frames (Plain (bare 2)))

pub break_spot : left_spot the_frames (Plain (bare 2)) ≡ Some behind_loop
break_spot = refl

pub behind_at : place_of behind_loop ≡ 7
behind_at = refl

pub anew_at : option_map place_of (renewed_spot the_frames (Plain (bare 2))) ≡ Some 1
anew_at = refl

pub next_moved : moved (AtEnd (Before Nothing ∷ []) (Plain (bare 54))) ≡ Some
    (AtBegin (Behind (Plain (bare 54)) ∷ []) Nothing)
next_moved = refl
