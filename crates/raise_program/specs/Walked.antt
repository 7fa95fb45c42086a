-- THE WALK FROM THE LAST INSTRUCTION TO THE FIRST, by which the flat list becomes statements: what is kept of the
-- instructions behind a place. (Shader Model 5 assembly: if, else, endif, loop, endloop, switch, case, default,
-- endswitch.)
use Rattle.std.specs.Prelude.{◌≡◌, ℕ, nat_lt, ◌&&◌, Bool, true, List, [], ◌∷◌, length, Option, Some, None, refl}
use Rattle.tpf_decode.specs.Profiles.{Base}
use Rattle.tpf_decode.specs.Opcodes.{meaning_of, opcode_table}
use Rattle.tpf_decode.specs.declared.meaning.Meaning.{Meaning}
use Rattle.tpf_decode.specs.declared.meaning.Meaning.TheVariants as meaning
use Rattle.tpf_program.specs.declared.instruction.Instruction.{Instruction}
use Rattle.tpf_program.specs.ExampleParts.{bare}
use Rattle.shader_tree.specs.Terms.{Term}
use Rattle.shader_tree.specs.Terms as term
use Rattle.raise_program.specs.Raised.{Parts, alone, breaking}

-- A construct around the place: what stands behind its end, and, where the place is in front of its else, what stands
-- between that and the end.
pub record Around : Type 0 where
  pub behind : Term
  pub other : Option Term

-- What stands between the place and the end of the innermost construct around it, or the end of all, and these
-- constructs, the innermost first.
pub record Rest : Type 0 where
  pub here : Term
  pub around : List Around

-- behind the last instruction
abbrev pub end_of_all : Rest
end_of_all = record { here = term.Nothing; around = [] }

-- the innermost construct and those around it
abbrev pub inner_behind : List Around → Term
inner_behind [] = term.Nothing
inner_behind (a ∷ around) = a.behind

abbrev pub inner_other : List Around → Option Term
inner_other [] = None
inner_other (a ∷ around) = a.other

abbrev pub outer : List Around → List Around
outer [] = []
outer (a ∷ around) = around

-- a statement in front of a place
abbrev pub put : Term → Rest → Rest
put t w = record { here = term.Then t w.here; around = w.around }

-- in front of an end; in front of an else; and what is behind the innermost construct
abbrev pub closed : Rest → Rest
closed w = record { here = term.Nothing; around = record { behind = w.here; other = None } ∷ w.around }

abbrev pub halved : Rest → Rest
halved w = record {
  here = term.Nothing;
  around = record { behind = inner_behind w.around; other = Some w.here } ∷ outer w.around;
}

abbrev pub left : Rest → Rest
left w = record { here = inner_behind w.around; around = outer w.around }

-- the selection of an `if`: what is in front of its test, the test, its body, and that of its else
abbrev pub chosen : Term → Term → Term → Option Term → Term
chosen front truth body None = term.Then front (term.Guard truth body)
chosen front truth body (Some other) = term.Then front (term.If truth body other)

module _ (parts : Parts) where
  -- ONE INSTRUCTION back
  abbrev pub visited : Option Meaning → Instruction → Rest → Rest
  visited (Some meaning.If) i w = put (chosen (parts.front i) (parts.truth i) w.here (inner_other w.around)) (left w)
  visited (Some meaning.Else) i w = halved w
  visited (Some meaning.EndIf) i w = closed w
  visited (Some meaning.Loop) i w = put (term.Loop w.here) (left w)
  visited (Some meaning.EndLoop) i w = closed w
  visited (Some meaning.Switch) i w = put (term.Then (parts.front i) (term.Switch (parts.word i) w.here)) (left w)
  visited (Some meaning.EndSwitch) i w = closed w
  visited (Some meaning.Case) i w = put (term.Case i.o0.x term.Nothing) w
  visited (Some meaning.Default) i w = put (term.Default term.Nothing) w
  visited m i w = put (alone parts m i) w

  abbrev pub walked : List Instruction → Rest → Rest
  walked [] w = w
  walked (i ∷ code) w = visited (meaning_of Base i.code) i (walked code w)

-- Whether so many constructs around the place behind it allow an instruction: what opens one and an else stand in one,
-- and at most 64 are around one place.
abbrev pub allows : ℕ → Option Meaning → Bool
allows n (Some meaning.If) = nat_lt 0 n
allows n (Some meaning.Else) = nat_lt 0 n && nat_lt n 65
allows n (Some meaning.EndIf) = nat_lt n 64
allows n (Some meaning.Loop) = nat_lt 0 n
allows n (Some meaning.EndLoop) = nat_lt n 64
allows n (Some meaning.Switch) = nat_lt 0 n
allows n (Some meaning.EndSwitch) = nat_lt n 64
allows n m = true

-- Examples: a loop around a break, and a `nop` behind it. Between the loop and its end there is one construct around.
abbrev pub a_list : List Instruction
a_list = bare 48 ∷ bare 2 ∷ bare 22 ∷ bare 58 ∷ []

pub list_walked :
    (walked breaking a_list end_of_all).here
    ≡ term.Then (term.Loop (term.Then term.Break term.Nothing)) (term.Then term.Nothing term.Nothing)
unfolding meaning_of opcode_table
list_walked = refl

pub inside_walked : length (walked breaking (bare 2 ∷ bare 22 ∷ bare 58 ∷ []) end_of_all).around ≡ 1
unfolding meaning_of opcode_table
inside_walked = refl

-- An if with an else, and a switch with a default.
pub choice_walked :
    (walked breaking (bare 31 ∷ bare 2 ∷ bare 18 ∷ bare 7 ∷ bare 21 ∷ []) end_of_all).here
    ≡ term.Then
    (term.Then term.Nothing
    (term.If (term.Word 1) (term.Then term.Break term.Nothing) (term.Then term.Continue term.Nothing)))
    term.Nothing
unfolding meaning_of opcode_table
choice_walked = refl

pub switch_walked :
    (walked breaking (bare 76 ∷ bare 10 ∷ bare 2 ∷ bare 23 ∷ []) end_of_all).here
    ≡ term.Then
    (term.Then term.Nothing
    (term.Switch (term.Word 0) (term.Then (term.Default term.Nothing) (term.Then term.Break term.Nothing))))
    term.Nothing
unfolding meaning_of opcode_table
switch_walked = refl
