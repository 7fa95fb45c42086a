-- Nested statements, and the flat lists of instructions that they stand for. (Shader Model 5 assembly: if, else, endif,
-- loop, endloop, switch, case, default, endswitch, break, continue, ret.)
use Rattle.std.specs.Prelude.{◌≡◌, ℕ, ◌+◌, nat_lt, ◌&&◌, ◌||◌, Bool, true, false, List, [], ◌∷◌, ◌++◌, Option, Some, None}
use Rattle.std.specs.Prelude.{is_some, slice_get, ⊤, refl}
use Rattle.std.specs.List.{list_any}
use Rattle.tpf_decode.specs.Profiles.{Base}
use Rattle.tpf_decode.specs.Opcodes.{meaning_of, opcode_table}
use Rattle.tpf_decode.specs.declared.meaning.Meaning.{Meaning}
use Rattle.tpf_decode.specs.declared.meaning.Meaning.TheVariants as meaning
use Rattle.tpf_program.specs.declared.instruction.Instruction.{Instruction}
use Rattle.tpf_program.specs.Cases.{is_any_case}
use Rattle.tpf_program.specs.Ends.{means, is_if, is_loop, is_switch, is_else, is_default, is_case_of}
use Rattle.tpf_program.specs.ExampleParts.{bare}
use Rattle.tpf_program.specs.Nesting.{is_label, is_end_of_switch, is_return}
use Rattle.tpf_program.specs.Program.{Shader}

pub data Statement : Type 0 where
  Nothing : Statement
  Then : (first next : Statement) → Statement
  -- an instruction that opens no construct and closes none, and is no else and no label
  Plain : (i : Instruction) → Statement
  If : (opening : Instruction) (body : Statement) (end : Instruction) → Statement
  IfElse : (opening : Instruction) (body : Statement) (middle : Instruction) (other : Statement) (end : Instruction)
      → Statement
  Loop : (opening : Instruction) (body : Statement) (end : Instruction) → Statement
  Switch : (opening : Instruction) (body : Statement) (end : Instruction) → Statement
  -- a case or default, directly in the body of a switch
  Label : (i : Instruction) → Statement

-- the instructions of a statement, in their order
abbrev pub flattened : Statement → List Instruction
flattened Nothing = []
flattened (Then first next) = flattened first ++ flattened next
flattened (Plain i) = i ∷ []
flattened (If opening body end) = opening ∷ (flattened body ++ end ∷ [])
flattened (IfElse opening body middle other end) = opening ∷ (flattened body ++ middle ∷ (flattened other ++ end ∷ []))
flattened (Loop opening body end) = opening ∷ (flattened body ++ end ∷ [])
flattened (Switch opening body end) = opening ∷ (flattened body ++ end ∷ [])
flattened (Label i) = i ∷ []

-- the cases and defaults directly in a statement
abbrev pub labels : Statement → List Instruction
labels (Then first next) = labels first ++ labels next
labels (Label i) = i ∷ []
labels other = []

-- WHERE A STATEMENT STANDS: in a loop, in a loop or switch, directly in a switch, and in how many constructs
pub record Where : Type 0 where
  pub loops : Bool
  pub leaves : Bool
  pub direct : Bool
  pub depth : ℕ

abbrev pub outside_all : Where
outside_all = record { loops = false; leaves = false; direct = false; depth = 0 }

abbrev pub in_if : Where → Where
in_if w = record { loops = w.loops; leaves = w.leaves; direct = false; depth = w.depth + 1 }

abbrev pub in_loop : Where → Where
in_loop w = record { loops = true; leaves = true; direct = false; depth = w.depth + 1 }

abbrev pub in_switch : Where → Where
in_switch w = record { loops = w.loops; leaves = true; direct = true; depth = w.depth + 1 }

-- an instruction may stand there by itself
abbrev pub stands_in : Where → Meaning → Bool
stands_in w meaning.Break = w.leaves
stands_in w meaning.BreakIf = w.leaves
stands_in w meaning.Continue = w.loops
stands_in w meaning.ContinueIf = w.loops
stands_in w meaning.If = false
stands_in w meaning.Else = false
stands_in w meaning.EndIf = false
stands_in w meaning.Loop = false
stands_in w meaning.EndLoop = false
stands_in w meaning.Switch = false
stands_in w meaning.Case = false
stands_in w meaning.Default = false
stands_in w meaning.EndSwitch = false
stands_in w other = true

abbrev pub stands : Where → Option Meaning → Bool
stands w None = false
stands w (Some meaning) = stands_in w meaning

abbrev pub is_end_of_if : Meaning → Bool
is_end_of_if meaning.EndIf = true
is_end_of_if other = false

abbrev pub is_end_of_loop : Meaning → Bool
is_end_of_loop meaning.EndLoop = true
is_end_of_loop other = false

-- two labels of one value
abbrev pub same_label : Instruction → Instruction → Bool
same_label i j =
    (means Base is_default i && means Base is_default j) || (means Base is_any_case i && is_case_of Base i.o0.x j)

abbrev pub AreDistinct : List Instruction → Type 0
AreDistinct [] = ⊤
AreDistinct (i ∷ rest) = (list_any (same_label i) rest ≡ false) × AreDistinct rest

-- the body of a switch is empty, or begins with a label
abbrev pub BeginsWithLabel : List Instruction → Type 0
BeginsWithLabel [] = ⊤
BeginsWithLabel (i ∷ rest) = means Base is_label i ≡ true

-- A STATEMENT IS SOUND where it stands: each instruction is what its part in the statement says, at most 64 constructs
-- are nested, break and continue stand in what they leave, and labels directly in a switch, each value once, with
-- nothing in front of the first.
abbrev pub IsSound : Where → Statement → Type 0
IsSound w Nothing = ⊤
IsSound w (Then first next) = IsSound w first × IsSound w next
IsSound w (Plain i) = stands w (meaning_of Base i.code) ≡ true
IsSound w (If opening body end) =
    (means Base is_if opening ≡ true) × (means Base is_end_of_if end ≡ true) × (nat_lt w.depth 64 ≡ true)
    × IsSound (in_if w) body
IsSound w (IfElse opening body middle other end) =
    (means Base is_if opening ≡ true) × (means Base is_else middle ≡ true) × (means Base is_end_of_if end ≡ true)
    × (nat_lt w.depth 64 ≡ true) × IsSound (in_if w) body × IsSound (in_if w) other
IsSound w (Loop opening body end) =
    (means Base is_loop opening ≡ true) × (means Base is_end_of_loop end ≡ true) × (nat_lt w.depth 64 ≡ true)
    × IsSound (in_loop w) body
IsSound w (Switch opening body end) =
    (means Base is_switch opening ≡ true) × (means Base is_end_of_switch end ≡ true) × (nat_lt w.depth 64 ≡ true)
    × IsSound (in_switch w) body × BeginsWithLabel (flattened body) × AreDistinct (labels body)
IsSound w (Label i) = (means Base is_label i ≡ true) × (w.direct ≡ true)

-- each opcode of a program is one of an instruction, as in each program that words spell
abbrev pub HaveMeanings : Shader → Type 0
HaveMeanings p =
    (n : ℕ) (i : Instruction) → slice_get p.instructions n ≡ Some i → is_some (meaning_of Base i.code) ≡ true

-- A program's instructions are those of a statement, and a `ret` behind it, outside of all constructs.
pub record IsNested (p : Shader) : Type 0 where
  pub front : Statement
  pub last : Instruction
  pub flat : p.instructions ≡ flattened front ++ last ∷ []
  pub sound : IsSound outside_all front
  pub returns : means Base is_return last ≡ true

-- Examples: a loop with an if and an else in it, of which the first has a break; a break outside of all is not sound.
abbrev pub a_loop : Statement
a_loop = Loop (bare 48) (IfElse (bare 31) (Plain (bare 2)) (bare 18) (Plain (bare 7)) (bare 21)) (bare 22)

pub a_loop_flat : flattened a_loop ≡ bare 48 ∷ bare 31 ∷ bare 2 ∷ bare 18 ∷ bare 7 ∷ bare 21 ∷ bare 22 ∷ []
a_loop_flat = refl

pub a_loop_sound : IsSound outside_all a_loop
unfolding meaning_of opcode_table
a_loop_sound = (refl, refl, refl, (refl, refl, refl, refl, refl, refl))

pub a_break : stands outside_all (meaning_of Base 2) ≡ false
unfolding meaning_of opcode_table
a_break = refl
