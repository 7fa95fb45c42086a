-- The statements of a tree for the statements of a program, and the chain that is still to be run at a spot. What
-- stands for a single instruction is given: the rules here are those of control flow.
use Rattle.std.specs.Prelude.{◌≡◌, ℕ, if◌then◌else◌, Bool, true, false, slice_get, List, [], ◌∷◌, Option, Some, None, refl}
use Rattle.tpf_decode.specs.Profiles.{Base}
use Rattle.tpf_decode.specs.Opcodes.{meaning_of, opcode_table}
use Rattle.tpf_decode.specs.declared.meaning.Meaning.{Meaning}
use Rattle.tpf_decode.specs.declared.meaning.Meaning.TheVariants as meaning
use Rattle.tpf_program.specs.declared.instruction.Instruction.{Instruction}
use Rattle.tpf_program.specs.Ends.{means, is_default}
use Rattle.tpf_program.specs.ExampleParts.{bare}
use Rattle.shader_tree.specs.Chains.{Link, Run, Again, Out, push, behind_mark, left}
use Rattle.shader_tree.specs.Terms.{Term}
use Rattle.shader_tree.specs.Terms as term
use Rattle.shader_check.specs.Statements.{Statement, Nothing, Then, Plain, If, IfElse, Loop, Switch, Label}
use Rattle.raise_program.specs.Spots.{the_frames, Frame, Before, InLoop, InSwitch, fill}
use Rattle.raise_program.specs.SpotLane.{Spot, AtBegin, AtEnd}

-- WHAT INSTRUCTIONS ARE RAISED TO: the statement of one that goes on to the next, and of one that leads elsewhere what
-- is done in front of its scalar, the test, and the word
pub record Parts : Type 0 where
  pub plain : Instruction → Term
  pub front : Instruction → Term
  pub truth : Instruction → Term
  pub word : Instruction → Term

-- an instruction that goes on to the next
abbrev pub goes_on : Option Meaning → Bool
goes_on None = false
goes_on (Some meaning.If) = false
goes_on (Some meaning.Else) = false
goes_on (Some meaning.EndIf) = false
goes_on (Some meaning.Loop) = false
goes_on (Some meaning.EndLoop) = false
goes_on (Some meaning.Switch) = false
goes_on (Some meaning.Case) = false
goes_on (Some meaning.Default) = false
goes_on (Some meaning.EndSwitch) = false
goes_on (Some meaning.Break) = false
goes_on (Some meaning.BreakIf) = false
goes_on (Some meaning.Continue) = false
goes_on (Some meaning.ContinueIf) = false
goes_on (Some meaning.Return) = false
goes_on (Some meaning.ReturnIf) = false
goes_on other = true

-- Of the instructions of a program no statement by itself, and none in front of a scalar, holds a label of a switch
-- that is outside of it.
pub record AreUnmarked (code : List Instruction) (parts : Parts) : Type 0 where
  pub plain :
      (n : ℕ) (i : Instruction) → slice_get code n ≡ Some i → goes_on (meaning_of Base i.code) ≡ true
      → (mark : Option ℕ) (k : List Link) → behind_mark mark (parts.plain i) k ≡ None
  pub front :
      (n : ℕ) (i : Instruction) → slice_get code n ≡ Some i
      → (mark : Option ℕ) (k : List Link) → behind_mark mark (parts.front i) k ≡ None

module _ (parts : Parts) where
  -- an instruction by itself
  abbrev pub alone : Option Meaning → Instruction → Term
  alone (Some meaning.Break) i = term.Break
  alone (Some meaning.BreakIf) i = term.Then (parts.front i) (term.Guard (parts.truth i) term.Break)
  alone (Some meaning.Continue) i = term.Continue
  alone (Some meaning.ContinueIf) i = term.Then (parts.front i) (term.Guard (parts.truth i) term.Continue)
  alone (Some meaning.Return) i = term.Return
  alone (Some meaning.ReturnIf) i = term.Then (parts.front i) (term.Guard (parts.truth i) term.Return)
  alone other i = parts.plain i

  abbrev pub raised : Statement → Term
  raised Nothing = term.Nothing
  raised (Then first next) = term.Then (raised first) (raised next)
  raised (Plain i) = alone (meaning_of Base i.code) i
  raised (If opening body end) = term.Then (parts.front opening) (term.Guard (parts.truth opening) (raised body))
  raised (IfElse opening body middle other end) =
      term.Then (parts.front opening) (term.If (parts.truth opening) (raised body) (raised other))
  raised (Loop opening body end) = term.Loop (raised body)
  raised (Switch opening body end) = term.Then (parts.front opening) (term.Switch (parts.word opening) (raised body))
  raised (Label i) = if means Base is_default i then term.Default term.Nothing else term.Case i.o0.x term.Nothing

  -- WHAT IS STILL TO BE RUN behind a statement in its frames, where a chain is run behind all
  abbrev pub links : List Link → List Frame → Statement → List Link
  links last [] s = last
  links last (Before next ∷ frames) s = push (raised next) (links last frames (Then s next))
  links last (InLoop opening end ∷ frames) s = Again (raised s) ∷ links last frames (Loop opening s end)
  links last (InSwitch opening end ∷ frames) s = Out ∷ links last frames (Switch opening s end)
  links last (f ∷ frames) s = links last frames (fill f s)

  abbrev pub chain_of : List Link → Spot → List Link
  chain_of last (AtBegin frames s) = push (raised s) (links last frames s)
  chain_of last (AtEnd frames s) = links last frames s

  abbrev pub chain_of_any : List Link → Option Spot → Option (List Link)
  chain_of_any last None = None
  chain_of_any last (Some x) = Some (chain_of last x)

-- Examples: the loop of `Spots`, where the if has a break in it, and a continue in its else. Behind the
-- break the end of the loop's body is to be run; the break leads behind the loop.
abbrev pub breaking : Parts
breaking = record {
  plain = λ i. term.Nothing;
  front = λ i. term.Nothing;
  truth = λ i. term.Word 1;
  word = λ i. term.Word 0;
}

abbrev pub the_loop : Term
the_loop = term.Then term.Nothing (term.If (term.Word 1) term.Break term.Continue)

pub links_read :
    links breaking (Run term.Return ∷ []) the_frames (Plain (bare 2)) ≡ Again the_loop ∷ Run term.Return ∷ []
unfolding meaning_of opcode_table
links_read = refl

pub left_read : left (links breaking (Run term.Return ∷ []) the_frames (Plain (bare 2))) ≡ Some (Run term.Return ∷ [])
unfolding meaning_of opcode_table
left_read = refl

-- A label in the body of a switch: what is behind it is run, and then the end of the switch.
pub label_read :
    chain_of breaking [] (AtBegin (Before (Plain (bare 2)) ∷ InSwitch (bare 76) (bare 23) ∷ []) (Label (bare 10)))
    ≡ Run (term.Default term.Nothing) ∷ Run term.Break ∷ Out ∷ []
unfolding meaning_of opcode_table
label_read = refl
