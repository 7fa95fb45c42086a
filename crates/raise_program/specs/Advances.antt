-- How the lane of a raised tree goes on where the lane of the program goes on by control flow.
use Rattle.std.specs.Prelude.{◌≡◌, ℕ, ◌+◌, Bool, true, false, List, [], Option, Some, None}
use Rattle.word_base.specs.Lanes.{Turn, Silent, Ends, Goes}
use Rattle.word_base.specs.Registers.{Registers}
use Rattle.word_base.specs.Settings.{Setting}
use Rattle.tpf_decode.specs.Profiles.{Base}
use Rattle.tpf_decode.specs.Opcodes.{meaning_of}
use Rattle.tpf_decode.specs.declared.meaning.Meaning.{Meaning}
use Rattle.tpf_decode.specs.declared.meaning.Meaning.TheVariants as meaning
use Rattle.tpf_program.specs.declared.instruction.Instruction.{Instruction}
use Rattle.tpf_program.specs.Bytecode.{holds}
use Rattle.tpf_program.specs.Program.{Shader}
use Rattle.tpf_program.specs.Values.{context, scalar}
use Rattle.shader_tree.specs.Chains.{Link, push}
use Rattle.shader_tree.specs.Lane.{State, state, step}
use Rattle.shader_tree.specs.Values.{Spaces, words, value, word, truth}
use Rattle.shader_check.specs.Statements.{Plain, If, IfElse, Switch}
use Rattle.raise_program.specs.SpotLane.{Spot, AtBegin, AtEnd, SpotState, goes_back}
use Rattle.raise_program.specs.Raised.{Parts, chain_of}

-- the instruction whose scalar is read at a spot, where it leads elsewhere than to the next
abbrev pub scalar_of : Option Meaning → Instruction → Option Instruction
scalar_of (Some meaning.BreakIf) i = Some i
scalar_of (Some meaning.ContinueIf) i = Some i
scalar_of (Some meaning.ReturnIf) i = Some i
scalar_of other i = None

abbrev pub scalar_at : Spot → Option Instruction
scalar_at (AtBegin frames (Plain i)) = scalar_of (meaning_of Base i.code) i
scalar_at (AtBegin frames (If opening body end)) = Some opening
scalar_at (AtBegin frames (IfElse opening body middle other end)) = Some opening
scalar_at (AtBegin frames (Switch opening body end)) = Some opening
scalar_at other = None

-- control flow: not an instruction that goes on to the next, and not the end of all
abbrev pub leads_away : Option Meaning → Bool
leads_away (Some meaning.Break) = true
leads_away (Some meaning.BreakIf) = true
leads_away (Some meaning.Continue) = true
leads_away (Some meaning.ContinueIf) = true
leads_away (Some meaning.Return) = true
leads_away (Some meaning.ReturnIf) = true
leads_away other = false

abbrev pub is_control : Spot → Bool
is_control (AtBegin frames (Plain i)) = leads_away (meaning_of Base i.code)
is_control (AtEnd [] s) = false
is_control other = true

-- how often loops were begun anew, behind a turn
abbrev pub turned : Bool → ℕ → ℕ
turned true turns = turns + 1
turned false turns = turns

module _ (p : Shader) (g : Spaces) (setting : Setting) (parts : Parts) where
  -- From these registers, whatever follows, what is in front of the scalar of an instruction makes no event, leaves the
  -- registers, and behind it stand the instruction's test and its word.
  pub record Serves (r : Registers) (i : Instruction) : Type 0 where
    pub leads :
        (k : List Link) (scratch : ℕ → ℕ) (turns : ℕ)
        → (n : ℕ) × (left : ℕ → ℕ)
        × Goes (step g setting) n (state (push (parts.front i) k) (words scratch r) turns)
        (state k (words left r) turns)
        × (value g setting (words left r) (parts.truth i) ≡ truth (holds (context p setting r) i))
        × (value g setting (words left r) (parts.word i) ≡ word (scalar (context p setting r) i.o0))

  -- WHERE A TURN LEADS the tree's lane comes by silent steps: from what is to be run at the spot to what is to be run
  -- at the next, with its registers, and a loop is begun anew where the lane goes back; and to its end where the lane
  -- ends, with no loop begun anew. There is no event.
  abbrev pub Comes : List Link → ℕ → State → Bool → Turn SpotState → Type 0
  Comes last turns from back (Silent to) =
      (n : ℕ) × (left : ℕ → ℕ)
      × Goes (step g setting) n from (state (chain_of parts last to.spot) (words left to.registers) (turned back turns))
  Comes last turns from back Ends =
      (n : ℕ) × (t : State) × Goes (step g setting) n from t × (step g setting t ≡ Ends) × (t.turns ≡ turns)
  Comes last turns from back other = ⊥

  abbrev pub Advances : List Link → Registers → (ℕ → ℕ) → ℕ → Spot → Turn SpotState → Type 0
  Advances last r scratch turns x turn =
      Comes last turns (state (chain_of parts last x) (words scratch r) turns) (goes_back (context p setting r) x) turn
