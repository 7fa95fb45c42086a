-- Control flow leaves the registers, and an instruction that goes on makes its plan and leads behind itself.
use Rattle.std.proofs.Common.{◌≡◌, ℕ, Bool, true, false, List, [], ◌∷◌, Option, Some, None, refl}
use Rattle.std.specs.Prelude.{if◌then◌else◌, slice_get, length, ⊤}
use Rattle.word_base.specs.Lanes.{Turn, Silent, Ends}
use Rattle.word_base.specs.Registers.{Registers}
use Rattle.tpf_decode.specs.Profiles.{Base}
use Rattle.tpf_decode.specs.Opcodes.{meaning_of}
use Rattle.tpf_decode.specs.declared.meaning.Meaning.{Meaning}
use Rattle.tpf_decode.specs.declared.meaning.Meaning.TheVariants as meaning
use Rattle.tpf_program.specs.declared.instruction.Instruction.{Instruction}
use Rattle.tpf_program.specs.Bytecode.{holds, plan_by, result_by}
use Rattle.tpf_program.specs.Values.{Context, scalar}
use Rattle.shader_check.specs.Statements.{Nothing, Then, Plain, If, IfElse, Loop, Switch, Label, Where, stands}
use Rattle.raise_program.specs.Spots.{Frame, Before, Behind, InIf, InThen, InElse, InLoop, InSwitch}
use Rattle.raise_program.specs.SpotLane.{Spot, AtBegin, AtEnd, SpotState, asks_or, to_spot, goes_spot, left_spot, renewed_spot, switched_spot, plain_turn, turn_in}
use Rattle.raise_program.specs.Raised.{Parts, alone, goes_on}
use Rattle.raise_program.specs.Advances.{leads_away, is_control}

-- a silent turn that leaves those registers
abbrev pub Keeps : Registers → Turn SpotState → Type 0
Keeps r (Silent to) = (to.registers ≡ r) × (to.answers ≡ [])
Keeps r other = ⊤

module _ (k : Context) (answers : List ℕ) where
  goes_keeps : (o : Option Spot) → Keeps k.registers (goes_spot k.registers o)
  goes_keeps None = tt
  goes_keeps (Some y) = (refl, refl)

  either : (b : Bool) (x y : Turn SpotState) → Keeps k.registers x → Keeps k.registers y → Keeps k.registers (if b then x else y)
  either true x y h l = h
  either false x y h l = l

  leap_keeps : (frames : List Frame) (i : Instruction) (m : Option Meaning) → leads_away m ≡ true
      → Keeps k.registers (plain_turn k (record { spot = AtBegin frames (Plain i); registers = k.registers; answers = answers }) frames m i)
  leap_keeps frames i None h = absurd (cc)
  leap_keeps frames i (Some meaning.Break) h = goes_keeps (left_spot frames (Plain i))
  leap_keeps frames i (Some meaning.BreakIf) h =
      either (holds k i) (goes_spot k.registers (left_spot frames (Plain i))) (to_spot k.registers (AtEnd frames (Plain i)))
      (goes_keeps (left_spot frames (Plain i))) (refl, refl)
  leap_keeps frames i (Some meaning.Continue) h = goes_keeps (renewed_spot frames (Plain i))
  leap_keeps frames i (Some meaning.ContinueIf) h =
      either (holds k i) (goes_spot k.registers (renewed_spot frames (Plain i))) (to_spot k.registers (AtEnd frames (Plain i)))
      (goes_keeps (renewed_spot frames (Plain i))) (refl, refl)
  leap_keeps frames i (Some meaning.Return) h = tt
  leap_keeps frames i (Some meaning.ReturnIf) h = either (holds k i) Ends (to_spot k.registers (AtEnd frames (Plain i))) tt (refl, refl)
  leap_keeps frames i (Some m) h = absurd (cc)

  pub control_keeps : (x : Spot) → is_control x ≡ true
      → Keeps k.registers (turn_in k (record { spot = x; registers = k.registers; answers = answers }) x)
  control_keeps (AtBegin frames Nothing) h = tt
  control_keeps (AtBegin frames (Then first next)) h = tt
  control_keeps (AtBegin frames (Plain i)) h = leap_keeps frames i (meaning_of Base i.code) h
  control_keeps (AtBegin frames (Label i)) h = (refl, refl)
  control_keeps (AtBegin frames (If opening body end)) h =
      either (holds k opening) (to_spot k.registers (AtBegin (InIf opening end ∷ frames) body))
      (to_spot k.registers (AtEnd frames (If opening body end))) (refl, refl) (refl, refl)
  control_keeps (AtBegin frames (IfElse opening body middle other end)) h =
      either (holds k opening) (to_spot k.registers (AtBegin (InThen opening middle other end ∷ frames) body))
      (to_spot k.registers (AtBegin (InElse opening body middle end ∷ frames) other)) (refl, refl) (refl, refl)
  control_keeps (AtBegin frames (Loop opening body end)) h = (refl, refl)
  control_keeps (AtBegin frames (Switch opening body end)) h =
      goes_keeps (switched_spot (scalar k opening.o0) frames opening body end)
  control_keeps (AtEnd [] s) h = tt
  control_keeps (AtEnd (Before next ∷ frames) s) h = tt
  control_keeps (AtEnd (Behind first ∷ frames) s) h = tt
  control_keeps (AtEnd (InIf opening end ∷ frames) s) h = (refl, refl)
  control_keeps (AtEnd (InThen opening middle other end ∷ frames) s) h = (refl, refl)
  control_keeps (AtEnd (InElse opening body middle end ∷ frames) s) h = (refl, refl)
  control_keeps (AtEnd (InLoop opening end ∷ frames) s) h = (refl, refl)
  control_keeps (AtEnd (InSwitch opening end ∷ frames) s) h = (refl, refl)

  -- an instruction that goes on to the next
  pub plain_goes : (frames : List Frame) (i : Instruction) (w : Where) (m : Option Meaning) (x : SpotState) → leads_away m ≡ false → stands w m ≡ true
      → plain_turn k x frames m i
      ≡ asks_or x (slice_get (plan_by k m i) (length x.answers)) (to_spot (result_by k m i x.answers) (AtEnd frames (Plain i)))
  plain_goes frames i w None x h s = absurd (cc)
  plain_goes frames i w (Some meaning.Break) x h s = absurd (cc)
  plain_goes frames i w (Some meaning.BreakIf) x h s = absurd (cc)
  plain_goes frames i w (Some meaning.Continue) x h s = absurd (cc)
  plain_goes frames i w (Some meaning.ContinueIf) x h s = absurd (cc)
  plain_goes frames i w (Some meaning.Return) x h s = absurd (cc)
  plain_goes frames i w (Some meaning.ReturnIf) x h s = absurd (cc)
  plain_goes frames i w (Some m) x h s = refl

-- and the statement that it is raised to
pub plain_alone : (parts : Parts) (i : Instruction) (m : Option Meaning) → leads_away m ≡ false → alone parts m i ≡ parts.plain i
plain_alone parts i None h = refl
plain_alone parts i (Some meaning.Break) h = absurd (cc)
plain_alone parts i (Some meaning.BreakIf) h = absurd (cc)
plain_alone parts i (Some meaning.Continue) h = absurd (cc)
plain_alone parts i (Some meaning.ContinueIf) h = absurd (cc)
plain_alone parts i (Some meaning.Return) h = absurd (cc)
plain_alone parts i (Some meaning.ReturnIf) h = absurd (cc)
plain_alone parts i (Some m) h = refl

-- one that stands by itself and leads nowhere else
pub plain_on : (w : Where) (m : Option Meaning) → stands w m ≡ true → leads_away m ≡ false → goes_on m ≡ true
plain_on w None s h = absurd (cc)
plain_on w (Some meaning.If) s h = absurd (cc)
plain_on w (Some meaning.Else) s h = absurd (cc)
plain_on w (Some meaning.EndIf) s h = absurd (cc)
plain_on w (Some meaning.Loop) s h = absurd (cc)
plain_on w (Some meaning.EndLoop) s h = absurd (cc)
plain_on w (Some meaning.Switch) s h = absurd (cc)
plain_on w (Some meaning.Case) s h = absurd (cc)
plain_on w (Some meaning.Default) s h = absurd (cc)
plain_on w (Some meaning.EndSwitch) s h = absurd (cc)
plain_on w (Some meaning.Break) s h = absurd (cc)
plain_on w (Some meaning.BreakIf) s h = absurd (cc)
plain_on w (Some meaning.Continue) s h = absurd (cc)
plain_on w (Some meaning.ContinueIf) s h = absurd (cc)
plain_on w (Some meaning.Return) s h = absurd (cc)
plain_on w (Some meaning.ReturnIf) s h = absurd (cc)
plain_on w (Some m) s h = refl
