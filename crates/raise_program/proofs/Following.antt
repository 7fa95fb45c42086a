-- Each turn leads into the same whole, and to a greater place, but where the lane goes back.
use Rattle.std.proofs.Common.{◌≡◌, ℕ, ◌+◌, ◌<◌, ◌≤◌, Bool, true, false, List, [], ◌∷◌, ◌++◌, length, Option, Some, None, refl, sym, ap, subst, arith, length-append}
use Rattle.std.specs.Prelude.{slice_get, if◌then◌else◌, ⊤}
use Rattle.word_base.specs.declared.event.Event.{Event}
use Rattle.word_base.specs.Lanes.{Turn, Silent, Asks, Ends, Wrong}
use Rattle.word_base.specs.Registers.{Registers}
use Rattle.word_base.specs.Settings.{Setting}
use Rattle.tpf_decode.specs.Profiles.{Base}
use Rattle.tpf_decode.specs.Opcodes.{meaning_of}
use Rattle.tpf_decode.specs.declared.meaning.Meaning.{Meaning}
use Rattle.tpf_decode.specs.declared.meaning.Meaning.TheVariants as meaning
use Rattle.tpf_program.specs.declared.instruction.Instruction.{Instruction}
use Rattle.tpf_program.specs.Program.{Shader}
use Rattle.tpf_program.specs.Values.{Context, context, scalar}
use Rattle.tpf_program.specs.Plans.{parts, made}
use Rattle.tpf_program.specs.Ends.{means, is_default, is_case_of}
use Rattle.tpf_program.specs.Bytecode.{holds}
use Rattle.shader_check.specs.Statements.{Statement, Nothing, Then, Plain, If, IfElse, Loop, Switch, Label, flattened}
use Rattle.raise_program.specs.Spots.{Frame, Before, Behind, InIf, InThen, InElse, InLoop, InSwitch, fill, filled, place_in, size, after}
use Rattle.raise_program.specs.SpotLane.{Spot, AtBegin, AtEnd, place_of, whole_of, left_spot, renewed_spot, or_spot, label_spot, switched_spot, SpotState, to_spot, goes_spot, leads_on, asks_or, plain_turn, turn_in, spot_step, back_by, goes_back, IsReached, Follows}
use Rattle.raise_program.proofs.Around.{place_more, size_more}

-- what holds of a spot, if there is one
abbrev Some_is : (Spot → Type 0) → Option Spot → Type 0
Some_is P None = ⊤
Some_is P (Some y) = P y

some_more : (P Q : Spot → Type 0) → ((y : Spot) → P y → Q y) → (o : Option Spot) → Some_is P o → Some_is Q o
some_more P Q f None h = tt
some_more P Q f (Some y) h = f y h

some_or : (P : Spot → Type 0) (a b : Option Spot) → Some_is P a → Some_is P b → Some_is P (or_spot a b)
some_or P None b h k = k
some_or P (Some y) b h k = h

-- a spot of that whole, up to a place or behind one
abbrev UpTo : Statement → ℕ → Spot → Type 0
UpTo whole n y = (whole_of y ≡ whole) × (place_of y ≤ n)

abbrev Past : Statement → ℕ → Spot → Type 0
Past whole n y = (whole_of y ≡ whole) × (n < place_of y)

fewer : (whole : Statement) (n m : ℕ) → n ≤ m → (o : Option Spot) → Some_is (UpTo whole n) o → Some_is (UpTo whole m) o
fewer whole n m l o h = some_more (UpTo whole n) (UpTo whole m) (λ y k. (k.0, omega (arith, k.1, l))) o h

further : (whole : Statement) (n m : ℕ) → n ≤ m → (o : Option Spot) → Some_is (Past whole m) o → Some_is (Past whole n) o
further whole n m l o h = some_more (Past whole m) (Past whole n) (λ y k. (k.0, omega (arith, k.1, l))) o h

up : (f : Frame) (frames : List Frame) (s : Statement) → Some_is (UpTo (filled frames (fill f s)) (place_in frames)) (renewed_spot frames (fill f s))
    → Some_is (UpTo (filled frames (fill f s)) (place_in (f ∷ frames))) (renewed_spot frames (fill f s))
up f frames s h = fewer (filled frames (fill f s)) (place_in frames) (place_in (f ∷ frames)) (omega (arith, place_more f frames))
    (renewed_spot frames (fill f s)) h

renews_up : (frames : List Frame) (s : Statement) → Some_is (UpTo (filled frames s) (place_in frames)) (renewed_spot frames s)
renews_up [] s = tt
renews_up (Before next ∷ frames) s = up (Before next) frames s (renews_up frames (Then s next))
renews_up (Behind first ∷ frames) s = up (Behind first) frames s (renews_up frames (Then first s))
renews_up (InIf opening end ∷ frames) s = up (InIf opening end) frames s (renews_up frames (If opening s end))
renews_up (InThen opening middle other end ∷ frames) s = up (InThen opening middle other end) frames s
    (renews_up frames (IfElse opening s middle other end))
renews_up (InElse opening body middle end ∷ frames) s = up (InElse opening body middle end) frames s
    (renews_up frames (IfElse opening body middle s end))
renews_up (InLoop opening end ∷ frames) s = (refl, omega arith)
renews_up (InSwitch opening end ∷ frames) s = up (InSwitch opening end) frames s (renews_up frames (Switch opening s end))

out : (f : Frame) (frames : List Frame) (s : Statement) → Some_is (Past (filled frames (fill f s)) (place_in frames + size (fill f s)))
    (left_spot frames (fill f s))
    → Some_is (Past (filled frames (fill f s)) (place_in (f ∷ frames) + size s)) (left_spot frames (fill f s))
out f frames s h =
    further (filled frames (fill f s)) (place_in (f ∷ frames) + size s) (place_in frames + size (fill f s))
    (omega (arith, place_more f frames, size_more f s))
    (left_spot frames (fill f s)) h

leaves_past : (frames : List Frame) (s : Statement) → Some_is (Past (filled frames s) (place_in frames + size s)) (left_spot frames s)
leaves_past [] s = tt
leaves_past (Before next ∷ frames) s = out (Before next) frames s (leaves_past frames (Then s next))
leaves_past (Behind first ∷ frames) s = out (Behind first) frames s (leaves_past frames (Then first s))
leaves_past (InIf opening end ∷ frames) s = out (InIf opening end) frames s (leaves_past frames (If opening s end))
leaves_past (InThen opening middle other end ∷ frames) s = out (InThen opening middle other end) frames s
    (leaves_past frames (IfElse opening s middle other end))
leaves_past (InElse opening body middle end ∷ frames) s = out (InElse opening body middle end) frames s
    (leaves_past frames (IfElse opening body middle s end))
leaves_past (InLoop opening end ∷ frames) s = (refl, omega (arith, place_more (InLoop opening end) frames, length-append (flattened s) (end ∷ [])))
leaves_past (InSwitch opening end ∷ frames) s =
    (refl, omega (arith, place_more (InSwitch opening end) frames, length-append (flattened s) (end ∷ [])))

labels_past : (test : Instruction → Bool) (frames : List Frame) (s : Statement) → Some_is (Past (filled frames s) (place_in frames))
    (label_spot test frames s)
labels_past test frames Nothing = tt
labels_past test frames (Then first next) =
    let w = filled frames (Then first next) in
    let a = Before next ∷ frames in
    let b = Behind first ∷ frames in
    some_or (Past w (place_in frames)) (label_spot test a first) (label_spot test b next)
    (further w (place_in frames) (place_in a) (omega (arith, place_more (Before next) frames)) (label_spot test a first) (labels_past test a first))
    (further w (place_in frames) (place_in b) (omega (arith, place_more (Behind first) frames)) (label_spot test b next) (labels_past test b next))
labels_past test frames (Plain i) = tt
labels_past test frames (If opening body end) = tt
labels_past test frames (IfElse opening body middle other end) = tt
labels_past test frames (Loop opening body end) = tt
labels_past test frames (Switch opening body end) = tt
labels_past test frames (Label i) = by_test (test i)
  where
    by_test : (b : Bool) → Some_is (Past (filled frames (Label i)) (place_in frames)) (if b then Some (AtEnd frames (Label i)) else None)
    by_test true = (refl, omega arith)
    by_test false = tt

switches_past : (w : ℕ) (frames : List Frame) (opening : Instruction) (body : Statement) (end : Instruction)
    → Some_is (Past (filled frames (Switch opening body end)) (place_in frames)) (switched_spot w frames opening body end)
switches_past w frames opening body end =
    let whole = filled frames (Switch opening body end) in
    let f = InSwitch opening end ∷ frames in
    let l : place_in frames ≤ place_in f = omega (arith, place_more (InSwitch opening end) frames) in
    let rest = Some (AtEnd frames (Switch opening body end)) in
    some_or (Past whole (place_in frames)) (label_spot (is_case_of Base w) f body) (or_spot (label_spot (means Base is_default) f body) rest)
    (further whole (place_in frames) (place_in f) l (label_spot (is_case_of Base w) f body) (labels_past (is_case_of Base w) f body))
    (some_or (Past whole (place_in frames)) (label_spot (means Base is_default) f body) rest
    (further whole (place_in frames) (place_in f) l (label_spot (means Base is_default) f body) (labels_past (means Base is_default) f body))
    (refl, omega arith))

-- TURNS
module _ (p : Shader) (setting : Setting) (registers : Registers) (answers : List ℕ) where
  abbrev k : Context
  k = context p setting registers

  -- where a lane goes from a spot
  abbrev Leads : Bool → Spot → Turn SpotState → Type 0
  Leads back x (Silent to) = (whole_of to.spot ≡ whole_of x) × IsReached back (place_of x) (place_of to.spot)
  Leads back x (Asks e after) = (a : ℕ) → (after a).spot ≡ x
  Leads back x other = ⊤

  leads : (back : Bool) (x : Spot) → goes_back k x ≡ back → (t : Turn SpotState) → Leads back x t → Follows k x t
  leads back x h (Silent to) l = (l.0, subst (λ b. IsReached b (place_of x) (place_of to.spot)) (sym h) l.1)
  leads back x h (Asks e after) l = l
  leads back x h Ends l = tt
  leads back x h (Wrong place rule) l = tt

  goes_up : (x : Spot) (o : Option Spot) → Some_is (UpTo (whole_of x) (place_of x)) o → Leads true x (goes_spot registers o)
  goes_up x None h = tt
  goes_up x (Some y) h = h

  goes_past : (x : Spot) (o : Option Spot) → Some_is (Past (whole_of x) (place_of x)) o → Leads false x (goes_spot registers o)
  goes_past x None h = tt
  goes_past x (Some y) h = h

  plain_leads : (frames : List Frame) (i : Instruction) (m : Meaning) → Leads (back_by k i (Some m)) (AtBegin frames (Plain i))
      (leads_on k frames m i answers)
  plain_leads frames i meaning.Continue = goes_up (AtBegin frames (Plain i)) (renewed_spot frames (Plain i)) (renews_up frames (Plain i))
  plain_leads frames i meaning.ContinueIf = by_test (holds k i)
    where
      by_test : (b : Bool) → Leads b (AtBegin frames (Plain i)) (if b then goes_spot k.registers (renewed_spot frames (Plain i)) else to_spot
          k.registers (AtEnd frames (Plain i)))
      by_test true = goes_up (AtBegin frames (Plain i)) (renewed_spot frames (Plain i)) (renews_up frames (Plain i))
      by_test false = (refl, omega arith)
  plain_leads frames i meaning.Break =
      goes_past (AtBegin frames (Plain i)) (left_spot frames (Plain i))
      (further (filled frames (Plain i)) (place_in frames) (place_in frames + 1) (omega arith) (left_spot frames (Plain i))
      (leaves_past frames (Plain i)))
  plain_leads frames i meaning.BreakIf = by_test (holds k i)
    where
      by_test : (b : Bool) → Leads false (AtBegin frames (Plain i)) (if b then goes_spot k.registers (left_spot frames (Plain i)) else to_spot
          k.registers (AtEnd frames (Plain i)))
      by_test true =
          goes_past (AtBegin frames (Plain i)) (left_spot frames (Plain i))
          (further (filled frames (Plain i)) (place_in frames) (place_in frames + 1) (omega arith) (left_spot frames (Plain i))
          (leaves_past frames (Plain i)))
      by_test false = (refl, omega arith)
  plain_leads frames i meaning.Return = tt
  plain_leads frames i meaning.ReturnIf = by_test (holds k i)
    where
      by_test : (b : Bool) → Leads false (AtBegin frames (Plain i)) (if b then Ends else to_spot k.registers (AtEnd frames (Plain i)))
      by_test true = tt
      by_test false = (refl, omega arith)
  plain_leads frames i m = (refl, omega arith)

  asks_leads : (back : Bool) (x : Spot) (e : Option Event) (way : Turn SpotState) → Leads back x way
      → Leads back x (asks_or (record { spot = x; registers = registers; answers = answers }) e way)
  asks_leads back x None way h = h
  asks_leads back x (Some e) way h = λ a. refl

  plain_follows : (frames : List Frame) (i : Instruction) (m : Option Meaning)
      → Leads (back_by k i m) (AtBegin frames (Plain i))
      (plain_turn k (record { spot = AtBegin frames (Plain i); registers = registers; answers = answers }) frames m i)
  plain_follows frames i None = tt
  plain_follows frames i (Some m) =
      asks_leads (back_by k i (Some m)) (AtBegin frames (Plain i)) (slice_get (made (parts k m i)) (length answers)) (leads_on k frames m i answers)
      (plain_leads frames i m)

  passes_end : (f : Frame) (frames : List Frame) (s : Statement) (i : Instruction) (xs : List Instruction) → after f ≡ i ∷ xs
      → place_in (f ∷ frames) + size s < place_in frames + size (fill f s)
  passes_end f frames s i xs h = omega (arith, place_more f frames, size_more f s, ap length h)

  follows_at : (x : Spot) → Follows k x (turn_in k (record { spot = x; registers = registers; answers = answers }) x)
  follows_at (AtBegin frames Nothing) = tt
  follows_at (AtBegin frames (Then first next)) = tt
  follows_at (AtBegin frames (Plain i)) =
      leads (back_by k i (meaning_of Base i.code)) (AtBegin frames (Plain i)) refl
      (plain_turn k (record { spot = AtBegin frames (Plain i); registers = registers; answers = answers }) frames (meaning_of Base i.code) i)
      (plain_follows frames i (meaning_of Base i.code))
  follows_at (AtBegin frames (Label i)) = (refl, omega arith)
  follows_at (AtBegin frames (If opening body end)) = by_test (holds k opening)
    where
      by_test : (b : Bool) → Follows k (AtBegin frames (If opening body end))
          (if b then to_spot k.registers (AtBegin (InIf opening end ∷ frames) body) else to_spot k.registers (AtEnd frames (If opening body end)))
      by_test true = (refl, omega (arith, place_more (InIf opening end) frames))
      by_test false = (refl, omega arith)
  follows_at (AtBegin frames (IfElse opening body middle other end)) = by_test (holds k opening)
    where
      by_test : (b : Bool) → Follows k (AtBegin frames (IfElse opening body middle other end))
          (if b then to_spot k.registers (AtBegin (InThen opening middle other end ∷ frames) body) else to_spot k.registers
          (AtBegin (InElse opening body middle end ∷ frames) other))
      by_test true = (refl, omega (arith, place_more (InThen opening middle other end) frames))
      by_test false = (refl, omega (arith, place_more (InElse opening body middle end) frames))
  follows_at (AtBegin frames (Loop opening body end)) = (refl, omega (arith, place_more (InLoop opening end) frames))
  follows_at (AtBegin frames (Switch opening body end)) =
      let w = scalar k opening.o0 in
      let x = AtBegin frames (Switch opening body end) in
      leads false x refl (goes_spot registers (switched_spot w frames opening body end))
      (goes_past x (switched_spot w frames opening body end) (switches_past w frames opening body end))
  follows_at (AtEnd [] s) = tt
  follows_at (AtEnd (Before next ∷ frames) s) = tt
  follows_at (AtEnd (Behind first ∷ frames) s) = tt
  follows_at (AtEnd (InIf opening end ∷ frames) s) = (refl, passes_end (InIf opening end) frames s end [] refl)
  follows_at (AtEnd (InThen opening middle other end ∷ frames) s) = (
    refl,
    passes_end (InThen opening middle other end) frames s middle
        (flattened other ++ end ∷ []) refl,
  )
  follows_at (AtEnd (InElse opening body middle end ∷ frames) s) = (refl, passes_end (InElse opening body middle end) frames s end [] refl)
  follows_at (AtEnd (InLoop opening end ∷ frames) s) = (refl, omega arith)
  follows_at (AtEnd (InSwitch opening end ∷ frames) s) = (refl, passes_end (InSwitch opening end) frames s end [] refl)

pub follows : (p : Shader) (setting : Setting) (x : SpotState) → Follows (context p setting x.registers) x.spot (spot_step p setting x)
follows p setting x = follows_at p setting x.registers x.answers x.spot
