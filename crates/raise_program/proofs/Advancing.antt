-- The lane of a raised tree goes on where the lane of the program goes on by control flow.
use Rattle.std.proofs.Common.{◌≡◌, ℕ, zero, suc, ◌+◌, Bool, true, false, List, [], ◌∷◌, Option, Some, None, refl, sym, ap, subst}
use Rattle.std.specs.Prelude.{if◌then◌else◌, is_some}
use Rattle.word_base.specs.Lanes.{Turn, Silent, Asks, Ends, Wrong, Goes}
use Rattle.word_base.specs.Registers.{Registers}
use Rattle.word_base.specs.Settings.{Setting}
use Rattle.tpf_decode.specs.Profiles.{Base}
use Rattle.tpf_program.specs.declared.instruction.Instruction.{Instruction}
use Rattle.tpf_program.specs.Bytecode.{holds}
use Rattle.tpf_program.specs.Ends.{means, is_default}
use Rattle.tpf_program.specs.Program.{Shader}
use Rattle.tpf_program.specs.Values.{Context, context, scalar}
use Rattle.shader_tree.specs.Chains.{Link, Run, Again, push, switched}
use Rattle.shader_tree.specs.Lane.{State, state, step, on_truth, on_word, on_some}
use Rattle.shader_tree.specs.Terms.{Term}
use Rattle.shader_tree.specs.Terms as term
use Rattle.shader_tree.specs.Values.{Spaces, words}
use Rattle.shader_check.specs.Statements.{Statement, Nothing, Then, Plain, If, IfElse, Loop, Switch, Label, IsNested, stands}
use Rattle.raise_program.specs.Spots.{Frame, Before, Behind, InIf, InThen, InElse, InLoop, InSwitch, filled, where_in}
use Rattle.raise_program.specs.SpotLane.{Spot, AtBegin, AtEnd, whole_of, moved, SpotState, to_spot, goes_spot, left_spot, renewed_spot, switched_spot, plain_turn, back_by, turn_in, spot_step}
use Rattle.raise_program.specs.Raised.{Parts, AreUnmarked, alone, raised, links, chain_of, chain_of_any}
use Rattle.raise_program.specs.Advances.{scalar_of, scalar_at, leads_away, is_control, turned, Serves, Comes, Advances}
use Rattle.raise_program.proofs.Frames.{stood}
use Rattle.raise_program.proofs.SameSteps.{is_spot}
use Rattle.raise_program.proofs.Chained.{left_chained, renewed_chained, switch_chained}
use Rattle.raise_program.proofs.Leaving.{some_left, some_renewed}
use Rattle.raise_program.proofs.Around.{Stands}
use Rattle.tpf_decode.specs.Opcodes.{meaning_of}
use Rattle.tpf_decode.specs.declared.meaning.Meaning.{Meaning}
use Rattle.tpf_decode.specs.declared.meaning.Meaning.TheVariants as meaning

pub record Gone {S : Type 0} (step : S → Turn S) (s t : S) : Type 0 where
  pub n : ℕ
  pub goes : Goes step n s t

joined : {S : Type 0} (step : S → Turn S) (n : ℕ) (s t : S) (m : ℕ) (u : S) → Goes step n s t → Goes step m t u → Gone step s u
joined step zero s t m u g h = record { n = m; goes = subst (λ x. Goes step m x u) (sym g) h }
joined step (suc n) s t m u g h = let r = joined step n g.0 t m u g.2 h in record { n = suc r.n; goes = (g.0, g.1, r.goes) }

module _ (p : Shader) (nested : IsNested p) (g : Spaces) (setting : Setting) (parts : Parts) (unmarked : AreUnmarked p.instructions parts) (last : List Link)
    (r : Registers) (scratch : ℕ → ℕ) (turns : ℕ)
    (answers : List ℕ) where
  abbrev k : Context
  k = context p setting r

  abbrev To : State → Bool → Turn SpotState → Type 0
  To from back turn = Comes p g setting parts last turns from back turn

  abbrev On : Spot → Turn SpotState → Type 0
  On x turn = Advances p g setting parts last r scratch turns x turn

  abbrev Served : Instruction → Type 0
  Served i = Serves p g setting parts r i

  abbrev at : List Link → (ℕ → ℕ) → State
  at chain left = state chain (words left r) turns

  later : (n : ℕ) (s t : State) → Goes (step g setting) n s t → (back : Bool) (turn : Turn SpotState) → To t back turn → To s back turn
  later n s t h back (Silent to) c = let j = joined (step g setting) n s t c.0 (state (chain_of parts last to.spot) (words c.1 to.registers)
      (turned back turns)) h c.2 in (j.n, c.1, j.goes)
  later n s t h back Ends c = let j = joined (step g setting) n s t c.0 c.1 h c.2 in (j.n, c.1, j.goes, c.3, c.4)
  later n s t h back (Asks e after) c = c
  later n s t h back (Wrong place rule) c = c

  next : (s t : State) → step g setting s ≡ Silent t → (back : Bool) (turn : Turn SpotState) → To t back turn → To s back turn
  next s t h back turn c = later 1 s t (t, h, refl) back turn c

  -- to a spot, at once
  here : (left : ℕ → ℕ) (y : Spot) → To (at (chain_of parts last y) left) false (to_spot r y)
  here left y = (0, left, refl)

  -- a guard behind its front, and a choice
  guarded : (i : Instruction) (body : Term) (c : List Link) (back : Bool → Bool) (turn : Bool → Turn SpotState) → Served i
      → ((left : ℕ → ℕ) (b : Bool) → To (at (if b then push body c else c) left) (back b) (turn b))
      → To (at (push (term.Then (parts.front i) (term.Guard (parts.truth i) body)) c) scratch) (back (holds k i)) (turn (holds k i))
  guarded i body c back turn s h =
      let l = s.leads (Run (term.Guard (parts.truth i) body) ∷ c) scratch turns in
      later l.0 _ (at (Run (term.Guard (parts.truth i) body) ∷ c) l.1) l.2 (back (holds k i)) (turn (holds k i))
      (next (at (Run (term.Guard (parts.truth i) body) ∷ c) l.1) (at (if holds k i then push body c else c) l.1)
      (ap (λ v. on_truth v (λ b. Silent (at (if b then push body c else c) l.1))) l.3) (back (holds k i)) (turn (holds k i)) (h l.1 (holds k i)))

  chosen : (i : Instruction) (x y : Term) (c : List Link) (turn : Bool → Turn SpotState) → Served i
      → ((left : ℕ → ℕ) (b : Bool) → To (at (if b then push x c else push y c) left) false (turn b))
      → To (at (push (term.Then (parts.front i) (term.If (parts.truth i) x y)) c) scratch) false (turn (holds k i))
  chosen i x y c turn s h =
      let l = s.leads (Run (term.If (parts.truth i) x y) ∷ c) scratch turns in
      later l.0 _ (at (Run (term.If (parts.truth i) x y) ∷ c) l.1) l.2 false (turn (holds k i))
      (next (at (Run (term.If (parts.truth i) x y) ∷ c) l.1) (at (if holds k i then push x c else push y c) l.1)
      (ap (λ v. on_truth v (λ b. Silent (at (if b then push x c else push y c) l.1))) l.3) false (turn (holds k i)) (h l.1 (holds k i)))

  -- A LABEL
  label_on : (frames : List Frame) (i : Instruction) → On (AtBegin frames (Label i)) (to_spot r (AtEnd frames (Label i)))
  label_on frames i = by_test (means Base is_default i)
    where
      by_test : (b : Bool) → To
          (at (push (if b then term.Default term.Nothing else term.Case i.o0.x term.Nothing) (links parts last frames (Label i))) scratch) false
          (to_spot r (AtEnd frames (Label i)))
      by_test true = (1, scratch, (at (links parts last frames (Label i)) scratch, refl, refl))
      by_test false = (1, scratch, (at (links parts last frames (Label i)) scratch, refl, refl))

  -- A CONSTRUCT
  if_on : (frames : List Frame) (opening : Instruction) (body : Statement) (end : Instruction) → Served opening
      → On (AtBegin frames (If opening body end)) (if holds k opening then to_spot r (AtBegin (InIf opening end ∷ frames) body) else to_spot r
      (AtEnd frames (If opening body end)))
  if_on frames opening body end s =
      guarded opening (raised parts body) (links parts last frames (If opening body end)) (λ b. false)
      (λ b. if b then to_spot r (AtBegin (InIf opening end ∷ frames) body) else to_spot r (AtEnd frames (If opening body end))) s by_test
    where
      by_test : (left : ℕ → ℕ) (b : Bool)
          → To (at (if b then push (raised parts body) (links parts last frames (If opening body end)) else links parts last frames
          (If opening body end)) left) false
          (if b then to_spot r (AtBegin (InIf opening end ∷ frames) body) else to_spot r (AtEnd frames (If opening body end)))
      by_test left true = here left (AtBegin (InIf opening end ∷ frames) body)
      by_test left false = here left (AtEnd frames (If opening body end))

  choice_on : (frames : List Frame) (opening : Instruction) (body : Statement) (middle : Instruction) (other : Statement) (end : Instruction)
      → Served opening
      → On (AtBegin frames (IfElse opening body middle other end))
      (if holds k opening then to_spot r (AtBegin (InThen opening middle other end ∷ frames) body) else to_spot r
      (AtBegin (InElse opening body middle end ∷ frames) other))
  choice_on frames opening body middle other end s =
      chosen opening (raised parts body) (raised parts other) (links parts last frames (IfElse opening body middle other end))
      (λ b. if b then to_spot r (AtBegin (InThen opening middle other end ∷ frames) body) else to_spot r
      (AtBegin (InElse opening body middle end ∷ frames) other)) s by_test
    where
      by_test : (left : ℕ → ℕ) (b : Bool)
          → To (at (if b then push (raised parts body) (links parts last frames (IfElse opening body middle other end)) else push (raised parts other)
          (links parts last frames (IfElse opening body middle other end))) left) false
          (if b then to_spot r (AtBegin (InThen opening middle other end ∷ frames) body) else to_spot r
          (AtBegin (InElse opening body middle end ∷ frames) other))
      by_test left true = here left (AtBegin (InThen opening middle other end ∷ frames) body)
      by_test left false = here left (AtBegin (InElse opening body middle end ∷ frames) other)

  same : (a b : List Link) → Some a ≡ Some b → a ≡ b
  same a b h = cc

  by_spot : (left : ℕ → ℕ) (chain : List Link) (o : Option Spot) → Some chain ≡ chain_of_any parts last o → To (at chain left) false (goes_spot r o)
  by_spot left chain None h = absurd (cc)
  by_spot left chain (Some y) h = subst (λ c. To (at c left) false (to_spot r y)) (sym (same chain (chain_of parts last y) h)) (here left y)

  stood_at : (frames : List Frame) (s : Statement) → filled frames s ≡ nested.front → Stands p.instructions frames s
  stood_at frames s whole = stood p.instructions frames s (is_spot p nested frames s whole) frames s refl

  switch_on : (frames : List Frame) (opening : Instruction) (body : Statement) (end : Instruction) → filled frames (Switch opening body end) ≡
      nested.front → Served opening
      → On (AtBegin frames (Switch opening body end)) (goes_spot r (switched_spot (scalar k opening.o0) frames opening body end))
  switch_on frames opening body end whole s =
      let c = links parts last frames (Switch opening body end) in
      let w = scalar k opening.o0 in
      let l = s.leads (Run (term.Switch (parts.word opening) (raised parts body)) ∷ c) scratch turns in
      let turn = goes_spot r (switched_spot w frames opening body end) in
      later l.0 _ (at (Run (term.Switch (parts.word opening) (raised parts body)) ∷ c) l.1) l.2 false turn
      (next (at (Run (term.Switch (parts.word opening) (raised parts body)) ∷ c) l.1) (at (switched w (raised parts body) c) l.1)
      (ap (λ v. on_word v (λ w. Silent (at (switched w (raised parts body) c) l.1))) l.4) false turn
      (by_spot l.1 (switched w (raised parts body) c) (switched_spot w frames opening body end)
      (switch_chained parts last p.instructions unmarked w frames opening body end
      (stood p.instructions frames (Switch opening body end) (is_spot p nested frames (Switch opening body end) whole)))))

  -- A BREAK, A CONTINUE
  break_on : (frames : List Frame) (s : Statement) (left : ℕ → ℕ) → (where_in frames).leaves ≡ true
      → To (at (Run term.Break ∷ links parts last frames s) left) false (goes_spot r (left_spot frames s))
  break_on frames s left h = by_option (left_spot frames s) refl (some_left frames s h)
    where
      by_option : (o : Option Spot) → left_spot frames s ≡ o → is_some o ≡ true → To (at (Run term.Break ∷ links parts last frames s) left) false
          (goes_spot r o)
      by_option None e t = absurd (cc)
      by_option (Some y) e t =
          next (at (Run term.Break ∷ links parts last frames s) left) (at (chain_of parts last y) left)
          (ap (λ o. on_some o (λ chain. Silent (at chain left))) (left_chained parts last frames s y e)) false (to_spot r y) (here left y)

  continue_on : (frames : List Frame) (s : Statement) (left : ℕ → ℕ) → (where_in frames).loops ≡ true
      → To (at (Run term.Continue ∷ links parts last frames s) left) true (goes_spot r (renewed_spot frames s))
  continue_on frames s left h = by_option (renewed_spot frames s) refl (some_renewed frames s h)
    where
      by_option : (o : Option Spot) → renewed_spot frames s ≡ o → is_some o ≡ true → To (at (Run term.Continue ∷ links parts last frames s) left) true
          (goes_spot r o)
      by_option None e t = absurd (cc)
      by_option (Some y) e t =
          let w = renewed_chained parts last frames s y e in
          let anew = state (push w.body (Again w.body ∷ w.k)) (words left r) (turns + 1) in
          next (at (Run term.Continue ∷ links parts last frames s) left) (at (Again w.body ∷ w.k) left)
          (ap (λ o. on_some o (λ chain. Silent (at chain left))) w.found) true (to_spot r y)
          (next (at (Again w.body ∷ w.k) left) anew refl true (to_spot r y) (0, left, ap (λ c. state c (words left r) (turns + 1)) (sym w.anew)))

  leap_on : (frames : List Frame) (i : Instruction) (m : Option Meaning) → leads_away m ≡ true → stands (where_in frames) m ≡ true
      → ((j : Instruction) → scalar_of m i ≡ Some j → Served j)
      → To (at (push (alone parts m i) (links parts last frames (Plain i))) scratch) (back_by k i m)
      (plain_turn k (record { spot = AtBegin frames (Plain i); registers = r; answers = answers }) frames m i)
  leap_on frames i None a h s = absurd (cc)
  leap_on frames i (Some meaning.Break) a h s = break_on frames (Plain i) scratch h
  leap_on frames i (Some meaning.Continue) a h s = continue_on frames (Plain i) scratch h
  leap_on frames i (Some meaning.Return) a h s = (0, at (Run term.Return ∷ links parts last frames (Plain i)) scratch, refl, refl, refl)
  leap_on frames i (Some meaning.BreakIf) a h s =
      guarded i term.Break (links parts last frames (Plain i)) (λ b. false) (λ b. if b then goes_spot r (left_spot frames (Plain i)) else to_spot r
      (AtEnd frames (Plain i))) (s i refl) by_test
    where
      by_test : (left : ℕ → ℕ) (b : Bool)
          → To (at (if b then Run term.Break ∷ links parts last frames (Plain i) else links parts last frames (Plain i)) left) false
          (if b then goes_spot r (left_spot frames (Plain i)) else to_spot r (AtEnd frames (Plain i)))
      by_test left true = break_on frames (Plain i) left h
      by_test left false = here left (AtEnd frames (Plain i))
  leap_on frames i (Some meaning.ContinueIf) a h s =
      guarded i term.Continue (links parts last frames (Plain i)) (λ b. b) (λ b. if b then goes_spot r (renewed_spot frames (Plain i)) else to_spot r
      (AtEnd frames (Plain i))) (s i refl) by_test
    where
      by_test : (left : ℕ → ℕ) (b : Bool)
          → To (at (if b then Run term.Continue ∷ links parts last frames (Plain i) else links parts last frames (Plain i)) left) b
          (if b then goes_spot r (renewed_spot frames (Plain i)) else to_spot r (AtEnd frames (Plain i)))
      by_test left true = continue_on frames (Plain i) left h
      by_test left false = here left (AtEnd frames (Plain i))
  leap_on frames i (Some meaning.ReturnIf) a h s =
      guarded i term.Return (links parts last frames (Plain i)) (λ b. false) (λ b. if b then Ends else to_spot r (AtEnd frames (Plain i)))
      (s i refl) by_test
    where
      by_test : (left : ℕ → ℕ) (b : Bool)
          → To (at (if b then Run term.Return ∷ links parts last frames (Plain i) else links parts last frames (Plain i)) left) false
          (if b then Ends else to_spot r (AtEnd frames (Plain i)))
      by_test left true = (0, at (Run term.Return ∷ links parts last frames (Plain i)) left, refl, refl, refl)
      by_test left false = here left (AtEnd frames (Plain i))
  leap_on frames i (Some m) a h s = absurd (cc)

  advances_at : (x : Spot) → is_control x ≡ true → moved x ≡ None → whole_of x ≡ nested.front → ((i : Instruction) → scalar_at x ≡ Some i → Served i)
      → On x (turn_in k (record { spot = x; registers = r; answers = answers }) x)
  advances_at (AtBegin frames Nothing) h m w s = absurd (cc)
  advances_at (AtBegin frames (Then first next)) h m w s = absurd (cc)
  advances_at (AtBegin frames (Plain i)) h m w s = leap_on frames i (meaning_of Base i.code) h (stood_at frames (Plain i) w).sound s
  advances_at (AtBegin frames (Label i)) h m w s = label_on frames i
  advances_at (AtBegin frames (If opening body end)) h m w s = if_on frames opening body end (s opening refl)
  advances_at (AtBegin frames (IfElse opening body middle other end)) h m w s = choice_on frames opening body middle other end (s opening refl)
  advances_at (AtBegin frames (Loop opening body end)) h m w s =
      (1, scratch, (at (push (raised parts body) (Again (raised parts body) ∷ links parts last frames (Loop opening body end))) scratch, refl, refl))
  advances_at (AtBegin frames (Switch opening body end)) h m w s = switch_on frames opening body end w (s opening refl)
  advances_at (AtEnd [] s') h m w s = absurd (cc)
  advances_at (AtEnd (Before next ∷ frames) s') h m w s = absurd (cc)
  advances_at (AtEnd (Behind first ∷ frames) s') h m w s = absurd (cc)
  advances_at (AtEnd (InIf opening end ∷ frames) s') h m w s = (0, scratch, refl)
  advances_at (AtEnd (InThen opening middle other end ∷ frames) s') h m w s = (0, scratch, refl)
  advances_at (AtEnd (InElse opening body middle end ∷ frames) s') h m w s = (0, scratch, refl)
  advances_at (AtEnd (InLoop opening end ∷ frames) s') h m w s = (
    1,
    scratch,
    (
      state (push (raised parts s') (Again (raised parts s') ∷ links parts last frames (Loop opening s' end))) (words scratch r)
          (turns + 1),
      refl,
      refl,
    ),
  )
  advances_at (AtEnd (InSwitch opening end ∷ frames) s') h m w s =
      (1, scratch, (at (links parts last frames (Switch opening s' end)) scratch, refl, refl))

pub advances : (p : Shader) (nested : IsNested p) (g : Spaces) (setting : Setting) (parts : Parts) (unmarked : AreUnmarked p.instructions parts) (last : List Link)
    (x : SpotState) (scratch : ℕ → ℕ) (turns : ℕ)
    → is_control x.spot ≡ true → moved x.spot ≡ None → whole_of x.spot ≡ nested.front
    → ((i : Instruction) → scalar_at x.spot ≡ Some i → Serves p g setting parts x.registers i)
    → Advances p g setting parts last x.registers scratch turns x.spot (spot_step p setting x)
advances p nested g setting parts unmarked last x scratch turns h m w s =
    advances_at p nested g setting parts unmarked last x.registers scratch turns x.answers x.spot h m w s
