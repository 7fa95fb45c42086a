-- The lane of a program and that of its raised tree, side by side: at control flow, through the middle of plans, and at
-- the end.
use Rattle.std.proofs.Common.{◌≡◌, ℕ, zero, suc, ◌+◌, ◌-◌, ◌<◌, ◌^◌, ◌⊎◌, inl, inr, Bool, true, false, List, [], ◌∷◌, ◌++◌, length, Option, Some, None, refl, sym, ap, ◌∙◌, subst, arith, append_assoc, append-nil, length-append}
use Rattle.std.specs.Prelude.{slice_get, nat_le, if◌then◌else◌}
use Rattle.std.proofs.lemmas.Bool.Decides.{nat_tests}
use Rattle.std.proofs.lemmas.Option.{slice_get_past}
use Rattle.word_base.specs.declared.event.Event.{Event}
use Rattle.word_base.specs.Lanes.{Turn, Silent, Asks, Ends, Wrong, Goes, Makes, SameLanes}
use Rattle.word_base.specs.Registers.{Registers, zeros}
use Rattle.word_base.specs.Settings.{Setting}
use Rattle.word_base.specs.Words.{AreWords}
use Rattle.tpf_decode.specs.Profiles.{Base}
use Rattle.tpf_decode.specs.Opcodes.{meaning_of}
use Rattle.tpf_decode.specs.declared.meaning.Meaning.{Meaning}
use Rattle.tpf_decode.specs.declared.meaning.Meaning.TheVariants as meaning
use Rattle.tpf_program.specs.declared.instruction.Instruction.{Instruction}
use Rattle.tpf_program.specs.Bytecode as bytecode
use Rattle.tpf_program.specs.Bytecode.{plan, plan_by, result, result_by}
use Rattle.tpf_program.specs.Holding.{HoldWords}
use Rattle.tpf_program.specs.Program.{Shader}
use Rattle.tpf_program.specs.Values.{context}
use Rattle.shader_check.specs.Statements.{Statement, Nothing, Then, Plain, If, IfElse, Loop, Switch, Label, IsNested, flattened}
use Rattle.shader_tree.specs.Chains.{Link, push}
use Rattle.shader_tree.specs.Lane.{State, state, step}
use Rattle.shader_tree.specs.Lane as tree
use Rattle.shader_tree.specs.Plans.{Plans, Left, Performs}
use Rattle.shader_tree.specs.Values.{Spaces, words}
use Rattle.word_base.specs.Counted.{Counted, at_count, with_count, counted}
use Rattle.raise_program.specs.GoingBack.{times_back}
use Rattle.raise_program.specs.Spots.{Frame, Before, Behind, InIf, InThen, InElse, InLoop, InSwitch, filled, in_front, behind, place_in, size, where_in}
use Rattle.raise_program.specs.SpotLane.{Spot, AtBegin, AtEnd, SpotState, Follows, IsReached, asks_or, at_place, goes_back, in_list, moved, place_of, spot_step, to_spot, whole_of, plain_turn, turn_in}
use Rattle.raise_program.specs.Raised.{AreUnmarked, Parts, chain_of, goes_on, links, raised}
use Rattle.raise_program.specs.Advances.{Comes, Serves, is_control, leads_away, scalar_at, scalar_of, turned}
use Rattle.raise_program.proofs.Advancing.{advances}
use Rattle.raise_program.proofs.Around.{filled_flat}
use Rattle.raise_program.proofs.Following.{follows}
use Rattle.raise_program.proofs.Frames.{Stood as Standing, stood, stands}
use Rattle.raise_program.proofs.Moves.{settles}
use Rattle.raise_program.proofs.Places.{get_at}
use Rattle.raise_program.proofs.SameSteps.{is_spot, same_step}
use Rattle.raise_program.proofs.Settled.{stays}
use Rattle.raise_program.proofs.Rising.{asks_rises, goes_rises, plan_rises}
use Rattle.word_base.proofs.Simulation.{Followed, related, same_lanes}
use Rattle.raise_program.proofs.Steady.{Keeps, control_keeps, plain_alone, plain_goes, plain_on}

-- an instruction of the program
abbrev pub IsIn : Shader → Instruction → Type 0
IsIn p i = (n : ℕ) × (slice_get p.instructions n ≡ Some i)

-- WHAT THE PARTS OWE for the instructions of a program under a setting: a scalar and its test stand behind what is in
-- front of them, an instruction that goes on to the next makes its events, and registers go on holding words.
pub record Raising (p : Shader) (g : Spaces) (setting : Setting) (parts : Parts) : Type 0 where
  pub unmarked : AreUnmarked p.instructions parts
  pub serves : (r : Registers) (i : Instruction) → HoldWords r → IsIn p i → Serves p g setting parts r i
  pub performs :
      (r : Registers) (i : Instruction) → HoldWords r → IsIn p i → goes_on (meaning_of Base i.code) ≡ true
      → Performs g setting (parts.plain i) r (plan Base p setting r i) (λ answers. result Base p setting r i answers)
  pub keeps :
      (r : Registers) (i : Instruction) (answers : List ℕ) → HoldWords r → IsIn p i → AreWords answers
      → HoldWords (result Base p setting r i answers)

same_one : (i j : Instruction) → Some i ≡ Some j → i ≡ j
same_one i j h = cc

one_more : (words : List ℕ) (w : ℕ) → AreWords words → w < 2 ^ 32 → AreWords (words ++ w ∷ [])
one_more [] w h l zero = l
one_more [] w h l (suc k) = omega arith
one_more (v ∷ words) w h l zero = h 0
one_more (v ∷ words) w h l (suc k) = one_more words w (λ n. h (suc n)) l k

seam : {X : Type 0} (before : List X) (x : X) (rest : List X) → slice_get (before ++ x ∷ rest) (length before) ≡ Some x
seam [] x rest = refl
seam (y ∷ before) x rest = seam before x rest

weaker : {S : Type 0} (step : S → Turn S) (es : List Event) (s : S) (P Q : List ℕ → S → Type 0)
    → ((answers : List ℕ) (t : S) → P answers t → Q answers t) → Plans step s es P → Plans step s es Q
weaker step [] s P Q f m = (m.0, m.1, m.2, f [] m.1 m.3)
weaker step (e ∷ es) s P Q f m = (
  m.0,
  m.1,
  m.2,
  m.3,
  m.4,
  λ a lt. weaker step es (m.2 a) (λ answers t. P (a ∷ answers) t) (λ answers t. Q (a ∷ answers) t)
      (λ answers t h. f (a ∷ answers) t h) (m.5 a lt),
)

module _ (p : Shader) (nested : IsNested p) (g : Spaces) (setting : Setting) (parts : Parts) (raising : Raising p g setting parts) where
  abbrev right : State → Turn State
  right t = step g setting t

  abbrev left : Counted bytecode.State → Turn (Counted bytecode.State)
  left c = counted (bytecode.step Base p setting) times_back c

  abbrev chain : Spot → List Link
  chain y = chain_of parts [] y

  -- In an instruction that goes on: the rest of its plan is what the tree's lane makes next, and then it is behind the
  -- instruction's statement.
  record InPlan (x : SpotState) (count : ℕ) (t : State) : Type 0 where
    frames : List Frame
    i : Instruction
    here : x.spot ≡ AtBegin frames (Plain i)
    goes : leads_away (meaning_of Base i.code) ≡ false
    done : List Event
    rest : List Event
    split : plan Base p setting x.registers i ≡ done ++ rest
    counts : length x.answers ≡ length done
    answered : AreWords x.answers
    makes :
        Plans right t rest
        (λ answers u. Left (links parts [] frames (Plain i)) (result Base p setting x.registers i (x.answers ++ answers)) count u)

  record InFront (x : SpotState) (count : ℕ) (t : State) : Type 0 where
    control : is_control x.spot ≡ true
    there : Left (chain x.spot) x.registers count t

  record AtLast (x : SpotState) (t : State) : Type 0 where
    whole : Statement
    here : x.spot ≡ AtEnd [] whole
    none : t.chain ≡ []

  abbrev Stood : SpotState → ℕ → State → Type 0
  Stood x count t = InPlan x count t ⊎ (InFront x count t ⊎ AtLast x t)

  pub record Same (c : Counted bytecode.State) (t : State) : Type 0 where
    x : SpotState
    here : at_place x ≡ c.state
    settled : moved x.spot ≡ None
    whole : whole_of x.spot ≡ nested.front
    registers : HoldWords x.registers
    stood : Stood x c.count t
    pub turns : c.count ≡ t.turns

  abbrev measure : Counted bytecode.State → ℕ
  measure c = length p.instructions - c.state.place

  -- AT A SPOT where an instruction stands
  abbrev start_at : Spot → Registers → SpotState
  start_at y r = record { spot = y; registers = r; answers = [] }

  same_state : (k : List Link) (r : Registers) (n : ℕ) (t : State) → Left k r n t → state k (words t.words.scratch r) n ≡ t
  same_state k r n t h =
      let scratch = t.words.scratch in
      ap (λ c. state c (words scratch r) n) (sym h.chain)
      ∙ (ap (λ q. state t.chain (words scratch q) n) (sym h.registers) ∙ ap (λ m. state t.chain t.words m) (sym h.turns))

  stood_at : (frames : List Frame) (s : Statement) → filled frames s ≡ nested.front → Standing p.instructions frames s
  stood_at frames s w = stood p.instructions frames s (is_spot p nested frames s w)

  first_in : (frames : List Frame) (s : Statement) (i : Instruction) (rest : List Instruction) → flattened s ≡ i ∷ rest
      → filled frames s ≡ nested.front → IsIn p i
  first_in frames s i rest e w =
      let k = stands p.instructions frames s (stood_at frames s w) in
      (place_in frames + 0, get_at p.instructions (place_in frames) (flattened s) 0 i k.here (ap (λ l. slice_get l 0) e))

  in_program : (frames : List Frame) (i : Instruction) → filled frames (Plain i) ≡ nested.front → IsIn p i
  in_program frames i w = first_in frames (Plain i) i [] refl w

  on_at : (frames : List Frame) (i : Instruction) → filled frames (Plain i) ≡ nested.front → leads_away (meaning_of Base i.code) ≡ false
      → goes_on (meaning_of Base i.code) ≡ true
  on_at frames i w e =
      plain_on (where_in frames) (meaning_of Base i.code) (stands p.instructions frames (Plain i) (stood_at frames (Plain i) w)).sound e

  plain_begins : (frames : List Frame) (i : Instruction) (r : Registers) (n : ℕ) (t : State) (b : Bool)
      → leads_away (meaning_of Base i.code) ≡ b → filled frames (Plain i) ≡ nested.front → HoldWords r
      → Left (chain (AtBegin frames (Plain i))) r n t → Stood (start_at (AtBegin frames (Plain i)) r) n t
  plain_begins frames i r n t true e w h l = inr (inl (record { control = e; there = l }))
  plain_begins frames i r n t false e w h l =
      let k = links parts [] frames (Plain i) in
      let chain_is = ap (λ a. push a k) (plain_alone parts i (meaning_of Base i.code) e) in
      let at : state (push (parts.plain i) k) (words t.words.scratch r) n ≡ t =
      ap (λ c. state c (words t.words.scratch r) n) (sym chain_is) ∙ same_state _ r n t l in
      inl (record {
        frames = frames;
        i = i;
        here = refl;
        goes = e;
        done = [];
        rest = plan Base p setting r i;
        split = refl;
        counts = refl;
        answered = λ j. omega arith;
        makes = subst (λ u. Plans right u (plan Base p setting r i) (λ answers v. Left k (result Base p setting r i answers) n v)) at
            (raising.performs r i h (in_program frames i w) (on_at frames i w e) k t.words.scratch n);
      })

  begins : (y : Spot) (r : Registers) (n : ℕ) (t : State) → moved y ≡ None → whole_of y ≡ nested.front → HoldWords r
      → Left (chain y) r n t → Stood (start_at y r) n t
  begins (AtBegin frames Nothing) r n t m w h l = absurd (cc)
  begins (AtBegin frames (Then first next)) r n t m w h l = absurd (cc)
  begins (AtBegin frames (Plain i)) r n t m w h l =
      plain_begins frames i r n t (leads_away (meaning_of Base i.code)) refl w h l
  begins (AtBegin frames (Label i)) r n t m w h l = inr (inl (record { control = refl; there = l }))
  begins (AtBegin frames (If opening body end)) r n t m w h l = inr (inl (record { control = refl; there = l }))
  begins (AtBegin frames (IfElse opening body middle other end)) r n t m w h l = inr (inl (record { control = refl; there = l }))
  begins (AtBegin frames (Loop opening body end)) r n t m w h l = inr (inl (record { control = refl; there = l }))
  begins (AtBegin frames (Switch opening body end)) r n t m w h l = inr (inl (record { control = refl; there = l }))
  begins (AtEnd [] s) r n t m w h l = inr (inr (record { whole = s; here = refl; none = l.chain }))
  begins (AtEnd (Before next ∷ frames) s) r n t m w h l = absurd (cc)
  begins (AtEnd (Behind first ∷ frames) s) r n t m w h l = absurd (cc)
  begins (AtEnd (InIf opening end ∷ frames) s) r n t m w h l = inr (inl (record { control = refl; there = l }))
  begins (AtEnd (InThen opening middle other end ∷ frames) s) r n t m w h l = inr (inl (record { control = refl; there = l }))
  begins (AtEnd (InElse opening body middle end ∷ frames) s) r n t m w h l = inr (inl (record { control = refl; there = l }))
  begins (AtEnd (InLoop opening end ∷ frames) s) r n t m w h l = inr (inl (record { control = refl; there = l }))
  begins (AtEnd (InSwitch opening end ∷ frames) s) r n t m w h l = inr (inl (record { control = refl; there = l }))

  -- from any spot moves lead there
  pub comes : (y : Spot) (r : Registers) (n : ℕ) (t : State) → whole_of y ≡ nested.front → HoldWords r → Left (chain y) r n t
      → Same (at_count (at_place (start_at y r)) n) t
  comes y r n t w h l =
      let s = settles y in
      let k = stays parts [] s.n y s.to s.moves in
      record {
        x = start_at s.to r;
        here = ap (λ q. record { place = q; registers = r; answers = [] }) k.place;
        settled = s.settled;
        whole = k.whole ∙ w;
        registers = h;
        stood = begins s.to r n t s.settled (k.whole ∙ w) h (subst (λ c. Left c r n t) (sym k.chain) l);
        turns = sym l.turns;
      }

  -- TURNS. At the ends the counts are equal.
  abbrev Ended : Counted bytecode.State → State → Type 0
  Ended c t = c.count ≡ t.turns

  abbrev Owes : SpotState → ℕ → Turn SpotState → State → Type 0
  Owes x n turn t =
      Followed right Same Ended measure (at_count (at_place x) n) (with_count times_back (at_place x) n (in_list turn)) t

  all_of : length p.instructions ≡ size nested.front + 1
  all_of = ap length nested.flat ∙ length-append (flattened nested.front) (nested.last ∷ [])

  fits : (frames : List Frame) (s : Statement) → filled frames s ≡ nested.front → place_in frames + size s < length p.instructions
  fits frames s w =
      let e = ap length (filled_flat frames s) in
      let d = length-append (in_front frames) (flattened s ++ behind frames) in
      let c = length-append (flattened s) (behind frames) in
      omega (arith, all_of, ap size w, e, d, c)

  inside : (y : Spot) → whole_of y ≡ nested.front → place_of y < length p.instructions
  inside (AtBegin frames s) w = omega (arith, fits frames s w)
  inside (AtEnd frames s) w = fits frames s w

  counted_back : (from to : bytecode.State) (n : ℕ) (back : Bool) → IsReached back from.place to.place
      → n + times_back from to ≡ turned back n
  counted_back from to n true h =
      let e : nat_le to.place from.place ≡ true = grind (arith, nat_tests, h) in
      ap (λ b. n + (if b then 1 else 0)) e
  counted_back from to n false h =
      let e : nat_le to.place from.place ≡ false = grind (arith, nat_tests, h) in
      ap (λ b. n + (if b then 1 else 0)) e ∙ (omega arith)

  abbrev Falls : SpotState → SpotState → ℕ → Type 0
  Falls x to m = (0 < m) ⊎ (length p.instructions - place_of to.spot < length p.instructions - place_of x.spot)

  -- a loop is begun anew by a step, and elsewhere the place rises
  falls : (x to : SpotState) (n m : ℕ) (t u : State) (back : Bool) → IsReached back (place_of x.spot) (place_of to.spot)
      → whole_of x.spot ≡ nested.front → t.turns ≡ n → u.turns ≡ turned back n → Goes right m t u → Falls x to m
  falls x to n zero t u true h w a b k = absurd (omega (arith, a, b, ap (λ s. s.turns) k))
  falls x to n (suc m) t u true h w a b k = inl (omega arith)
  falls x to n m t u false h w a b k = inr (omega (arith, h, inside x.spot w))

  -- CONTROL FLOW
  on_turn : (x : SpotState) (n : ℕ) (t : State) (turn : Turn SpotState) → whole_of x.spot ≡ nested.front → HoldWords x.registers → t.turns ≡ n
      → Follows (context p setting x.registers) x.spot turn → Keeps x.registers turn
      → Comes p g setting parts [] n t (goes_back (context p setting x.registers) x.spot) turn → Owes x n turn t
  on_turn x n t (Silent to) w h e f k c =
      let back = goes_back (context p setting x.registers) x.spot in
      let u = state (chain to.spot) (words c.1 to.registers) (turned back n) in
      let count = counted_back (at_place x) (at_place to) n back f.1 in
      let next = comes to.spot to.registers (turned back n) u (f.0 ∙ w) (subst HoldWords (sym k.0) h)
      (record { chain = refl; registers = refl; turns = refl }) in
      let there : Same (at_count (at_place to) (turned back n)) u =
      subst (λ done. Same (at_count (record { place = place_of to.spot; registers = to.registers; answers = done }) (turned back n)) u) (sym k.1) next in
      (c.0, u, c.2, subst (λ m. Same (at_count (at_place to) m) u) (sym count) there, falls x to n c.0 t u back f.1 w e refl c.2)
  on_turn x n t (Asks event after) w h e f k c = absurd c
  on_turn x n t Ends w h e f k c = (c.0, c.1, c.2, c.3, sym c.4)
  on_turn x n t (Wrong place rule) w h e f k c = absurd c

  -- the instruction whose scalar is read is one of the program
  scalar_in : (frames : List Frame) (j i : Instruction) (m : Option Meaning) → scalar_of m j ≡ Some i → IsIn p j → IsIn p i
  scalar_in frames j i (Some meaning.BreakIf) e h = subst (IsIn p) (same_one j i e) h
  scalar_in frames j i (Some meaning.ContinueIf) e h = subst (IsIn p) (same_one j i e) h
  scalar_in frames j i (Some meaning.ReturnIf) e h = subst (IsIn p) (same_one j i e) h
  scalar_in frames j i m e h = absurd (cc)

  served : (y : Spot) (i : Instruction) → whole_of y ≡ nested.front → scalar_at y ≡ Some i → IsIn p i
  served (AtBegin frames Nothing) i w e = absurd (cc)
  served (AtBegin frames (Then first next)) i w e = absurd (cc)
  served (AtBegin frames (Plain j)) i w e = scalar_in frames j i (meaning_of Base j.code) e (first_in frames (Plain j) j [] refl w)
  served (AtBegin frames (Label j)) i w e = absurd (cc)
  served (AtBegin frames (If opening body end)) i w e =
      subst (IsIn p) (same_one opening i e) (first_in frames (If opening body end) opening (flattened body ++ end ∷ []) refl w)
  served (AtBegin frames (IfElse opening body middle other end)) i w e =
      subst (IsIn p) (same_one opening i e)
      (first_in frames (IfElse opening body middle other end) opening (flattened body ++ (middle ∷ (flattened other ++ end ∷ []))) refl w)
  served (AtBegin frames (Loop opening body end)) i w e = absurd (cc)
  served (AtBegin frames (Switch opening body end)) i w e =
      subst (IsIn p) (same_one opening i e) (first_in frames (Switch opening body end) opening (flattened body ++ end ∷ []) refl w)
  served (AtEnd frames s) i w e = absurd (cc)

  front_owes : (x : SpotState) (n : ℕ) (t : State) → moved x.spot ≡ None → whole_of x.spot ≡ nested.front → HoldWords x.registers
      → InFront x n t → Owes x n (spot_step p setting x) t
  front_owes x n t m w h f =
      let k = context p setting x.registers in
      let serve : (i : Instruction) → scalar_at x.spot ≡ Some i → Serves p g setting parts x.registers i = λ i e. raising.serves x.registers i h (served x.spot i w e) in
      let a = advances p nested g setting parts raising.unmarked [] x t.words.scratch n f.control m w serve in
      let at = same_state (chain x.spot) x.registers n t f.there in
      on_turn x n t (spot_step p setting x) w h f.there.turns (follows p setting x) (control_keeps k x.answers x.spot f.control)
      (subst (λ u. Comes p g setting parts [] n u (goes_back k x.spot) (spot_step p setting x)) at a)

  -- THE END
  last_owes : (x : SpotState) (n : ℕ) (t : State) → t.turns ≡ n → AtLast x t → Owes x n (spot_step p setting x) t
  last_owes x n t e l =
      let ends : spot_step p setting x ≡ Ends = ap (turn_in (context p setting x.registers) x) l.here in
      subst (λ turn. Owes x n turn t) (sym ends) (0, t, refl, ap (λ c. right (state c t.words t.turns)) l.none, sym e)

  -- IN A PLAN
  next_answered : (x : SpotState) (w : ℕ) (rest : List Event) (i : Instruction) (k : List Link) (n : ℕ) (u : State)
      → Plans right u rest (λ answers v. Left k (result Base p setting x.registers i (x.answers ++ w ∷ answers)) n v)
      → Plans right u rest (λ answers v. Left k (result Base p setting x.registers i ((x.answers ++ w ∷ []) ++ answers)) n v)
  next_answered x w rest i k n u m =
      weaker right rest u _ _
      (λ answers v l. subst (λ a. Left k (result Base p setting x.registers i a) n v) (sym (append_assoc x.answers (w ∷ []) answers)) l) m

  -- what stands in front of the rest of a plan
  abbrev way : (x : SpotState) (frames : List Frame) (i : Instruction) → Turn SpotState
  way x frames i = to_spot (result Base p setting x.registers i x.answers) (AtEnd frames (Plain i))

  abbrev rest_of : (x : SpotState) (n : ℕ) (t : State) (q : InPlan x n t) → List Event → Type 0
  rest_of x n t q rest =
      Plans right t rest (λ answers u. Left (links parts [] q.frames (Plain q.i)) (result Base p setting x.registers q.i (x.answers ++ answers)) n u)

  plan_done : (x : SpotState) (n : ℕ) (t : State) → whole_of x.spot ≡ nested.front → HoldWords x.registers → t.turns ≡ n → (q : InPlan x n t)
      → rest_of x n t q [] → Owes x n (way x q.frames q.i) t
  plan_done x n t w h e q m =
      let y = AtEnd q.frames (Plain q.i) in
      let registers = result Base p setting x.registers q.i x.answers in
      let to = start_at y registers in
      let whole : filled q.frames (Plain q.i) ≡ nested.front = sym (ap whole_of q.here) ∙ w in
      let l : Left (links parts [] q.frames (Plain q.i)) registers n m.1 =
      subst (λ a. Left (links parts [] q.frames (Plain q.i)) (result Base p setting x.registers q.i a) n m.1) (append-nil x.answers) m.3 in
      let hold = raising.keeps x.registers q.i x.answers h (in_program q.frames q.i whole) q.answered in
      let next = comes y registers n m.1 whole hold l in
      let up : place_of x.spot < place_of y = omega (arith, ap place_of q.here) in
      let count : n + times_back (at_place x) (at_place to) ≡ n = counted_back (at_place x) (at_place to) n false up in
      (m.0, m.1, m.2, subst (λ c. Same (at_count (at_place to) c) m.1) (sym count) next, falls x to n m.0 t m.1 false up w e l.turns m.2)

  plan_asks : (x : SpotState) (n : ℕ) (t : State) → moved x.spot ≡ None → whole_of x.spot ≡ nested.front → HoldWords x.registers → t.turns ≡ n
      → (q : InPlan x n t) (event : Event) (rest : List Event) → q.rest ≡ event ∷ rest → rest_of x n t q (event ∷ rest)
      → Owes x n (asks_or x (Some event) (way x q.frames q.i)) t
  plan_asks x n t m w h e q event rest eq k = (
    k.0,
    k.1,
    k.2,
    k.3,
    k.4,
    λ a lt. record {
      x = record { spot = x.spot; registers = x.registers; answers = x.answers ++ a ∷ [] };
      here = refl;
      settled = m;
      whole = w;
      registers = h;
      stood = inl (record {
        frames = q.frames;
        i = q.i;
        here = q.here;
        goes = q.goes;
        done = q.done ++ event ∷ [];
        rest = rest;
        split = q.split ∙ (ap (λ l. q.done ++ l) eq ∙ sym (append_assoc q.done (event ∷ []) rest));
        counts = omega (arith, length-append x.answers (a ∷ []), length-append q.done (event ∷ []), q.counts);
        answered = one_more x.answers a q.answered lt;
        makes = next_answered x a rest q.i (links parts [] q.frames (Plain q.i)) n (k.2 a) (k.5 a lt);
      });
      turns =
          let low = goes_rises g setting k.0 t k.1 k.3 in
          let mid = asks_rises g setting k.1 event k.2 a k.4 in
          let high = plan_rises g setting rest (k.2 a) _ n (λ answers v l. l.turns) (k.5 a lt) in
          omega (arith, e, low, mid, high);
    },
  )

  in_plan : (x : SpotState) (n : ℕ) (t : State) → moved x.spot ≡ None → whole_of x.spot ≡ nested.front → HoldWords x.registers → t.turns ≡ n
      → (q : InPlan x n t) (rest : List Event) → q.rest ≡ rest
      → Owes x n (asks_or x (slice_get (q.done ++ q.rest) (length q.done)) (way x q.frames q.i)) t
  in_plan x n t m w h e q [] eq =
      let none : slice_get (q.done ++ q.rest) (length q.done) ≡ None =
      slice_get_past (q.done ++ q.rest) (length q.done) (omega (arith, length-append q.done q.rest, ap length eq)) in
      subst (λ o. Owes x n (asks_or x o (way x q.frames q.i)) t) (sym none)
      (plan_done x n t w h e q (subst (rest_of x n t q) eq q.makes))
  in_plan x n t m w h e q (event ∷ rest) eq =
      let some : slice_get (q.done ++ q.rest) (length q.done) ≡ Some event =
      ap (λ l. slice_get (q.done ++ l) (length q.done)) eq ∙ seam q.done event rest in
      subst (λ o. Owes x n (asks_or x o (way x q.frames q.i)) t) (sym some)
      (plan_asks x n t m w h e q event rest eq (subst (rest_of x n t q) eq q.makes))

  plan_owes : (x : SpotState) (n : ℕ) (t : State) → moved x.spot ≡ None → whole_of x.spot ≡ nested.front → HoldWords x.registers → t.turns ≡ n
      → InPlan x n t → Owes x n (spot_step p setting x) t
  plan_owes x n t m w h e q =
      let k = context p setting x.registers in
      let mean = meaning_of Base q.i.code in
      let whole : filled q.frames (Plain q.i) ≡ nested.front = sym (ap whole_of q.here) ∙ w in
      let s = stands p.instructions q.frames (Plain q.i) (stood_at q.frames (Plain q.i) whole) in
      let turn : spot_step p setting x ≡ plain_turn k x q.frames mean q.i = ap (turn_in k x) q.here in
      let goes = plain_goes k x.answers q.frames q.i (where_in q.frames) mean x q.goes s.sound in
      let at : slice_get (plan Base p setting x.registers q.i) (length x.answers) ≡ slice_get (q.done ++ q.rest) (length q.done) =
      ap (λ l. slice_get l (length x.answers)) q.split ∙ ap (slice_get (q.done ++ q.rest)) q.counts in
      subst (λ turn. Owes x n turn t) (sym (turn ∙ (goes ∙ ap (λ o. asks_or x o (way x q.frames q.i)) at)))
      (in_plan x n t m w h e q q.rest refl)

  -- EACH STEP
  owes : (x : SpotState) (n : ℕ) (t : State) → moved x.spot ≡ None → whole_of x.spot ≡ nested.front → HoldWords x.registers → t.turns ≡ n
      → Stood x n t → Owes x n (spot_step p setting x) t
  owes x n t m w h e (inl q) = plan_owes x n t m w h e q
  owes x n t m w h e (inr (inl f)) = front_owes x n t m w h f
  owes x n t m w h e (inr (inr l)) = last_owes x n t e l

  pub keeps : (c : Counted bytecode.State) (t : State) → Same c t → Followed right Same Ended measure c (left c) t
  keeps c t r =
      let k = owes r.x c.count t r.settled r.whole r.registers (sym r.turns) r.stood in
      let one = same_step p nested setting r.x r.settled r.whole in
      let there : Followed right Same Ended measure (at_count (at_place r.x) c.count) (left (at_count (at_place r.x) c.count)) t =
      subst (λ turn. Followed right Same Ended measure (at_count (at_place r.x) c.count) (with_count times_back (at_place r.x) c.count turn) t) (sym one) k in
      subst (λ s. Followed right Same Ended measure (at_count s c.count) (left (at_count s c.count)) t) r.here there

  pub bounded : (c : Counted bytecode.State) (t : State) → Same c t → measure c < length p.instructions + 1
  bounded c t r = omega arith

  -- FROM THE START
  pub starts : Same (at_count bytecode.start 0) (tree.start (raised parts nested.front))
  starts = comes (AtBegin [] nested.front) zeros 0 (tree.start (raised parts nested.front)) refl
      (record { temp = λ slot c. omega arith; indexable = λ slot index c. omega arith })
      (record { chain = refl; registers = refl; turns = refl })

  pub same_counted : SameLanes left right (at_count bytecode.start 0) (tree.start (raised parts nested.front))
  same_counted = same_lanes left right Same Ended measure (length p.instructions + 1) keeps bounded _ _ starts

  pub same_turns : (events : List Event) (answers : List ℕ) (c : Counted bytecode.State) (t : State)
      → Makes left (at_count bytecode.start 0) events answers c → Makes right (tree.start (raised parts nested.front)) events answers t
      → c.count ≡ t.turns
  same_turns events answers c t h k =
      (related left right Same Ended measure (length p.instructions + 1) keeps bounded events answers _ c _ t starts h k).turns
