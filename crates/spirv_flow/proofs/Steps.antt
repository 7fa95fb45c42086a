-- Steps of the module's lane, and how they are counted.
use Rattle.std.proofs.Common.{◌≡◌, ℕ, zero, suc, ◌+◌, ◌<◌, ◌≤◌, List, [], ◌∷◌, ◌++◌, length, Some, Bool, refl, sym, ap, ◌∙◌, subst, arith}
use Rattle.std.specs.Prelude.{nat_le, cond, slice_get, unwrap_or}
use Rattle.std.proofs.lemmas.Bool.Decides.{nat_tests}
use Rattle.word_base.specs.Lanes.{Turn, Silent, Asks, Ends, Goes}
use Rattle.word_base.specs.declared.event.Event.{Event}
use Rattle.spirv_words.specs.Operations.{op_of}
use Rattle.spirv_words.specs.Text.{Instr}
use Rattle.spirv_words.specs.Values.{Word, Truth}
use Rattle.spirv_words.specs.Globals.{Machine}
use Rattle.spirv_words.specs.Lane.{State, step, goes_to, act_of_op, label_place, target}
use Rattle.word_base.specs.Counted.{Counted, at_count, counted}
use Rattle.spirv_flow.specs.GoingBack.{goes_back}
use Rattle.spirv_flow.specs.Layout.{Layout, label, branch, merge, loop_merge, choose, leave, switch, cases, default, pairs, ArePlain}
use Rattle.spirv_emit.specs.Lanes.{HasAt}
use Rattle.spirv_flow.specs.Pieces.{IsSettled}
use Rattle.spirv_flow.proofs.Forward.{goes_on}

abbrev one_if : Bool → ℕ
one_if b = cond b 1 0

not_back : (a b : ℕ) → a < b → one_if (nat_le b a) ≡ 0
not_back a b h = grind (arith, nat_tests)

is_back : (a b : ℕ) → b ≤ a → one_if (nat_le b a) ≡ 1
is_back a b h = grind (arith, nat_tests)

module _ (m : Machine) (settled : IsSettled m.code) where
  -- the place behind a label
  abbrev pub Labels : ℕ → ℕ → Type 0
  Labels l p = (q : ℕ) × (slice_get m.code q ≡ Some (label l)) × (p ≡ q + 1)

  acts : (s : State) (i : Instr) → slice_get m.code s.place ≡ Some i → step m s ≡ act_of_op m s (op_of i.op) i.operands
  acts s i at =
      let a = settled.sorted s.place i at in
      let b = settled.defined s.place i at in
      rw (at, a, b) refl

  pub branch_step : (s : State) (l p : ℕ) → slice_get m.code s.place ≡ Some (branch l) → Labels l p → step m s ≡ Silent (goes_to s p)
  branch_step s l p at g =
      let q : label_place m.code l ≡ Some g.0 = settled.single g.0 l g.1 in
      let w : g.0 + 1 ≡ p = sym g.2 in
      acts s (branch l) at ∙ rw (q, w) refl

  pub merge_step : (s : State) (l : ℕ) → slice_get m.code s.place ≡ Some (merge l) → step m s ≡ Silent (goes_to s (s.place + 1))
  merge_step s l at = acts s (merge l) at

  pub loop_merge_step : (s : State) (l c : ℕ) → slice_get m.code s.place ≡ Some (loop_merge l c) → step m s ≡ Silent (goes_to s (s.place + 1))
  loop_merge_step s l c at = acts s (loop_merge l c) at

  pub choose_step : (s : State) (r y n p : ℕ) (b : Bool) → slice_get m.code s.place ≡ Some (choose r y n) → s.values r ≡ Some (Truth b)
      → Labels (cond b y n) p → step m s ≡ Silent (goes_to s p)
  choose_step s r y n p b at v g =
      let q : label_place m.code (cond b y n) ≡ Some g.0 = settled.single g.0 (cond b y n) g.1 in
      let w : g.0 + 1 ≡ p = sym g.2 in
      acts s (choose r y n) at ∙ rw (v, q, w) refl

  pub switch_step : (s : State) (r l x p : ℕ) (body : Layout) → slice_get m.code s.place ≡ Some (switch r l body) → s.values r ≡ Some (Word x)
      → Labels (target x (unwrap_or (default body) l) (pairs (cases body))) p → step m s ≡ Silent (goes_to s p)
  switch_step s r l x p body at v g =
      let to = target x (unwrap_or (default body) l) (pairs (cases body)) in
      let q : label_place m.code to ≡ Some g.0 = settled.single g.0 to g.1 in
      let w : g.0 + 1 ≡ p = sym g.2 in
      acts s (switch r l body) at ∙ rw (v, q, w) refl

  pub leave_step : (s : State) → slice_get m.code s.place ≡ Some leave → step m s ≡ Ends
  leave_step s at = acts s leave at

  -- COUNTS.
  abbrev pub right : Counted State → Turn (Counted State)
  right = counted (step m) goes_back

  pub count_on : (s u : State) (c : ℕ) → step m s ≡ Silent u → s.place < u.place → right (at_count s c) ≡ Silent (at_count u c)
  count_on s u c e l =
      let z : goes_back s u ≡ 0 = not_back s.place u.place l in
      let w : c + goes_back s u ≡ c = omega (arith, z) in
      rw e (ap (λ k. Silent (at_count u k)) w)

  pub count_back : (s u : State) (c : ℕ) → step m s ≡ Silent u → u.place ≤ s.place → right (at_count s c) ≡ Silent (at_count u (c + 1))
  count_back s u c e l =
      let z : goes_back s u ≡ 1 = is_back s.place u.place l in
      let w : c + goes_back s u ≡ c + 1 = omega (arith, z) in
      rw e (ap (λ k. Silent (at_count u k)) w)

  pub count_asks : (s : State) (c : ℕ) (e : Event) (on : ℕ → State) → step m s ≡ Asks e on → right (at_count s c) ≡ Asks e (λ a. at_count (on a) c)
  count_asks s c e on h = rw h refl

  pub count_ends : (s : State) (c : ℕ) → step m s ≡ Ends → right (at_count s c) ≡ Ends
  count_ends s c h = rw h refl

  -- silent steps through straight code
  pub straight : (code : List Instr) (n : ℕ) (s t : State) (c : ℕ) → HasAt m.code s.place code → ArePlain code → n ≤ length code → Goes (step m) n s t
      → Goes right n (at_count s c) (at_count t c)
  straight code zero s t c h p l g = ap (λ u. at_count u c) g
  straight [] (suc n) s t c h p l g = absurd (omega (arith, l))
  straight (i ∷ is) (suc n) s t c h p l g =
      let e = goes_on m s g.0 i h.0 (settled.sorted s.place i h.0) (settled.defined s.place i h.0) p.0.0 g.1 in (
        at_count g.0 c,
        count_on s g.0 c g.1 (omega (arith, e)),
        straight is n g.0 t c (subst (λ q. HasAt m.code q is) (sym e) h.1) p.1 (omega (arith, l)) g.2,
      )
