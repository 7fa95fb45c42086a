-- The module's lane follows each statement's step.
use Rattle.std.proofs.Common.{◌≡◌, ℕ, suc, ◌+◌, ◌<◌, ◌≤◌, ◌⊎◌, inl, inr, ⊎_elim, List, [], ◌∷◌, ◌++◌, length, Option, Some, None, Bool, true, false, refl, sym, ap, ◌∙◌, subst, arith, length-append}
use Rattle.std.specs.Prelude.{slice_get, cond, unwrap_or}
use Rattle.word_base.specs.declared.event.Event.{Event}
use Rattle.word_base.specs.Lanes.{Turn, Silent, Asks, Ends, Wrong, Makes, NeverWrong, SameLanes}
use Rattle.spirv_words.specs.Text.{Instr}
use Rattle.spirv_words.specs.Values.{Word, Truth}
use Rattle.spirv_words.specs.Globals.{Machine}
use Rattle.spirv_words.specs.Lane.{State, goes_to, target}
use Rattle.shader_tree.specs.Chains.{Link, Run, Again, Out, push, left, renewed, or_else, behind_mark, switched}
use Rattle.shader_tree.specs.Terms.{Term}
use Rattle.shader_tree.specs.Terms as term
use Rattle.shader_tree.specs.Values.{Spaces, Words, Value, IsWord, IsTruth, value}
use Rattle.shader_tree.specs.Lane as tree
use Rattle.word_base.specs.Counted.{Counted, at_count}
use Rattle.spirv_flow.specs.Layout.{Layout, Straight, Both, Guarded, Chosen, Looped, Switched, CaseAt, DefaultAt, Breaks, Continues, Returns, label, branch, merge, loop_merge, choose, leave, switch, cases, default, first_of, pairs, code_of, ArePlain, Placed}
use Rattle.spirv_emit.specs.Lanes.{HasAt}
use Rattle.spirv_flow.specs.Pieces.{IsSettled, CarriesOver, Passes, Always, Does, Answers}
use Rattle.spirv_flow.specs.Lowering.{IsBody, Lowered}
use Rattle.spirv_emit.proofs.Lists.{code_back, code_front}
use Rattle.spirv_flow.proofs.Chains.{front, size, IsSmall, front_push, small_push, small_front, small_left, small_renewed, Found, found_else, found}
use Rattle.spirv_flow.proofs.Following.{Follow, Rest, Pass, Jump, Turns, Closes, chain_of, Stands, Leads, IsTurn, After, Lands, breaks_to, continues_to}
use Rattle.spirv_flow.proofs.Leaves.{rechained, set_alike, write_alike, load_alike, store_alike, atomic_alike, sync_alike}
use Rattle.spirv_flow.proofs.Reached as reached
use Rattle.spirv_flow.proofs.Reached.{Reaches, ReachesWith}
use Rattle.word_base.proofs.Simulation.{Followed, related, same_lanes}
use Rattle.spirv_flow.proofs.Sound.{sound_silent, sound_event, sound_here}
use Rattle.spirv_flow.proofs.Steps.{Labels, right, count_back, count_asks, count_ends, branch_step, leave_step, straight}
use Rattle.spirv_flow.proofs.Switches.{mark_label, switch_target, Finds, finds_either, finds, two_after}
use Rattle.word_base.proofs.Walks.{goes_on}

module _ (g : Spaces) (m : Machine) (settled : IsSettled m.code) (Table : Type 0) (Holds : Table → State → Words → Type 0)
    (IsClean IsNew : Table → Type 0)
    (carries : CarriesOver Holds IsClean IsNew) (N : ℕ) where
  abbrev Items : Type 0
  Items = List (Follow Table)

  abbrev Behind : ℕ → Table → Items → Type 0
  Behind p a k = After g m settled Table Holds IsClean IsNew carries p a k

  abbrev Reach : State → ℕ → ℕ → Table → Words → Type 0
  Reach s n p a w = Reaches g m settled Table Holds IsClean IsNew carries s n p a w

  abbrev Jumps : ℕ → ℕ → (ℕ → Table → Type 0) → Type 0
  Jumps to p Then = Leads g m settled Table Holds IsClean IsNew carries to p Then

  abbrev pub tree_step : tree.State → Turn tree.State
  tree_step = tree.step g m.setting

  -- The lanes stand side by side: the module's comes silently where the rest of the tree's chain stands, with the tree's words and as many
  -- turns back.
  pub record Same (t : tree.State) (c : Counted State) : Type 0 where
    pub items : List (Follow Table)
    pub table : Table
    pub place : ℕ
    pub reached : Reaches g m settled Table Holds IsClean IsNew carries c.state c.count place table t.words
    pub here : After g m settled Table Holds IsClean IsNew carries place table items
    pub chain : t.chain ≡ chain_of items
    pub count : t.turns ≡ c.count
    pub sound : NeverWrong tree_step t
    pub small : IsSmall N t.chain

  abbrev measure : tree.State → ℕ
  measure t = front t.chain

  -- at the ends the counts are equal
  abbrev Ended : tree.State → Counted State → Type 0
  Ended t c = t.turns ≡ c.count

  abbrev Owes : Turn tree.State → tree.State → Counted State → Type 0
  Owes turn t c = Followed (right m settled) Same Ended measure t turn c

  abbrev FollowsFrom : Items → Type 0
  FollowsFrom k =
      (s : State) (n : ℕ) (a : Table) (w : Words) → Behind s.place a k → Holds a s w → NeverWrong tree_step (tree.state (chain_of k) w n)
      → IsSmall N (chain_of k) → Owes (tree_step (tree.state (chain_of k) w n)) (tree.state (chain_of k) w n) (at_count s n)

  -- a place that was reached is where the lane stands then
  arrived : (s : State) (n p : ℕ) (a : Table) (w : Words) → (r : Reach s n p a w) → Reach r.to n p a w
  arrived s n p a w r = record { steps = 0; to = r.to; goes = refl; place = r.place; holds = r.holds }

  -- a silent step, at a place that was reached
  comes : (t : tree.State) (c : List Link) (w : Words) (s : State) (n p : ℕ) (a : Table) (k : Items) → (r : Reach s n p a w) → Behind p a k
      → c ≡ chain_of k
      → tree_step t ≡ Silent (tree.state c w n) → NeverWrong tree_step t → IsSmall N c → (0 < r.steps) ⊎ (front c < front t.chain)
      → Owes (Silent (tree.state c w n)) t (at_count s n)
  comes t c w s n p a k r h e turn sound small less = (
    r.steps,
    at_count r.to n,
    r.goes,
    record {
      items = k;
      table = a;
      place = p;
      reached = arrived s n p a w r;
      here = h;
      chain = e;
      count = refl;
      sound = sound_silent tree_step t (tree.state c w n) sound turn;
      small = small;
    },
    less,
  )

  -- the same is owed later
  later : (turn : Turn tree.State) (t : tree.State) (s : State) (n p : ℕ) (a : Table) (w : Words) → (r : Reach s n p a w)
      → Owes turn t (at_count r.to n)
      → Owes turn t (at_count s n)
  later (Silent to) t s n p a w r f = (
    r.steps + f.0,
    f.1,
    goes_on (right m settled) r.steps f.0 (at_count s n) (at_count r.to n) f.1 r.goes f.2,
    f.3,
    ⊎_elim (λ l. inl (omega (arith, l))) (λ l. inr l) f.4,
  )
  later (Asks e after) t s n p a w r f =
      (r.steps + f.0, f.1, f.2, goes_on (right m settled) r.steps f.0 (at_count s n) (at_count r.to n) f.1 r.goes f.3, f.4, f.5)
  later Ends t s n p a w r f = (r.steps + f.0, f.1, goes_on (right m settled) r.steps f.0 (at_count s n) (at_count r.to n) f.1 r.goes f.2, f.3, f.4)
  later (Wrong place rule) t s n p a w r f = f

  -- from a place that was reached the rest follows
  onward : (k : Items) (s : State) (n p : ℕ) (a : Table) (w : Words) → FollowsFrom k → (r : Reach s n p a w) → Behind p a k
      → NeverWrong tree_step (tree.state (chain_of k) w n) → IsSmall N (chain_of k)
      → Owes (tree_step (tree.state (chain_of k) w n)) (tree.state (chain_of k) w n) (at_count s n)
  onward k s n p a w next r h sound small =
      let t = tree.state (chain_of k) w n in
      later (tree_step t) t s n p a w r (next r.to n a w (subst (λ q. Behind q a k) (sym r.place) h) r.holds sound small)

  follow_pass : (code : List Instr) (z : Table) (k : Items) → FollowsFrom k → FollowsFrom (Pass code z ∷ k)
  follow_pass code z k next s n a w h holds sound small =
      let r = reached.passes g m settled Table Holds IsClean IsNew carries s n s.place code a z w h.0 h.2 h.1
      (reached.at_once g m settled Table Holds IsClean IsNew carries s n a w holds) in
      onward k s n (s.place + length code) z w next r h.3 sound small

  follow_jump : (to : ℕ) (k : Items) → FollowsFrom k → FollowsFrom (Jump to ∷ k)
  follow_jump to k next s n a w h holds sound small =
      let j = h.2 in
      let r = reached.branches g m settled Table Holds IsClean IsNew carries s n s.place j.q to a w h.1 j.labelled j.ahead
      (reached.at_once g m settled Table Holds IsClean IsNew carries s n a w holds) in
      onward k s n j.q j.begun w next (reached.renews g m settled Table Holds IsClean IsNew carries s n j.q a j.begun w h.0 j.is_begun r) j.then sound
      small

  follow_closes : (to : ℕ) (k : Items) → FollowsFrom (Closes to ∷ k)
  follow_closes to k s n a w h holds sound small =
      let j = h.2 in
      let first = reached.at_once g m settled Table Holds IsClean IsNew carries s n a w holds in
      let r = reached.branches g m settled Table Holds IsClean IsNew carries s n s.place j.q to a w h.1 j.labelled j.ahead first in
      comes (tree.state (Out ∷ chain_of k) w n) (chain_of k) w s n j.q j.begun k
      (reached.renews g m settled Table Holds IsClean IsNew carries s n j.q a j.begun w h.0 j.is_begun r) j.then refl refl sound small
      (inl (reached.renewed_some g m settled Table Holds IsClean IsNew carries s n j.q a j.begun w h.0 j.is_begun r
      (reached.some_steps g m settled Table Holds IsClean IsNew carries s n s.place j.q to a w h.1 j.labelled j.ahead first)))

  -- A STATEMENT OF ONE STEP.
  plain_back : (x y : List Instr) → ArePlain (x ++ y) → ArePlain y
  plain_back [] y h = h
  plain_back (i ∷ x) y h = plain_back x y h.1

  size_falls : (x : Term) (k : List Link) → size x ≡ 1 → front k < front (Run x ∷ k)
  size_falls x k e = omega (arith, e)

  leaf_by : (x : Term) (code : List Instr) (z : Table) (k : Items) (s : State) (n : ℕ) (w : Words) (turn : Turn tree.State) → size x ≡ 1
      → HasAt m.code s.place code → ArePlain code → Behind (s.place + length code) z k → Answers m Holds turn code z s
      → tree_step (tree.state (Run x ∷ chain_of k) w n) ≡ rechained (chain_of k) n turn → NeverWrong tree_step (tree.state (Run x ∷ chain_of k) w n)
      → IsSmall N (Run x ∷ chain_of k) → Owes (rechained (chain_of k) n turn) (tree.state (Run x ∷ chain_of k) w n) (at_count s n)
  leaf_by x code z k s n w (Silent t) one here plain behind law turn sound small = (
    length code,
    at_count law.to n,
    straight m settled code (length code) s law.to n here plain (omega arith) law.goes,
    record {
      items = k;
      table = z;
      place = s.place + length code;
      reached = record { steps = 0; to = law.to; goes = refl; place = law.place; holds = law.holds };
      here = behind;
      chain = refl;
      count = refl;
      sound = sound_silent tree_step (tree.state (Run x ∷ chain_of k) w n) (tree.state (chain_of k) t.words n) sound turn;
      small = small.1;
    },
    inr (size_falls x (chain_of k) one),
  )
  leaf_by x code z k s n w (Asks e after) one here plain behind law turn sound small = (
    law.0,
    at_count law.1 n,
    (λ a. at_count (law.2 a) n),
    straight m settled code law.0 s law.1 n here plain law.3 law.4,
    count_asks m settled law.1 n e law.2 law.5,
    λ a lt.
        let o = law.6 a lt in
        let left = code_back m.code s.place o.front o.back (subst (λ l. HasAt m.code s.place l) o.parts here) in
        record {
          items = k;
          table = z;
          place = s.place + length code;
          reached = record {
            steps = length o.back;
            to = o.arrives.to;
            goes = straight m settled o.back (length o.back) (law.2 a) o.arrives.to n (subst (λ q. HasAt m.code q o.back) (sym o.place) left)
                (plain_back o.front o.back (subst (λ l. ArePlain l) o.parts plain)) (omega arith) o.arrives.goes;
            place = omega (arith, o.arrives.place, o.place, ap length o.parts, length-append o.front o.back);
            holds = o.arrives.holds;
          };
          here = behind;
          chain = refl;
          count = refl;
          sound = sound_event tree_step (tree.state (Run x ∷ chain_of k) w n) e (λ b. tree.state (chain_of k) (after b).words n) a sound turn lt;
          small = small.1;
        },
  )
  leaf_by x code z k s n w Ends one here plain behind law turn sound small = absurd law
  leaf_by x code z k s n w (Wrong place rule) one here plain behind law turn sound small =
      absurd (sound_here tree_step (tree.state (Run x ∷ chain_of k) w n) place rule sound turn)

  -- the layout of the statement in front is that one
  with_layout : (x : Term) (l j : Layout) (brk cont p : ℕ) (a z : Table) (k : Items) → l ≡ j → Behind p a (Rest x l brk cont z ∷ k)
      → Behind p a (Rest x j brk cont z ∷ k)
  with_layout x l j brk cont p a z k e h = subst (λ y. Behind p a (Rest x y brk cont z ∷ k)) e h

  follow_leaf : (x : Term) (l : Layout) (brk cont : ℕ) (z : Table) (k : Items) (s : State) (n : ℕ) (a : Table) (w : Words) → size x ≡ 1
      → (code : List Instr) → l ≡ Straight code → Does m Holds g x code a z → Behind s.place a (Rest x l brk cont z ∷ k) → Holds a s w
      → tree_step (tree.state (Run x ∷ chain_of k) w n) ≡ rechained (chain_of k) n (tree.run g m.setting [] w 0 x)
      → NeverWrong tree_step (tree.state (Run x ∷ chain_of k) w n) → IsSmall N (Run x ∷ chain_of k)
      → Owes (rechained (chain_of k) n (tree.run g m.setting [] w 0 x)) (tree.state (Run x ∷ chain_of k) w n) (at_count s n)
  follow_leaf x l brk cont z k s n a w one code e does h holds turn sound small =
      let here = with_layout x l (Straight code) brk cont s.place a z k e h in
      leaf_by x code z k s n w (tree.run g m.setting [] w 0 x) one here.0 here.2.placed here.3 (does s w here.0 holds) turn sound small

  -- A BODY IN BLOCKS OF ITS OWN, and what stands behind it.
  within_body : (x : Term) (l : Layout) (back tail : List Instr) (brk cont p : ℕ) (k : Items)
      (b : IsBody m Holds IsClean IsNew (λ j c d. Lowered m Holds IsClean IsNew g x j c d) l back)
      → HasAt m.code p ((code_of l brk cont ++ back) ++ tail) → Stands l k brk cont → ArePlain back
      → Behind (p + length (code_of l brk cont ++ back)) b.last k → Behind p b.begun (Rest x l brk cont b.ended ∷ Pass back b.last ∷ k)
  within_body x l back tail brk cont p k b h stands plain behind =
      let c = code_of l brk cont in
      let here = code_front m.code p (c ++ back) tail h in
      let e : p + length (c ++ back) ≡ p + length c + length back = omega (arith, length-append c back) in (
        code_front m.code p c back here,
        b.lowers,
        record { in_loop = stands.in_loop; in_any = stands.in_any; placed = stands.placed; breaks = stands.breaks; continues = stands.continues },
        (code_back m.code p c back here, b.passes, plain, subst (λ q. Behind q b.last k) e behind),
      )

  -- a branch and a label directly behind it
  jump_behind : (to p : ℕ) (a z : Table) (k : Items) → IsClean a → IsNew z → HasAt m.code p (branch to ∷ label to ∷ []) → Behind (p + 2) z k
      → Behind p a (Jump to ∷ k)
  jump_behind to p a z k clean begun h behind =
      let e : p + 2 ≡ p + 1 + 1 = omega arith in (
        clean,
        h.0,
        record {
          q = p + 1 + 1;
          labelled = (p + 1, h.1.0, refl);
          ahead = omega arith;
          begun = z;
          is_begun = begun;
          then =
              subst (λ q. Behind q z k) e behind;
        },
      )

  -- A GUARD.
  abbrev guard_tail : (i r n : ℕ) → List Instr → List Instr
  guard_tail i r n code = merge n ∷ choose r i n ∷ label i ∷ (code ++ (branch n ∷ label n ∷ []))

  length_tail : (front code back : List Instr) (p n : ℕ) (a b c : Instr)
      → p + length (front ++ (a ∷ b ∷ c ∷ (code ++ back))) ≡ p + length front + 1 + 1 + 1 + length code + length back
  length_tail front code back p n a b c =
      let e = length-append front (a ∷ b ∷ c ∷ (code ++ back)) in
      let f = length-append code back in
      omega (arith, e, f)

  follow_guard : (e x : Term) (l : Layout) (brk cont : ℕ) (z : Table) (k : Items) (s : State) (n : ℕ) (a : Table) (w : Words) (o : Option Value)
      → Behind s.place a (Rest (term.Guard e x) l brk cont z ∷ k) → Holds a s w → value g m.setting w e ≡ o
      → tree_step (tree.state (Run (term.Guard e x) ∷ chain_of k) w n)
      ≡ tree.on_truth o (λ b. Silent (tree.state (cond b (push x (chain_of k)) (chain_of k)) w n))
      → NeverWrong tree_step (tree.state (Run (term.Guard e x) ∷ chain_of k) w n) → IsSmall N (Run (term.Guard e x) ∷ chain_of k)
      → Owes (tree.on_truth o (λ b. Silent (tree.state (cond b (push x (chain_of k)) (chain_of k)) w n)))
      (tree.state (Run (term.Guard e x) ∷ chain_of k) w n) (at_count s n)
  follow_guard e x l brk cont z k s n a w None h holds v turn sound small =
      sound_here tree_step (tree.state (Run (term.Guard e x) ∷ chain_of k) w n) 0 0 sound turn
  follow_guard e x l brk cont z k s n a w (Some (IsWord y)) h holds v turn sound small =
      sound_here tree_step (tree.state (Run (term.Guard e x) ∷ chain_of k) w n) 0 0 sound turn
  follow_guard e x l brk cont z k s n a w (Some (IsTruth true)) h holds v turn sound small =
      let u = h.1 in
      let f = with_layout (term.Guard e x) l (Both (Straight u.front) (Guarded u.r u.inside u.merge (Both u.body (Straight u.back)))) brk cont s.place
      a z k u.layout h in
      let code = code_of u.body brk cont ++ u.back in
      let tail = guard_tail u.inside u.r u.merge code in
      let at = s.place + length u.front in
      let rest = code_back m.code s.place u.front tail f.0 in
      let st = f.2 in
      let end : s.place + length (u.front ++ tail) ≡ at + 1 + 1 + 1 + length code + 2 = length_tail u.front code (branch u.merge ∷ label u.merge ∷ [])
      s.place 0 (merge u.merge) (choose u.r u.inside u.merge) (label u.inside) in
      let behind = jump_behind u.merge (at + 1 + 1 + 1 + length code) u.is_body.last z k u.is_body.is_clean u.behind
      (code_back m.code (at + 1 + 1 + 1) code (branch u.merge ∷ label u.merge ∷ []) rest.1.1.1) (subst (λ q. Behind q z k) end f.3) in
      let inner = within_body x u.body u.back (branch u.merge ∷ label u.merge ∷ []) brk cont (at + 1 + 1 + 1) (Jump u.merge ∷ k) u.is_body rest.1.1.1
      (record { in_loop = st.in_loop; in_any = st.in_any; placed = st.placed.1.0; breaks = st.breaks; continues = st.continues }) st.placed.1.1 behind
      in
      let start = reached.at_once g m settled Table Holds IsClean IsNew carries s n a w holds in
      let r1 = reached.tests g m settled Table Holds IsClean IsNew carries s n s.place e u.front a u.clean u.r w true
      (code_front m.code s.place u.front tail f.0) st.placed.0 u.tests v start in
      let r2 = reached.merges_with g m settled Table Holds IsClean IsNew carries u.r _ s n at u.merge u.clean w rest.0 r1 in
      let r3 = reached.chooses g m settled Table Holds IsClean IsNew carries u.r true s n (at + 1) (at + 1 + 1 + 1) u.inside u.merge u.clean w
      rest.1.0 (at + 1 + 1, rest.1.1.0, refl) (omega arith) r2 in
      let r4 = reached.renews g m settled Table Holds IsClean IsNew carries s n (at + 1 + 1 + 1) u.clean u.is_body.begun w u.is_clean
      u.is_body.is_begun r3 in
      let falls = front_push x (chain_of k) in
      comes (tree.state (Run (term.Guard e x) ∷ chain_of k) w n) (push x (chain_of k)) w s n (at + 1 + 1 + 1) u.is_body.begun
      (Rest x u.body brk cont u.is_body.ended ∷ Pass u.back u.is_body.last ∷ Jump u.merge ∷ k) r4 inner refl turn sound
      (small_push N x (chain_of k) (omega (arith, small.0)) small.1) (inr (omega (arith, falls)))
  follow_guard e x l brk cont z k s n a w (Some (IsTruth false)) h holds v turn sound small =
      let u = h.1 in
      let f = with_layout (term.Guard e x) l (Both (Straight u.front) (Guarded u.r u.inside u.merge (Both u.body (Straight u.back)))) brk cont s.place
      a z k u.layout h in
      let code = code_of u.body brk cont ++ u.back in
      let tail = guard_tail u.inside u.r u.merge code in
      let at = s.place + length u.front in
      let rest = code_back m.code s.place u.front tail f.0 in
      let st = f.2 in
      let end : s.place + length (u.front ++ tail) ≡ at + 1 + 1 + 1 + length code + 1 + 1 = length_tail u.front code
      (branch u.merge ∷ label u.merge ∷ []) s.place 0 (merge u.merge) (choose u.r u.inside u.merge) (label u.inside) ∙ omega arith in
      let back = code_back m.code (at + 1 + 1 + 1) code (branch u.merge ∷ label u.merge ∷ []) rest.1.1.1 in
      let q = at + 1 + 1 + 1 + length code + 1 + 1 in
      let start = reached.at_once g m settled Table Holds IsClean IsNew carries s n a w holds in
      let r1 = reached.tests g m settled Table Holds IsClean IsNew carries s n s.place e u.front a u.clean u.r w false
      (code_front m.code s.place u.front tail f.0) st.placed.0 u.tests v start in
      let r2 = reached.merges_with g m settled Table Holds IsClean IsNew carries u.r _ s n at u.merge u.clean w rest.0 r1 in
      let r3 = reached.chooses g m settled Table Holds IsClean IsNew carries u.r false s n (at + 1) q u.inside u.merge u.clean w rest.1.0
      (at + 1 + 1 + 1 + length code + 1, back.1.0, refl) (omega arith) r2 in
      let r4 = reached.renews g m settled Table Holds IsClean IsNew carries s n q u.clean z w u.is_clean u.behind r3 in
      comes (tree.state (Run (term.Guard e x) ∷ chain_of k) w n) (chain_of k) w s n q z k r4 (subst (λ p. Behind p z k) end f.3) refl turn sound
      small.1 (inr (omega arith))

  -- A CHOICE.
  abbrev choice_tail : (r y n e : ℕ) → (first second : List Instr) → List Instr
  choice_tail r y n e first second =
      merge e ∷ choose r y n ∷ label y ∷ (first ++ (branch e ∷ label n ∷ (second ++ (branch e ∷ label e ∷ []))))

  length_choice : (front first second : List Instr) (p r y n e : ℕ)
      → p + length (front ++ choice_tail r y n e first second) ≡ p + length front + 1 + 1 + 1 + length first + 1 + 1 + length second + 1 + 1
  length_choice front first second p r y n e =
      let a = length-append front (choice_tail r y n e first second) in
      let b = length-append first (branch e ∷ label n ∷ (second ++ (branch e ∷ label e ∷ []))) in
      let c = length-append second (branch e ∷ label e ∷ []) in
      omega (arith, a, b, c)

  -- a branch to a label that stands later
  jump_over : (to p q : ℕ) (a z : Table) (k : Items) → IsClean a → IsNew z → slice_get m.code p ≡ Some (branch to) → slice_get m.code q ≡ Some
      (label to) → p ≤ q
      → Behind (q + 1) z k → Behind p a (Jump to ∷ k)
  jump_over to p q a z k clean begun h j l behind =
      (clean, h, record { q = q + 1; labelled = (q, j, refl); ahead = omega (arith, l); begun = z; is_begun = begun; then = behind })

  abbrev chosen_chain : (b : Bool) (x y : Term) (k : List Link) → List Link
  chosen_chain b x y k = cond b (push x k) (push y k)

  follow_choice : (e x y : Term) (l : Layout) (brk cont : ℕ) (z : Table) (k : Items) (s : State) (n : ℕ) (a : Table) (w : Words) (o : Option Value)
      → Behind s.place a (Rest (term.If e x y) l brk cont z ∷ k) → Holds a s w → value g m.setting w e ≡ o
      → tree_step (tree.state (Run (term.If e x y) ∷ chain_of k) w n)
      ≡ tree.on_truth o (λ b. Silent (tree.state (chosen_chain b x y (chain_of k)) w n))
      → NeverWrong tree_step (tree.state (Run (term.If e x y) ∷ chain_of k) w n) → IsSmall N (Run (term.If e x y) ∷ chain_of k)
      → Owes (tree.on_truth o (λ b. Silent (tree.state (chosen_chain b x y (chain_of k)) w n))) (tree.state (Run (term.If e x y) ∷ chain_of k) w n)
      (at_count s n)
  follow_choice e x y l brk cont z k s n a w None h holds v turn sound small =
      sound_here tree_step (tree.state (Run (term.If e x y) ∷ chain_of k) w n) 0 0 sound turn
  follow_choice e x y l brk cont z k s n a w (Some (IsWord c)) h holds v turn sound small =
      sound_here tree_step (tree.state (Run (term.If e x y) ∷ chain_of k) w n) 0 0 sound turn
  follow_choice e x y l brk cont z k s n a w (Some (IsTruth b)) h holds v turn sound small =
      let u = h.1 in
      let f = with_layout (term.If e x y) l
      (Both (Straight u.front) (Chosen u.r u.first_label u.second_label u.merge (Both u.first (Straight u.first_back))
      (Both u.second (Straight u.second_back))))
      brk cont s.place a z k u.layout h in
      let first = code_of u.first brk cont ++ u.first_back in
      let second = code_of u.second brk cont ++ u.second_back in
      let last = branch u.merge ∷ label u.merge ∷ [] in
      let tail = choice_tail u.r u.first_label u.second_label u.merge first second in
      let at = s.place + length u.front in
      let rest = code_back m.code s.place u.front tail f.0 in
      let st = f.2 in
      let p = at + 1 + 1 + 1 in
      let mid = code_back m.code p first (branch u.merge ∷ label u.second_label ∷ (second ++ last)) rest.1.1.1 in
      let q = p + length first + 1 + 1 in
      let back = code_back m.code q second last mid.1.1 in
      let end = length_choice u.front first second s.place u.r u.first_label u.second_label u.merge in
      let behind = subst (λ c. Behind c z k) end f.3 in
      let jump_last = jump_over u.merge (q + length second) (q + length second + 1) u.is_second.last z k u.is_second.is_clean u.behind back.0 back.1.0
      (omega arith) behind in
      let jump_first = jump_over u.merge (p + length first) (q + length second + 1) u.is_first.last z k u.is_first.is_clean u.behind mid.0 back.1.0
      (omega arith) behind in
      let in_first = within_body x u.first u.first_back (branch u.merge ∷ label u.second_label ∷ (second ++ last)) brk cont p (Jump u.merge ∷ k)
      u.is_first rest.1.1.1
      (record { in_loop = st.in_loop; in_any = st.in_any; placed = st.placed.1.0.0; breaks = st.breaks; continues = st.continues }) st.placed.1.0.1
      jump_first in
      let in_second = within_body y u.second u.second_back last brk cont q (Jump u.merge ∷ k) u.is_second mid.1.1
      (record { in_loop = st.in_loop; in_any = st.in_any; placed = st.placed.1.1.0; breaks = st.breaks; continues = st.continues }) st.placed.1.1.1
      jump_last in
      let start = reached.at_once g m settled Table Holds IsClean IsNew carries s n a w holds in
      let r1 = reached.tests g m settled Table Holds IsClean IsNew carries s n s.place e u.front a u.clean u.r w b
      (code_front m.code s.place u.front tail f.0) st.placed.0 u.tests v start in
      let r2 = reached.merges_with g m settled Table Holds IsClean IsNew carries u.r _ s n at u.merge u.clean w rest.0 r1 in
      chosen b u.first_label u.second_label p q u.clean u.is_first.begun u.is_second.begun
      (Rest x u.first brk cont u.is_first.ended ∷ Pass u.first_back u.is_first.last ∷ Jump u.merge ∷ k)
      (Rest y u.second brk cont u.is_second.ended ∷ Pass u.second_back u.is_second.last ∷ Jump u.merge ∷ k)
      (at + 1) u.r rest.1.0 (at + 1 + 1, rest.1.1.0, refl) (p + length first + 1, mid.1.0, refl) (omega arith) (omega arith)
      u.is_clean u.is_first.is_begun u.is_second.is_begun in_first in_second refl refl turn r2 where
        chosen : (b : Bool) (yes' no' p q : ℕ) (c d f : Table) (ks js : Items) (at r : ℕ) → slice_get m.code at ≡ Some (choose r yes' no')
            → Labels m settled yes' p → Labels m settled no' q
            → at < p → at < q → IsClean c → IsNew d → IsNew f → Behind p d ks → Behind q f js → push x (chain_of k) ≡ chain_of ks
            → push y (chain_of k) ≡ chain_of js
            → tree_step (tree.state (Run (term.If e x y) ∷ chain_of k) w n) ≡ Silent (tree.state (chosen_chain b x y (chain_of k)) w n)
            → ReachesWith g m settled Table Holds IsClean IsNew carries r (Truth b) s n at c w
            → Owes (Silent (tree.state (chosen_chain b x y (chain_of k)) w n)) (tree.state (Run (term.If e x y) ∷ chain_of k) w n) (at_count s n)
        chosen true yes' no' p q c d f ks js at r here lp lq pp qq clean nd nf hp hq ek ej turn reach =
            let r3 = reached.chooses g m settled Table Holds IsClean IsNew carries r true s n at p yes' no' c w here lp pp reach in
            let r4 = reached.renews g m settled Table Holds IsClean IsNew carries s n p c d w clean nd r3 in
            let falls = front_push x (chain_of k) in
            comes (tree.state (Run (term.If e x y) ∷ chain_of k) w n) (push x (chain_of k)) w s n p d ks r4 hp ek turn sound
            (small_push N x (chain_of k) (omega (arith, small.0)) small.1) (inr (omega (arith, falls)))
        chosen false yes' no' p q c d f ks js at r here lp lq pp qq clean nd nf hp hq ek ej turn reach =
            let r3 = reached.chooses g m settled Table Holds IsClean IsNew carries r false s n at q yes' no' c w here lq qq reach in
            let r4 = reached.renews g m settled Table Holds IsClean IsNew carries s n q c f w clean nf r3 in
            let falls = front_push y (chain_of k) in
            comes (tree.state (Run (term.If e x y) ∷ chain_of k) w n) (push y (chain_of k)) w s n q f js r4 hq ej turn sound
            (small_push N y (chain_of k) (omega (arith, small.0)) small.1) (inr (omega (arith, falls)))

  -- A LOOP. Behind its continue block the body begins anew.
  body_of_turn : (x : Term) (i j c e : ℕ) (l : Layout) (back : List Instr) (p : ℕ) (a : Table) (k : Items)
      → (h : IsTurn g m settled Table Holds IsClean IsNew carries x i j c e l back p a (λ q b. Behind q b k))
      → Behind h.inner h.is_body.begun (Rest x l e c h.is_body.ended ∷ Pass back h.is_body.last ∷ Jump c ∷ Turns x i j c e l back ∷ k)
  body_of_turn x i j c e l back p a k h = (
    h.body_here,
    h.is_body.lowers,
    record { in_loop = true; in_any = true; placed = h.placed; breaks = λ t. refl; continues = λ t. refl },
    (
      h.back_here,
      h.is_body.passes,
      h.plain,
      (
        h.is_body.is_clean,
        h.ends,
        record {
          q = p;
          labelled = h.labelled;
          ahead = h.turn_last;
          begun = h.is_body.begun;
          is_begun = h.is_body.is_begun;
          then = record {
            clean = carries.new_clean h.is_body.begun h.is_body.is_begun;
            here = h.here;
            labelled = h.labelled;
            head = h.head;
            at_head = h.at_head;
            merges = h.merges;
            enters = h.enters;
            inner = h.inner;
            at_inner = h.at_inner;
            body_here = h.body_here;
            back_here = h.back_here;
            ends = h.ends;
            is_body = h.is_body;
            placed = h.placed;
            plain = h.plain;
            behind = h.behind;
            head_first = h.head_first;
            turn_last = h.turn_last;
          };
        },
      ),
    ),
  )

  -- from the loop's header to its body
  enters_body : (x : Term) (i j c e : ℕ) (l : Layout) (back : List Instr) (p : ℕ) (a b : Table) (k : Items) (s : State) (n : ℕ) (w : Words)
      → (h : IsTurn g m settled Table Holds IsClean IsNew carries x i j c e l back p a (λ q d. Behind q d k)) → IsClean b → Reach s n h.head b w
      → Reach s n h.inner h.is_body.begun w
  enters_body x i j c e l back p a b k s n w h clean r =
      let r1 = reached.loop_merges g m settled Table Holds IsClean IsNew carries s n h.head e c b w h.merges r in
      let r2 = reached.branches g m settled Table Holds IsClean IsNew carries s n (h.head + 1) h.inner j b w h.enters h.at_inner h.head_first r1 in
      reached.renews g m settled Table Holds IsClean IsNew carries s n h.inner b h.is_body.begun w clean h.is_body.is_begun r2

  follow_turns : (x : Term) (i j c e : ℕ) (l : Layout) (back : List Instr) (k : Items) → FollowsFrom (Turns x i j c e l back ∷ k)
  follow_turns x i j c e l back k s n a w h holds sound small =
      let t = tree.state (Again x ∷ chain_of k) w n in
      let u = tree.state (push x (Again x ∷ chain_of k)) w (n + 1) in
      let to = goes_to s h.head in
      let first = count_back m settled s to n (branch_step m settled s i h.head h.here h.at_head) (omega (arith, h.head_first, h.turn_last)) in
      let start = reached.at_once g m settled Table Holds IsClean IsNew carries to (n + 1) a w (carries.moved a s w h.head holds) in
      let r = enters_body x i j c e l back s.place a a k to (n + 1) w h h.clean start in
      let turn : tree_step t ≡ Silent u = refl in (
        suc r.steps,
        at_count r.to (n + 1),
        (at_count to (n + 1), first, r.goes),
        record {
          items = Rest x l e c h.is_body.ended ∷ Pass back h.is_body.last ∷ Jump c ∷ Turns x i j c e l back ∷ k;
          table = h.is_body.begun;
          place = h.inner;
          reached = arrived to (n + 1) h.inner h.is_body.begun w r;
          here = body_of_turn x i j c e l back s.place a k h;
          chain = refl;
          count = refl;
          sound = sound_silent tree_step t u sound turn;
          small = small_push N x (Again x ∷ chain_of k) (omega (arith, small.0)) small;
        },
        inl (omega arith),
      )

  abbrev loop_tail : (i j c e : ℕ) → List Instr → List Instr
  loop_tail i j c e code =
      branch i ∷ label i ∷ loop_merge e c ∷ branch j ∷ label j ∷ (code ++ (branch c ∷ label c ∷ branch i ∷ label e ∷ []))

  length_loop : (front code : List Instr) (p i j c e : ℕ)
      → p + length (front ++ loop_tail i j c e code) ≡ p + length front + 1 + 1 + 1 + 1 + 1 + length code + 1 + 1 + 1 + 1
  length_loop front code p i j c e =
      let a = length-append front (loop_tail i j c e code) in
      let b = length-append code (branch c ∷ label c ∷ branch i ∷ label e ∷ []) in
      omega (arith, a, b)

  follow_loop : (x : Term) (l : Layout) (brk cont : ℕ) (z : Table) (k : Items) → FollowsFrom (Rest (term.Loop x) l brk cont z ∷ k)
  follow_loop x l brk cont z k s n a w h holds sound small =
      let u = h.1 in
      let f = with_layout (term.Loop x) l (Both (Straight u.front) (Looped u.header u.inside u.continue u.merge (Both u.body (Straight u.back)))) brk
      cont s.place a z k u.layout h in
      let body = code_of u.body u.merge u.continue in
      let code = body ++ u.back in
      let tail = loop_tail u.header u.inside u.continue u.merge code in
      let at = s.place + length u.front in
      let rest = code_back m.code s.place u.front tail f.0 in
      let st = f.2 in
      let head = at + 1 + 1 in
      let inner = head + 1 + 1 + 1 in
      let here = code_front m.code inner code (branch u.continue ∷ label u.continue ∷ branch u.header ∷ label u.merge ∷ []) rest.1.1.1.1.1 in
      let back = code_back m.code inner code (branch u.continue ∷ label u.continue ∷ branch u.header ∷ label u.merge ∷ []) rest.1.1.1.1.1 in
      let long : inner + length code ≡ inner + length body + length u.back = omega (arith, length-append body u.back) in
      let p = inner + length code + 1 + 1 in
      let end = length_loop u.front code s.place u.header u.inside u.continue u.merge in
      let turn : IsTurn g m settled Table Holds IsClean IsNew carries x u.header u.inside u.continue u.merge u.body u.back p u.is_body.begun
      (λ q b. Behind q b k) = record {
        clean = carries.new_clean u.is_body.begun u.is_body.is_begun;
        here = back.1.1.0;
        labelled = (inner + length code + 1, back.1.0, refl);
        head = head;
        at_head = (at + 1, rest.1.0, refl);
        merges = rest.1.1.0;
        enters = rest.1.1.1.0;
        inner = inner;
        at_inner = (head + 1 + 1, rest.1.1.1.1.0, refl);
        body_here = code_front m.code inner body u.back here;
        back_here = code_back m.code inner body u.back here;
        ends = subst (λ q. slice_get m.code q ≡ Some (branch u.continue)) long back.0;
        is_body = u.is_body;
        placed = st.placed.1.0;
        plain = st.placed.1.1;
        behind = record {
          q = p + 1 + 1;
          labelled = (p + 1, back.1.1.1.0, refl);
          ahead = omega arith;
          begun = z;
          is_begun = u.behind;
          then =
              subst (λ q. Behind q z k) end f.3;
        };
        head_first = omega arith;
        turn_last = omega (arith, long);
      } in
      let start = reached.at_once g m settled Table Holds IsClean IsNew carries s n a w holds in
      let r1 = reached.passes g m settled Table Holds IsClean IsNew carries s n s.place u.front a u.clean w
      (code_front m.code s.place u.front tail f.0) st.placed.0 u.passes start in
      let r2 = reached.branches g m settled Table Holds IsClean IsNew carries s n at head u.header u.clean w rest.0 (at + 1, rest.1.0, refl)
      (omega arith) r1 in
      let r3 = enters_body x u.header u.inside u.continue u.merge u.body u.back p u.is_body.begun u.clean k s n w turn u.is_clean r2 in
      let falls = front_push x (Again x ∷ chain_of k) in
      comes (tree.state (Run (term.Loop x) ∷ chain_of k) w n) (push x (Again x ∷ chain_of k)) w s n inner u.is_body.begun
      (Rest x u.body u.merge u.continue u.is_body.ended ∷ Pass u.back u.is_body.last ∷ Jump u.continue ∷ Turns x u.header u.inside u.continue u.merge
      u.body u.back ∷ k) r3
      (body_of_turn x u.header u.inside u.continue u.merge u.body u.back p u.is_body.begun k turn) refl refl sound
      (small_push N x (Again x ∷ chain_of k) (omega (arith, small.0)) (omega (arith, small.0), small.1)) (inr (omega (arith, falls)))

  -- AWAY: a break, a continue and a return stand under a truth that always holds.
  abbrev away_tail : (r i e : ℕ) → Instr → (n : ℕ) → List Instr
  away_tail r i e leads n = merge e ∷ choose r i e ∷ label i ∷ ((leads ∷ label n ∷ []) ++ (branch e ∷ label e ∷ []))

  length_away : (front : List Instr) (p r i e n : ℕ) (leads : Instr) → p + length (front ++ away_tail r i e leads n) ≡ p + length front + 7
  length_away front p r i e n leads = let a = length-append front (away_tail r i e leads n) in omega (arith, a)

  -- to the block under the truth
  goes_away : (front : List Instr) (r i e n : ℕ) (leads : Instr) (s : State) (c : ℕ) (a b : Table) (w : Words) → HasAt m.code s.place
      (front ++ away_tail r i e leads n)
      → ArePlain front → (law : Always m Holds front a b r) → Holds a s w
      → Reach s c (s.place + length front + 1 + 1 + 1) b w × (slice_get m.code (s.place + length front + 1 + 1 + 1) ≡ Some leads)
  goes_away front r i e n leads s c a b w here plain law holds =
      let at = s.place + length front in
      let rest = code_back m.code s.place front (away_tail r i e leads n) here in
      let start = reached.at_once g m settled Table Holds IsClean IsNew carries s c a w holds in
      let r1 = reached.always g m settled Table Holds IsClean IsNew carries s c s.place front a b r w
      (code_front m.code s.place front (away_tail r i e leads n) here) plain law start in
      let r2 = reached.merges_with g m settled Table Holds IsClean IsNew carries r _ s c at e b w rest.0 r1 in (
        reached.chooses g m settled Table Holds IsClean IsNew carries r true s c (at + 1) (at + 1 + 1 + 1) i e b w rest.1.0
            (at + 1 + 1, rest.1.1.0, refl) (omega arith) r2,
        rest.1.1.1.0,
      )

  -- and from there to where the tree's lane goes on
  lands_on : (t : tree.State) (s : State) (n p to : ℕ) (b : Table) (w : Words) (c : Option (List Link)) → Reach s n p b w → slice_get m.code p ≡ Some
      (branch to) → IsClean b
      → (d : Lands g m settled Table Holds IsClean IsNew carries to (p + 1) c) → tree_step t ≡ tree.on_some c (λ k. Silent (tree.state k w n))
      → NeverWrong tree_step t
      → ((j : List Link) → c ≡ Some j → IsSmall N j) → Owes (tree.on_some c (λ k. Silent (tree.state k w n))) t (at_count s n)
  lands_on t s n p to b w None r here clean d turn sound small = sound_here tree_step t 0 0 sound turn
  lands_on t s n p to b w (Some j) r here clean d turn sound small =
      let r1 = reached.branches g m settled Table Holds IsClean IsNew carries s n p d.q to b w here d.labelled (omega (arith, d.ahead)) r in
      let r2 = reached.renews g m settled Table Holds IsClean IsNew carries s n d.q b d.begun w clean d.is_begun r1 in
      let same : j ≡ chain_of d.items = let e = d.found in cc in
      comes t j w s n d.q d.begun d.items r2 d.after same turn sound (small j refl)
      (inl (reached.renewed_some g m settled Table Holds IsClean IsNew carries s n d.q b d.begun w clean d.is_begun r1
      (reached.some_steps g m settled Table Holds IsClean IsNew carries s n p d.q to b w here d.labelled (omega (arith, d.ahead)) r)))

  abbrev Ahead : ℕ → ℕ → Option (List Link) → Type 0
  Ahead to p c = Lands g m settled Table Holds IsClean IsNew carries to p c

  sooner : (to p q : ℕ) (c : Option (List Link)) → q ≤ p → Ahead to p c → Ahead to q c
  sooner to p q c l d = record {
    q = d.q;
    labelled = d.labelled;
    ahead = omega (arith, d.ahead, l);
    begun = d.begun;
    is_begun = d.is_begun;
    items = d.items;
    after = d.after;
    found = d.found;
  }

  follow_break : (l : Layout) (brk cont : ℕ) (z : Table) (k : Items) → FollowsFrom (Rest term.Break l brk cont z ∷ k)
  follow_break l brk cont z k s n a w h holds sound small =
      let u = h.1 in
      let f = with_layout term.Break l (Both (Straight u.0) (Guarded u.1 u.2 u.3 (Breaks u.4))) brk cont s.place a z k u.5 h in
      let r = goes_away u.0 u.1 u.2 u.3 u.4 (branch brk) s n a u.6.clean w f.0 f.2.placed.0 u.6.always holds in
      let long = length_away u.0 s.place u.1 u.2 u.3 u.4 (branch brk) in
      let d = breaks_to g m settled Table Holds IsClean IsNew carries k brk (s.place + length (u.0 ++ away_tail u.1 u.2 u.3 (branch brk) u.4)) z
      (f.2.breaks f.2.placed.1) f.3 in
      lands_on (tree.state (Run term.Break ∷ chain_of k) w n) s n (s.place + length u.0 + 1 + 1 + 1) brk u.6.clean w (left (chain_of k)) r.0 r.1
      u.6.is_clean
      (sooner brk (s.place + length (u.0 ++ away_tail u.1 u.2 u.3 (branch brk) u.4)) (s.place + length u.0 + 1 + 1 + 1 + 1) (left (chain_of k))
      (omega (arith, long)) d)
      refl sound (λ j e. small_left N (chain_of k) small.1 j e)

  follow_continue : (l : Layout) (brk cont : ℕ) (z : Table) (k : Items) → FollowsFrom (Rest term.Continue l brk cont z ∷ k)
  follow_continue l brk cont z k s n a w h holds sound small =
      let u = h.1 in
      let f = with_layout term.Continue l (Both (Straight u.0) (Guarded u.1 u.2 u.3 (Continues u.4))) brk cont s.place a z k u.5 h in
      let r = goes_away u.0 u.1 u.2 u.3 u.4 (branch cont) s n a u.6.clean w f.0 f.2.placed.0 u.6.always holds in
      let long = length_away u.0 s.place u.1 u.2 u.3 u.4 (branch cont) in
      let d = continues_to g m settled Table Holds IsClean IsNew carries k cont (s.place + length (u.0 ++ away_tail u.1 u.2 u.3 (branch cont) u.4)) z
      (f.2.continues f.2.placed.1) f.3 in
      lands_on (tree.state (Run term.Continue ∷ chain_of k) w n) s n (s.place + length u.0 + 1 + 1 + 1) cont u.6.clean w (renewed (chain_of k)) r.0
      r.1 u.6.is_clean
      (sooner cont (s.place + length (u.0 ++ away_tail u.1 u.2 u.3 (branch cont) u.4)) (s.place + length u.0 + 1 + 1 + 1 + 1) (renewed (chain_of k))
      (omega (arith, long)) d)
      refl sound (λ j e. small_renewed N (chain_of k) small.1 j e)

  follow_return : (l : Layout) (brk cont : ℕ) (z : Table) (k : Items) → FollowsFrom (Rest term.Return l brk cont z ∷ k)
  follow_return l brk cont z k s n a w h holds sound small =
      let u = h.1 in
      let f = with_layout term.Return l (Both (Straight u.0) (Guarded u.1 u.2 u.3 (Returns u.4))) brk cont s.place a z k u.5 h in
      let r = goes_away u.0 u.1 u.2 u.3 u.4 leave s n a u.6 w f.0 f.2.placed.0 u.7 holds in
      let here = subst (λ q. slice_get m.code q ≡ Some leave) (sym r.0.place) r.1 in
      (r.0.steps, at_count r.0.to n, r.0.goes, count_ends m settled r.0.to n (leave_step m settled r.0.to here), refl)

  -- A CASE passes on to what stands behind its label.
  follow_mark : (t : tree.State) (x : Term) (before : List Instr) (j : ℕ) (l : Layout) (brk cont : ℕ) (z : Table) (k : Items) (s : State) (n : ℕ)
      (a : Table) (w : Words)
      → HasAt m.code s.place ((before ++ (branch j ∷ label j ∷ [])) ++ code_of l brk cont) → ArePlain before → Stands l k brk cont
      → Behind (s.place + length ((before ++ (branch j ∷ label j ∷ [])) ++ code_of l brk cont)) z k
      → (b c : Table) → Passes m Holds before a b → IsClean b → IsNew c → Lowered m Holds IsClean IsNew g x l c z → Holds a s w
      → tree_step t ≡ Silent (tree.state (push x (chain_of k)) w n) → NeverWrong tree_step t → IsSmall N (push x (chain_of k))
      → front (push x (chain_of k)) < front t.chain
      → Owes (Silent (tree.state (push x (chain_of k)) w n)) t (at_count s n)
  follow_mark t x before j l brk cont z k s n a w here plain stands behind b c passes clean begun lowered holds turn sound small less =
      let code = code_of l brk cont in
      let mark = branch j ∷ label j ∷ [] in
      let at = s.place + length before in
      let ahead = code_front m.code s.place (before ++ mark) code here in
      let rest = code_back m.code s.place before mark ahead in
      let e : s.place + length (before ++ mark) ≡ at + 1 + 1 = omega (arith, length-append before mark) in
      let v : s.place + length ((before ++ mark) ++ code) ≡ at + 1 + 1 + length code = omega (arith, length-append (before ++ mark) code, e) in
      let start = reached.at_once g m settled Table Holds IsClean IsNew carries s n a w holds in
      let r1 = reached.passes g m settled Table Holds IsClean IsNew carries s n s.place before a b w (code_front m.code s.place before mark ahead)
      plain passes start in
      let r2 = reached.branches g m settled Table Holds IsClean IsNew carries s n at (at + 1 + 1) j b w rest.0 (at + 1, rest.1.0, refl)
      (omega arith) r1 in
      let r3 = reached.renews g m settled Table Holds IsClean IsNew carries s n (at + 1 + 1) b c w clean begun r2 in
      comes t (push x (chain_of k)) w s n (at + 1 + 1) c (Rest x l brk cont z ∷ k) r3
      (subst (λ q. HasAt m.code q code) e (code_back m.code s.place (before ++ mark) code here), lowered, stands, subst (λ q. Behind q z k) v behind)
      refl turn sound small (inr less)

  -- A SWITCH.
  abbrev switch_tail : (i e : ℕ) → Instr → List Instr → List Instr
  switch_tail i e choice code = merge e ∷ choice ∷ label i ∷ (code ++ (branch e ∷ label e ∷ []))

  length_switch : (front code : List Instr) (p i e : ℕ) (choice : Instr)
      → p + length (front ++ switch_tail i e choice code) ≡ p + length front + 1 + 1 + 1 + length code + 1 + 1
  length_switch front code p i e choice =
      let a = length-append front (switch_tail i e choice code) in
      let b = length-append code (branch e ∷ label e ∷ []) in
      omega (arith, a, b)

  abbrev FindsAt : ℕ → Option (List Link) → Option ℕ → Type 0
  FindsAt p c o = Finds g m settled Table Holds IsClean IsNew carries p c o

  -- at the case that was found, or behind the switch
  switch_lands : (t : tree.State) (x : Term) (s : State) (n at p q e r v : ℕ) (body : Layout) (a z : Table) (w : Words) (k : Items)
      (c : Option (List Link)) (o : Option ℕ)
      → slice_get m.code at ≡ Some (switch r e body) → at < p → at < q → Labels m settled e q → IsClean a → IsNew z → Behind q z k → FindsAt p c o
      → target v (unwrap_or (default body) e) (pairs (cases body)) ≡ unwrap_or o e
      → ReachesWith g m settled Table Holds IsClean IsNew carries r (Word v) s n at a w → tree_step t ≡ Silent
      (tree.state (unwrap_or c (chain_of k)) w n)
      → NeverWrong tree_step t → Found N x (Out ∷ chain_of k) c → IsSmall N (chain_of k) → size x + front (chain_of k) < front t.chain
      → Owes (Silent (tree.state (unwrap_or c (chain_of k)) w n)) t (at_count s n)
  switch_lands t x s n at p q e r v body a z w k (Some chain) (Some to) here lp lq out clean begun behind f target reach turn sound found small less =
      let labelled = subst (λ y. Labels m settled y f.q) (sym target) f.labelled in
      let r1 = reached.switches g m settled Table Holds IsClean IsNew carries r v s n at f.q e body a w here labelled (omega (arith, f.ahead, lp))
      reach in
      let r2 = reached.renews g m settled Table Holds IsClean IsNew carries s n f.q a f.begun w clean f.is_begun r1 in
      comes t chain w s n f.q f.begun f.items r2 f.after f.same turn sound found.1 (inr (omega (arith, found.0, less)))
  switch_lands t x s n at p q e r v body a z w k None None here lp lq out clean begun behind f target reach turn sound found small less =
      let labelled = subst (λ y. Labels m settled y q) (sym target) out in
      let r1 = reached.switches g m settled Table Holds IsClean IsNew carries r v s n at q e body a w here labelled lq reach in
      let r2 = reached.renews g m settled Table Holds IsClean IsNew carries s n q a z w clean begun r1 in
      comes t (chain_of k) w s n q z k r2 behind refl turn sound small (inr (omega (arith, less)))
  switch_lands t x s n at p q e r v body a z w k (Some chain) None here lp lq out clean begun behind f target reach turn sound found small less =
      absurd f
  switch_lands t x s n at p q e r v body a z w k None (Some to) here lp lq out clean begun behind f target reach turn sound found small less =
      absurd f

  follow_switch : (on x : Term) (l : Layout) (brk cont : ℕ) (z : Table) (k : Items) (s : State) (n : ℕ) (a : Table) (w : Words) (o : Option Value)
      → Behind s.place a (Rest (term.Switch on x) l brk cont z ∷ k) → Holds a s w → value g m.setting w on ≡ o
      → tree_step (tree.state (Run (term.Switch on x) ∷ chain_of k) w n) ≡ tree.on_word o (λ v. Silent (tree.state (switched v x (chain_of k)) w n))
      → NeverWrong tree_step (tree.state (Run (term.Switch on x) ∷ chain_of k) w n) → IsSmall N (Run (term.Switch on x) ∷ chain_of k)
      → Owes (tree.on_word o (λ v. Silent (tree.state (switched v x (chain_of k)) w n))) (tree.state (Run (term.Switch on x) ∷ chain_of k) w n)
      (at_count s n)
  follow_switch on x l brk cont z k s n a w None h holds v turn sound small =
      sound_here tree_step (tree.state (Run (term.Switch on x) ∷ chain_of k) w n) 0 0 sound turn
  follow_switch on x l brk cont z k s n a w (Some (IsTruth b)) h holds v turn sound small =
      sound_here tree_step (tree.state (Run (term.Switch on x) ∷ chain_of k) w n) 0 0 sound turn
  follow_switch on x l brk cont z k s n a w (Some (IsWord y)) h holds v turn sound small =
      let u = h.1 in
      let body = Both u.body (Straight u.back) in
      let f = with_layout (term.Switch on x) l (Both (Straight u.front) (Switched u.r u.inside u.merge body)) brk cont s.place a z k u.layout h in
      let code = code_of u.body u.merge cont ++ u.back in
      let last = branch u.merge ∷ label u.merge ∷ [] in
      let choice = switch u.r u.merge body in
      let tail = switch_tail u.inside u.merge choice code in
      let at = s.place + length u.front in
      let p = at + 1 + 1 + 1 in
      let rest = code_back m.code s.place u.front tail f.0 in
      let st = f.2 in
      let back = code_back m.code p code last rest.1.1.1 in
      let q = p + length code + 1 + 1 in
      let end = length_switch u.front code s.place u.inside u.merge choice in
      let behind = subst (λ c. Behind c z k) end f.3 in
      let out : Labels m settled u.merge q = (p + length code + 1, back.1.0, refl) in
      let closes : Behind (p + length code) u.is_body.last (Closes u.merge ∷ k) =
      (u.is_body.is_clean, back.0, record { q = q; labelled = out; ahead = omega arith; begun = z; is_begun = u.behind; then = behind }) in
      let inner = within_body x u.body u.back last u.merge cont p (Closes u.merge ∷ k) u.is_body rest.1.1.1
      (record { in_loop = st.in_loop; in_any = true; placed = st.placed.1.0; breaks = λ t. refl; continues = st.continues }) st.placed.1.1 closes in
      let js = Pass u.back u.is_body.last ∷ Closes u.merge ∷ k in
      let case_found = finds g m settled Table Holds IsClean IsNew carries x u.body (Some y) u.merge cont p u.is_body.begun u.is_body.ended js inner
      in
      let default_found = finds g m settled Table Holds IsClean IsNew carries x u.body None u.merge cont p u.is_body.begun u.is_body.ended js inner in
      let chain = Out ∷ chain_of k in
      let either = finds_either g m settled Table Holds IsClean IsNew carries p (behind_mark (Some y) x chain) (behind_mark None x chain)
      (mark_label (Some y) u.body) (mark_label None u.body) case_found default_found in
      let start = reached.at_once g m settled Table Holds IsClean IsNew carries s n a w holds in
      let r1 = reached.measures g m settled Table Holds IsClean IsNew carries s n s.place on u.front a u.clean u.r w y
      (code_front m.code s.place u.front tail f.0) st.placed.0 u.measures v start in
      let r2 = reached.merges_with g m settled Table Holds IsClean IsNew carries u.r _ s n at u.merge u.clean w rest.0 r1 in
      let few : size x + front chain < N = omega (arith, small.0) in
      switch_lands (tree.state (Run (term.Switch on x) ∷ chain_of k) w n) x s n (at + 1) p q u.merge u.r y body u.clean z w k
      (or_else (behind_mark (Some y) x chain) (behind_mark None x chain)) (first_of (mark_label (Some y) u.body) (mark_label None u.body))
      rest.1.0 (omega arith) (omega arith) out u.is_clean u.behind behind either (switch_target y u.merge u.body u.back) r2 turn sound
      (found_else N x chain (behind_mark (Some y) x chain) (behind_mark None x chain) (found N (Some y) x chain few small.1)
      (found N None x chain few small.1))
      small.1 (omega arith)

  -- EACH STATEMENT.
  leaf_owes : (x : Term) (l : Layout) (brk cont : ℕ) (z : Table) (k : Items) (s : State) (n : ℕ) (a : Table) (w : Words) → size x ≡ 1
      → (u : (code : List Instr) × (l ≡ Straight code) × Does m Holds g x code a z) → Behind s.place a (Rest x l brk cont z ∷ k) → Holds a s w
      → rechained (chain_of k) n (tree.run g m.setting [] w 0 x) ≡ tree_step (tree.state (Run x ∷ chain_of k) w n)
      → NeverWrong tree_step (tree.state (Run x ∷ chain_of k) w n) → IsSmall N (Run x ∷ chain_of k)
      → Owes (tree_step (tree.state (Run x ∷ chain_of k) w n)) (tree.state (Run x ∷ chain_of k) w n) (at_count s n)
  leaf_owes x l brk cont z k s n a w one u h holds e sound small =
      subst (λ turn. Owes turn (tree.state (Run x ∷ chain_of k) w n) (at_count s n)) e
      (follow_leaf x l brk cont z k s n a w one u.0 u.1 u.2 h holds (sym e) sound small)

  follow_rest : (x : Term) (l : Layout) (brk cont : ℕ) (z : Table) (k : Items) → FollowsFrom k → FollowsFrom (Rest x l brk cont z ∷ k)
  follow_rest (term.Word a) l brk cont z i next s n x w h holds sound small = absurd h.1
  follow_rest (term.Scratch a) l brk cont z i next s n x w h holds sound small = absurd h.1
  follow_rest (term.Thread a b) l brk cont z i next s n x w h holds sound small = absurd h.1
  follow_rest (term.Read a b) l brk cont z i next s n x w h holds sound small = absurd h.1
  follow_rest (term.Length a) l brk cont z i next s n x w h holds sound small = absurd h.1
  follow_rest (term.One a b) l brk cont z i next s n x w h holds sound small = absurd h.1
  follow_rest (term.Two a b c) l brk cont z i next s n x w h holds sound small = absurd h.1
  follow_rest (term.Three a b c d) l brk cont z i next s n x w h holds sound small = absurd h.1
  follow_rest (term.Insert a b c d) l brk cont z i next s n x w h holds sound small = absurd h.1
  follow_rest (term.First a b c) l brk cont z i next s n x w h holds sound small = absurd h.1
  follow_rest (term.Second a b c) l brk cont z i next s n x w h holds sound small = absurd h.1
  follow_rest (term.Quotient a b) l brk cont z i next s n x w h holds sound small = absurd h.1
  follow_rest (term.Product a b) l brk cont z i next s n x w h holds sound small = absurd h.1
  follow_rest (term.Pick a b c) l brk cont z i next s n x w h holds sound small = absurd h.1
  follow_rest (term.Compare a b c) l brk cont z i next s n x w h holds sound small = absurd h.1
  follow_rest (term.Both a b) l brk cont z i next s n x w h holds sound small = absurd h.1
  follow_rest (term.Set v e) l brk cont z k next s n a w h holds sound small =
      leaf_owes (term.Set v e) l brk cont z k s n a w refl h.1 h holds (set_alike g m.setting (chain_of k) n w v e) sound small
  follow_rest (term.Write space at e) l brk cont z k next s n a w h holds sound small =
      leaf_owes (term.Write space at e) l brk cont z k s n a w refl h.1 h holds (write_alike g m.setting (chain_of k) n w space at e) sound small
  follow_rest (term.Load v room at) l brk cont z k next s n a w h holds sound small =
      leaf_owes (term.Load v room at) l brk cont z k s n a w refl h.1 h holds (load_alike g m.setting (chain_of k) n w v room at) sound small
  follow_rest (term.Store room at e) l brk cont z k next s n a w h holds sound small =
      leaf_owes (term.Store room at e) l brk cont z k s n a w refl h.1 h holds (store_alike g m.setting (chain_of k) n w room at e) sound small
  follow_rest (term.Atomic v room at kind x y) l brk cont z k next s n a w h holds sound small =
      leaf_owes (term.Atomic v room at kind x y) l brk cont z k s n a w refl h.1 h holds
      (atomic_alike g m.setting (chain_of k) n w v room at kind x y) sound small
  follow_rest (term.Sync threads scope classes) l brk cont z k next s n a w h holds sound small =
      leaf_owes (term.Sync threads scope classes) l brk cont z k s n a w refl h.1 h holds
      (sync_alike g m.setting (chain_of k) n w threads scope classes) sound small
  follow_rest (term.Guard e x) l brk cont z k next s n a w h holds sound small = follow_guard e x l brk cont z k s n a w (value g m.setting w e) h
      holds refl refl sound small
  follow_rest (term.If e x y) l brk cont z k next s n a w h holds sound small = follow_choice e x y l brk cont z k s n a w (value g m.setting w e) h
      holds refl refl sound small
  follow_rest (term.Loop x) l brk cont z k next s n a w h holds sound small = follow_loop x l brk cont z k s n a w h holds sound small
  follow_rest (term.Switch on x) l brk cont z k next s n a w h holds sound small = follow_switch on x l brk cont z k s n a w (value g m.setting w on)
      h holds refl refl sound small
  follow_rest (term.Case v x) l brk cont z k next s n a w h holds sound small =
      let u = h.1 in
      let f = with_layout (term.Case v x) l (Both (Both (Straight u.0) (CaseAt v u.1)) u.2) brk cont s.place a z k u.3 h in
      let st = f.2 in
      let e = front_push x (chain_of k) in
      follow_mark (tree.state (Run (term.Case v x) ∷ chain_of k) w n) x u.0 u.1 u.2 brk cont z k s n a w f.0 st.placed.0.0
      (record { in_loop = st.in_loop; in_any = st.in_any; placed = st.placed.1; breaks = st.breaks; continues = st.continues }) f.3
      u.4.clean u.4.begun u.4.passes u.4.is_clean u.4.is_begun u.4.lowers holds refl sound
      (small_push N x (chain_of k) (omega (arith, small.0)) small.1) (omega (arith, e))
  follow_rest (term.Default x) l brk cont z k next s n a w h holds sound small =
      let u = h.1 in
      let f = with_layout (term.Default x) l (Both (Both (Straight u.0) (DefaultAt u.1)) u.2) brk cont s.place a z k u.3 h in
      let st = f.2 in
      let e = front_push x (chain_of k) in
      follow_mark (tree.state (Run (term.Default x) ∷ chain_of k) w n) x u.0 u.1 u.2 brk cont z k s n a w f.0 st.placed.0.0
      (record { in_loop = st.in_loop; in_any = st.in_any; placed = st.placed.1; breaks = st.breaks; continues = st.continues }) f.3
      u.4.clean u.4.begun u.4.passes u.4.is_clean u.4.is_begun u.4.lowers holds refl sound
      (small_push N x (chain_of k) (omega (arith, small.0)) small.1) (omega (arith, e))
  follow_rest term.Break l brk cont z k next s n a w h holds sound small = follow_break l brk cont z k s n a w h holds sound small
  follow_rest term.Continue l brk cont z k next s n a w h holds sound small = follow_continue l brk cont z k s n a w h holds sound small
  follow_rest term.Return l brk cont z k next s n a w h holds sound small = follow_return l brk cont z k s n a w h holds sound small
  follow_rest (term.Then x y) l brk cont z k next s n a w h holds sound small =
      let u = h.1 in
      let f = with_layout (term.Then x y) l (Both u.1 u.2) brk cont s.place a z k u.3 h in
      follow_rest x u.1 brk cont u.0 (Rest y u.2 brk cont z ∷ k) (follow_rest y u.2 brk cont z k next) s n a w
      (two_after g m settled Table Holds IsClean IsNew carries x y u.1 u.2 brk cont s.place a u.0 z k f.0 f.2 u.4 u.5 f.3) holds sound small
  follow_rest term.Nothing l brk cont z k next s n a w h holds sound small =
      let u = h.1 in
      let f = with_layout term.Nothing l (Straight []) brk cont s.place a z k u.0 h in
      let e : s.place + 0 ≡ s.place = omega arith in
      next s n z w (subst (λ q. Behind q z k) e f.3) (subst (λ b. Holds b s w) u.1 holds) sound small

  follow : (k : Items) → FollowsFrom k
  follow [] s n a w h holds sound small = (0, at_count s n, refl, count_ends m settled s n (leave_step m settled s h), refl)
  follow (Rest x l brk cont z ∷ k) s n a w h holds sound small = follow_rest x l brk cont z k (follow k) s n a w h holds sound small
  follow (Pass code z ∷ k) s n a w h holds sound small = follow_pass code z k (follow k) s n a w h holds sound small
  follow (Jump to ∷ k) s n a w h holds sound small = follow_jump to k (follow k) s n a w h holds sound small
  follow (Turns x i j c e l back ∷ k) s n a w h holds sound small = follow_turns x i j c e l back k s n a w h holds sound small
  follow (Closes to ∷ k) s n a w h holds sound small = follow_closes to k s n a w h holds sound small

  keeps : (t : tree.State) (c : Counted State) → Same t c → Owes (tree_step t) t c
  keeps t c r =
      let at : tree.state (chain_of r.items) t.words c.count ≡ t = ap (λ k. tree.state k t.words c.count) (sym r.chain) ∙ ap
      (λ n. tree.state t.chain t.words n) (sym r.count) in
      subst (λ u. Owes (tree_step u) u c) at
      (onward r.items c.state c.count r.place r.table t.words (follow r.items) r.reached r.here
      (subst (λ u. NeverWrong tree_step u) (sym at) r.sound) (subst (IsSmall N) r.chain r.small))

  pub same_events : (t : tree.State) (c : Counted State) → Same t c → SameLanes tree_step (right m settled) t c
  same_events t c r = same_lanes tree_step (right m settled) Same Ended measure N keeps (λ u d q. small_front N u.chain q.small) t c r

  -- between the same events the module's lane goes back as often as the tree's begins a loop anew
  pub same_turns : (events : List Event) (answers : List ℕ) (t u : tree.State) (c d : Counted State) → Same t c → Makes tree_step t events answers u
      → Makes (right m settled) c events answers d → u.turns ≡ d.count
  same_turns events answers t u c d r h k =
      (related tree_step (right m settled) Same Ended measure N keeps (λ v e q. small_front N v.chain q.small) events answers t u c d r h k).count

  -- FROM THE START. The lanes stand side by side where the tree's begins and the module's stands in front of the layout's code.
  pub begins : (x : Term) (l : Layout) (s : State) (a z : Table) (w : Words) → size x < N → HasAt m.code s.place (code_of l 0 0 ++ (leave ∷ []))
      → Lowered m Holds IsClean IsNew g x l a z → Placed l false false → Holds a s w → NeverWrong tree_step (tree.state (push x []) w 0)
      → Same (tree.state (push x []) w 0) (at_count s 0)
  begins x l s a z w few here lowered placed holds sound =
      let e : size x + 0 < N = omega (arith, few) in
      record {
        items = Rest x l 0 0 z ∷ [];
        table = a;
        place = s.place;
        reached = reached.at_once g m settled Table Holds IsClean IsNew carries s 0 a w holds;
        here = (
          code_front m.code s.place (code_of l 0 0) (leave ∷ []) here,
          lowered,
          record { in_loop = false; in_any = false; placed = placed; breaks = λ t. absurd (cc); continues = λ t. absurd (cc) },
          (code_back m.code s.place (code_of l 0 0) (leave ∷ []) here).0,
        );
        chain = refl;
        count = refl;
        sound = sound;
        small = small_push N x [] e (omega (arith, few));
      }
