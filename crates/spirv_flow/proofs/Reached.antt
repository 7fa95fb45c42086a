-- Where the module's lane comes by silent steps that go forward.
use Rattle.std.proofs.Common.{◌≡◌, ℕ, ◌+◌, ◌<◌, List, length, Some, Bool, true, refl, sym, ap, ◌∙◌, subst, arith}
use Rattle.std.specs.Prelude.{slice_get, cond, unwrap_or}
use Rattle.word_base.specs.Lanes.{Silent, Goes}
use Rattle.spirv_words.specs.Text.{Instr}
use Rattle.spirv_words.specs.Values.{Value, Word, Truth}
use Rattle.spirv_words.specs.Globals.{Machine}
use Rattle.spirv_words.specs.Lane.{State, step, goes_to, target}
use Rattle.shader_tree.specs.Terms.{Term}
use Rattle.shader_tree.specs.Values.{Spaces, Words, word, truth, value}
use Rattle.word_base.specs.Counted.{at_count}
use Rattle.spirv_flow.specs.Layout.{Layout, branch, merge, loop_merge, choose, switch, cases, default, pairs, ArePlain}
use Rattle.spirv_emit.specs.Lanes.{HasAt}
use Rattle.spirv_flow.specs.Pieces.{IsSettled, CarriesOver, Gives, Passes, Always, Tests, Measures}
use Rattle.spirv_flow.proofs.Steps.{Labels, right, branch_step, merge_step, loop_merge_step, choose_step, switch_step, count_on, straight}
use Rattle.word_base.proofs.Walks.{goes_on}

module _ (g : Spaces) (m : Machine) (settled : IsSettled m.code) (Table : Type 0) (Holds : Table → State → Words → Type 0)
    (IsClean IsNew : Table → Type 0)
    (carries : CarriesOver Holds IsClean IsNew) where
  -- From the state s with that count the lane comes to the place p, and has the words by the table a.
  pub record Reaches (s : State) (n p : ℕ) (a : Table) (w : Words) : Type 0 where
    pub steps : ℕ
    pub to : State
    pub goes : Goes (right m settled) steps (at_count s n) (at_count to n)
    pub place : to.place ≡ p
    pub holds : Holds a to w

  -- and an id has a value
  pub record ReachesWith (r : ℕ) (v : Value) (s : State) (n p : ℕ) (a : Table) (w : Words) : Type 0 where
    pub reached : Reaches s n p a w
    pub value : reached.to.values r ≡ Some v

  pub at_once : (s : State) (n : ℕ) (a : Table) (w : Words) → Holds a s w → Reaches s n s.place a w
  at_once s n a w h = record { steps = 0; to = s; goes = refl; place = refl; holds = h }

  pub renews : (s : State) (n p : ℕ) (a b : Table) (w : Words) → IsClean a → IsNew b → Reaches s n p a w → Reaches s n p b w
  renews s n p a b w clean begun r =
      record { steps = r.steps; to = r.to; goes = r.goes; place = r.place; holds = carries.renewed a b r.to w clean begun r.holds }

  pub renewed_some : (s : State) (n p : ℕ) (a b : Table) (w : Words) (clean : IsClean a) (begun : IsNew b) (r : Reaches s n p a w) → 0 < r.steps
      → 0 < (renews s n p a b w clean begun r).steps
  unfolding renews
  renewed_some s n p a b w clean begun r l = l

  -- one step more, to a later place
  one_more : (s : State) (n p q : ℕ) (a : Table) (w : Words) (r : Reaches s n p a w) → p < q → step m r.to ≡ Silent (goes_to r.to q)
      → Reaches s n q a w
  one_more s n p q a w r l e = record {
    steps = r.steps + 1;
    to = goes_to r.to q;
    goes = goes_on (right m settled) r.steps 1 (at_count s n) (at_count r.to n) (at_count (goes_to r.to q) n) r.goes
        (at_count (goes_to r.to q) n, count_on m settled r.to (goes_to r.to q) n e (omega (arith, l, r.place)), refl);
    place = refl;
    holds = carries.moved a r.to w q r.holds;
  }

  at_place : (s : State) (n p : ℕ) (a : Table) (w : Words) (i : Instr) (r : Reaches s n p a w) → slice_get m.code p ≡ Some i
      → slice_get m.code r.to.place ≡ Some i
  at_place s n p a w i r h = subst (λ q. slice_get m.code q ≡ Some i) (sym r.place) h

  pub branches : (s : State) (n p q l : ℕ) (a : Table) (w : Words) → slice_get m.code p ≡ Some (branch l) → Labels m settled l q → p < q
      → Reaches s n p a w
      → Reaches s n q a w
  branches s n p q l a w h g k r = one_more s n p q a w r k (branch_step m settled r.to l q (at_place s n p a w (branch l) r h) g)

  pub some_steps : (s : State) (n p q l : ℕ) (a : Table) (w : Words) (h : slice_get m.code p ≡ Some (branch l)) (e : Labels m settled l q) (k : p < q)
      (r : Reaches s n p a w) → 0 < (branches s n p q l a w h e k r).steps
  unfolding branches one_more
  some_steps s n p q l a w h e k r = omega arith

  next_place : (s t : State) (p : ℕ) → s.place ≡ p → step m s ≡ Silent (goes_to s (s.place + 1)) → step m s ≡ Silent (goes_to s (p + 1))
  next_place s t p e h = h ∙ ap (λ q. Silent (goes_to s (q + 1))) e

  pub merges : (s : State) (n p l : ℕ) (a : Table) (w : Words) → slice_get m.code p ≡ Some (merge l) → Reaches s n p a w → Reaches s n (p + 1) a w
  merges s n p l a w h r =
      one_more s n p (p + 1) a w r (omega arith) (next_place r.to s p r.place (merge_step m settled r.to l (at_place s n p a w (merge l) r h)))

  pub loop_merges : (s : State) (n p l c : ℕ) (a : Table) (w : Words) → slice_get m.code p ≡ Some (loop_merge l c) → Reaches s n p a w
      → Reaches s n (p + 1) a w
  loop_merges s n p l c a w h r =
      one_more s n p (p + 1) a w r (omega arith)
      (next_place r.to s p r.place (loop_merge_step m settled r.to l c (at_place s n p a w (loop_merge l c) r h)))

  pub merges_with : (i : ℕ) (v : Value) (s : State) (n p l : ℕ) (a : Table) (w : Words) → slice_get m.code p ≡ Some (merge l)
      → ReachesWith i v s n p a w
      → ReachesWith i v s n (p + 1) a w
  unfolding merges one_more
  merges_with i v s n p l a w h r = record { reached = merges s n p l a w h r.reached; value = r.value }

  pub chooses : (i : ℕ) (b : Bool) (s : State) (n p q y z : ℕ) (a : Table) (w : Words) → slice_get m.code p ≡ Some (choose i y z)
      → Labels m settled (cond b y z) q → p < q → ReachesWith i (Truth b) s n p a w → Reaches s n q a w
  chooses i b s n p q y z a w h g k r =
      one_more s n p q a w r.reached k (choose_step m settled r.reached.to i y z q b (at_place s n p a w (choose i y z) r.reached h) r.value g)

  pub switches : (i x : ℕ) (s : State) (n p q l : ℕ) (body : Layout) (a : Table) (w : Words) → slice_get m.code p ≡ Some (switch i l body)
      → Labels m settled (target x (unwrap_or (default body) l) (pairs (cases body))) q → p < q → ReachesWith i (Word x) s n p a w → Reaches s n q a w
  switches i x s n p q l body a w h g k r =
      one_more s n p q a w r.reached k (switch_step m settled r.reached.to i l x q body (at_place s n p a w (switch i l body) r.reached h) r.value g)

  -- through straight code
  pub passes : (s : State) (n p : ℕ) (code : List Instr) (a b : Table) (w : Words) → HasAt m.code p code → ArePlain code → Passes m Holds code a b
      → Reaches s n p a w
      → Reaches s n (p + length code) b w
  passes s n p code a b w h plain law r =
      let here = subst (λ q. HasAt m.code q code) (sym r.place) h in
      let k = law r.to w here r.holds in
      record {
        steps = r.steps + length code;
        to = k.to;
        goes = goes_on (right m settled) r.steps (length code) (at_count s n) (at_count r.to n) (at_count k.to n) r.goes
            (straight m settled code (length code) r.to k.to n here plain (omega arith) k.goes);
        place = k.place ∙ ap (λ q. q + length code) r.place;
        holds = k.holds;
      }

  gives : (s : State) (n p : ℕ) (code : List Instr) (a b : Table) (i : ℕ) (v : Value) (w : Words) → HasAt m.code p code → ArePlain code
      → (r : Reaches s n p a w) → Gives m Holds code b i v r.to w → ReachesWith i v s n (p + length code) b w
  gives s n p code a b i v w h plain r k = record {
    reached = record {
      steps = r.steps + length code;
      to = k.arrives.to;
      goes = goes_on (right m settled) r.steps (length code) (at_count s n) (at_count r.to n) (at_count k.arrives.to n) r.goes
          (straight m settled code (length code) r.to k.arrives.to n (subst (λ q. HasAt m.code q code) (sym r.place) h) plain
          (omega arith) k.arrives.goes);
      place = k.arrives.place ∙ ap (λ q. q + length code) r.place;
      holds = k.arrives.holds;
    };
    value = k.value;
  }

  pub always : (s : State) (n p : ℕ) (code : List Instr) (a b : Table) (i : ℕ) (w : Words) → HasAt m.code p code → ArePlain code
      → Always m Holds code a b i
      → Reaches s n p a w → ReachesWith i (Truth true) s n (p + length code) b w
  always s n p code a b i w h plain law r =
      gives s n p code a b i (Truth true) w h plain r (law r.to w (subst (λ q. HasAt m.code q code) (sym r.place) h) r.holds)

  pub tests : (s : State) (n p : ℕ) (e : Term) (code : List Instr) (a b : Table) (i : ℕ) (w : Words) (t : Bool) → HasAt m.code p code → ArePlain code
      → Tests m Holds g e code a b i → value g m.setting w e ≡ truth t → Reaches s n p a w → ReachesWith i (Truth t) s n (p + length code) b w
  tests s n p e code a b i w t h plain law v r =
      gives s n p code a b i (Truth t) w h plain r (law r.to w t (subst (λ q. HasAt m.code q code) (sym r.place) h) r.holds v)

  pub measures : (s : State) (n p : ℕ) (e : Term) (code : List Instr) (a b : Table) (i : ℕ) (w : Words) (x : ℕ) → HasAt m.code p code → ArePlain code
      → Measures m Holds g e code a b i → value g m.setting w e ≡ word x → Reaches s n p a w → ReachesWith i (Word x) s n (p + length code) b w
  measures s n p e code a b i w x h plain law v r =
      gives s n p code a b i (Word x) w h plain r (law r.to w x (subst (λ q. HasAt m.code q code) (sym r.place) h) r.holds v)
