-- Plans: silent steps in front of them and behind them, and the parts of an instruction one by one.
use Rattle.std.proofs.Common.{◌≡◌, ℕ, ◌+◌, ◌<◌, ◌≤◌, Bool, true, false, List, [], ◌∷◌, ◌++◌, map, Option, Some, None, refl, sym, ap, subst, ◌∙◌, arith}
use Rattle.std.specs.Prelude.{slice_index, if◌then◌else◌}
use Rattle.word_base.specs.declared.event.Event.{Event}
use Rattle.word_base.specs.Lanes.{Goes, Asks, Silent}
use Rattle.word_base.specs.Registers.{Registers}
use Rattle.word_base.specs.Settings.{Setting}
use Rattle.tpf_program.specs.Plans.{made, answered}
use Rattle.shader_tree.specs.Chains.{Link, Run, push}
use Rattle.shader_tree.specs.Lane.{State, state, step, on_truth}
use Rattle.shader_tree.specs.Plans.{Plans, Reaches, Left, Performs}
use Rattle.shader_tree.specs.Terms.{Term, Guard}
use Rattle.shader_tree.specs.Values.{Spaces, Words, words, value, truth}
use Rattle.shader_tree.specs.Walks.{Each}
use Rattle.raise_operands.specs.Laws.{RunLaws}
use Rattle.raise_operands.specs.Raising.{chained}
use Rattle.raise_operands.specs.Runs.{Leads, LeadsAll, pushed}

pub pushed_append : (xs ys : List Term) (k : List Link) → pushed (xs ++ ys) k ≡ pushed xs (pushed ys k)
pushed_append [] ys k = refl
pushed_append (x ∷ xs) ys k = ap (push x) (pushed_append xs ys k)

-- the answers that scratch words hold
abbrev pub Slots : List ℕ → List ℕ → Words → Type 0
Slots [] [] v = Unit {0}
Slots (d ∷ ds) (a ∷ answers) v = (v.scratch (12 + d) ≡ a) × Slots ds answers v
Slots ds answers v = ⊥

pub slots_map : (ds answers : List ℕ) (v : Words) → Slots ds answers v → map (λ d. v.scratch (12 + d)) ds ≡ answers
slots_map [] [] v h = refl
slots_map [] (a ∷ answers) v h = absurd h
slots_map (d ∷ ds) [] v h = absurd h
slots_map (d ∷ ds) (a ∷ answers) v h =
    ap (λ x. x ∷ map (λ e. v.scratch (12 + e)) ds) h.0 ∙ ap (λ xs. a ∷ xs) (slots_map ds answers v h.1)

pub first_slot : (answers : List ℕ) (v : Words) → Slots (0 ∷ []) answers v → v.scratch 12 ≡ slice_index answers 0
first_slot [] v h = absurd h
first_slot (a ∷ answers) v h = h.0

-- components that rise
abbrev pub Rises : (ℕ → Type 0) → List ℕ → Type 0
Rises P [] = Unit {0}
Rises P (d ∷ ds) = P d × Each (λ e. d < e) ds × Rises P ds

module _ (run : RunLaws) (g : Spaces) (s : Setting) where
  pub after : (es : List Event) (n : ℕ) (x y : State) (Q : List ℕ → State → Type 0) → Goes (step g s) n x y → Plans (step g s) y es Q
      → Plans (step g s) x es Q
  after [] n x y Q h p = let z = run.goes_on g s n p.0 x y p.1 h p.2 in (z.0, p.1, z.1, p.3)
  after (e ∷ es) n x y Q h p = let z = run.goes_on g s n p.0 x y p.1 h p.3 in (z.0, p.1, p.2, z.1, p.4, p.5)

  pub weaker : (es : List Event) (x : State) (Q R : List ℕ → State → Type 0) → ((answers : List ℕ) (u : State) → Q answers u → R answers u)
      → Plans (step g s) x es Q → Plans (step g s) x es R
  weaker [] x Q R f p = (p.0, p.1, p.2, f [] p.1 p.3)
  weaker (e ∷ es) x Q R f p = (
    p.0,
    p.1,
    p.2,
    p.3,
    p.4,
    λ a l. weaker es (p.2 a) (λ answers u. Q (a ∷ answers) u) (λ answers u. R (a ∷ answers) u)
        (λ answers u q. f (a ∷ answers) u q) (p.5 a l),
  )

  pub behind : (es : List Event) (x : State) (Q R : List ℕ → State → Type 0) → ((answers : List ℕ) (u : State) → Q answers u → Reaches (step g s) u
      (R answers))
      → Plans (step g s) x es Q → Plans (step g s) x es R
  behind [] x Q R f p =
      let r = f [] p.1 p.3 in
      let z = run.goes_on g s p.0 r.0 x p.1 r.1 p.2 r.2 in
      (z.0, r.1, z.1, r.3)
  behind (e ∷ es) x Q R f p = (
    p.0,
    p.1,
    p.2,
    p.3,
    p.4,
    λ a l. behind es (p.2 a) (λ answers u. Q (a ∷ answers) u) (λ answers u. R (a ∷ answers) u)
        (λ answers u q. f (a ∷ answers) u q) (p.5 a l),
  )

  -- WHAT A PART DOES TO WORDS: one scratch word takes its answer, or none does.
  pub record Fill (fills : Bool) (n a : ℕ) (t u : Words) : Type 0 where
    pub answer : fills ≡ true → u.scratch n ≡ a
    pub others : (m : ℕ) → (m ≡ n → ⊥) → u.scratch m ≡ t.scratch m
    pub registers : u.registers ≡ t.registers

  -- A part without an event takes 0 silently; one with an event makes it and takes its answer.
  abbrev pub Job : Bool → ℕ → Term → Words → Option Event → Type 0
  Job fills n x t None = (u : Words) × Leads g s x t u × Fill fills n 0 t u
  Job fills n x t (Some e) =
      (k : List Link) (turns : ℕ)
      → (m : ℕ) × (y : State) × (to : ℕ → State) × Goes (step g s) m (state (push x k) t turns) y × (step g s y ≡ Asks e to)
      × ((a : ℕ) → (u : Words) × (to a ≡ state k u turns) × Fill fills n a t u)

  module _ (fills : Bool) (X : ℕ → Term) (E : ℕ → Option Event) (P : ℕ → Type 0) (Inv : Words → Type 0)
      (keeps : (n a : ℕ) (t u : Words) → 12 ≤ n → Fill fills n a t u → Inv t → Inv u)
      (jobs : (d : ℕ) → P d → (t : Words) → Inv t → Job fills (12 + d) (X d) t (E d)) where
    pub record Done (ds answers : List ℕ) (t : Words) (k : List Link) (turns : ℕ) (u : State) : Type 0 where
      pub words' : Words
      pub is : u ≡ state k words' turns
      pub inv : Inv words'
      pub slots : fills ≡ true → Slots ds answers words'
      pub others : (m : ℕ) → Each (λ d. m ≡ 12 + d → ⊥) ds → words'.scratch m ≡ t.scratch m

    apart : (d : ℕ) (ds : List ℕ) → Each (λ e. d < e) ds → Each (λ e. 12 + d ≡ 12 + e → ⊥) ds
    apart d [] h = tt
    apart d (e ∷ ds) h = (λ q. let l = h.0 in omega arith, apart d ds h.1)

    more : (d a : ℕ) (ds answers : List ℕ) (t v : Words) (k : List Link) (turns : ℕ) (u : State) → Each (λ e. d < e) ds → Fill fills (12 + d) a t v
        → Done ds answers v k turns u → Done (d ∷ ds) (a ∷ answers) t k turns u
    more d a ds answers t v k turns u h f r = record {
      words' = r.words';
      is = r.is;
      inv = r.inv;
      slots = λ q. (r.others (12 + d) (apart d ds h) ∙ f.answer q, r.slots q);
      others = λ m o. r.others m o.1 ∙ f.others m o.0;
    }

    pub parts : (ds : List ℕ) → Rises P ds → (t : Words) → Inv t → (k : List Link) (turns : ℕ)
        → Plans (step g s) (state (pushed (map X ds) k) t turns) (made (map E ds)) (λ answers u. Done ds (answered (map E ds) answers) t k turns u)
    parts [] c t i k turns = (0, state k t turns, refl, record { words' = t; is = refl; inv = i; slots = λ q. tt; others = λ m o. refl })
    parts (d ∷ ds) c t i k turns = one (E d) (jobs d c.0 t i) (λ v j. parts ds c.2 v j k turns)
      where
        one : (o : Option Event) → Job fills (12 + d) (X d) t o
            → ((v : Words) → Inv v → Plans (step g s) (state (pushed (map X ds) k) v turns) (made (map E ds))
            (λ answers u. Done ds (answered (map E ds) answers) v k turns u))
            → Plans (step g s) (state (push (X d) (pushed (map X ds) k)) t turns) (made (o ∷ map E ds))
            (λ answers u. Done (d ∷ ds) (answered (o ∷ map E ds) answers) t k turns u)
        one None j rest =
            let l = j.1 (pushed (map X ds) k) turns in
            after (made (map E ds)) l.0 (state (push (X d) (pushed (map X ds) k)) t turns) (state (pushed (map X ds) k) j.0 turns) _ l.1
            (weaker (made (map E ds)) (state (pushed (map X ds) k) j.0 turns) (λ answers u. Done ds (answered (map E ds) answers) j.0 k turns u) _
            (λ answers u r. more d 0 ds (answered (map E ds) answers) t j.0 k turns u c.1 j.2 r)
            (rest j.0 (keeps (12 + d) 0 t j.0 (omega arith) j.2 i)))
        one (Some e) j rest =
            let q = j (pushed (map X ds) k) turns in (
              q.0,
              q.1,
              q.2,
              q.3,
              q.4,
              λ a l.
                  let r = q.5 a in
                  subst (λ z. Plans (step g s) z (made (map E ds)) (λ answers u. Done (d ∷ ds) (a ∷ answered (map E ds) answers) t k turns u))
                  (sym r.1)
                  (weaker (made (map E ds)) (state (pushed (map X ds) k) r.0 turns) (λ answers u. Done ds (answered (map E ds) answers) r.0 k turns u)
                  _
                  (λ answers u z. more d a ds (answered (map E ds) answers) t r.0 k turns u c.1 r.2 z)
                  (rest r.0 (keeps (12 + d) a t r.0 (omega arith) r.2 i))),
            )

  -- the words behind the parts
  pub record Filled (fills : Bool) (Inv : Words → Type 0) (ds answers : List ℕ) (k : List Link) (turns : ℕ) (u : State) : Type 0 where
    pub words' : Words
    pub is : u ≡ state k words' turns
    pub inv : Inv words'
    pub slots : fills ≡ true → Slots ds answers words'

  module _ (fills : Bool) (X : ℕ → Term) (E : ℕ → Option Event) (P : ℕ → Type 0) (Inv : Words → Type 0)
      (keeps : (n a : ℕ) (t u : Words) → 12 ≤ n → Fill fills n a t u → Inv t → Inv u)
      (jobs : (d : ℕ) → P d → (t : Words) → Inv t → Job fills (12 + d) (X d) t (E d)) where
    pub filled : (ds : List ℕ) → Rises P ds → (t : Words) → Inv t → (k : List Link) (turns : ℕ)
        → Plans (step g s) (state (pushed (map X ds) k) t turns) (made (map E ds)) (λ answers u. Filled fills Inv ds (answered (map E ds) answers) k
        turns u)
    filled ds c t i k turns =
        weaker (made (map E ds)) (state (pushed (map X ds) k) t turns) (λ answers u. Done fills X E P Inv keeps jobs ds (answered (map E ds) answers)
        t k turns u) (λ answers u. Filled fills Inv ds (answered (map E ds) answers) k turns u)
        (λ answers u d. record { words' = d.words'; is = d.is; inv = d.inv; slots = d.slots })
        (parts fills X E P Inv keeps jobs ds c t i k turns)

  -- Parts under one guard: with the guard open each makes its event, and with it shut none has one.
  nones : (F : ℕ → Option Event) (ds : List ℕ) → ((d : ℕ) → F d ≡ None) → map F ds ≡ map (λ d. None) ds
  nones F [] h = refl
  nones F (d ∷ ds) h = ap (λ x. x ∷ map F ds) (h d) ∙ ap (λ xs. None ∷ xs) (nones F ds h)

  none_made : (ds : List ℕ) → made (map (λ d. None) ds) ≡ []
  none_made [] = refl
  none_made (d ∷ ds) = none_made ds

  none_answered : (ds answers : List ℕ) → answered (map (λ d. None) ds) answers ≡ map (λ d. 0) ds
  none_answered [] answers = refl
  none_answered (d ∷ ds) answers = ap (λ xs. 0 ∷ xs) (none_answered ds answers)

  pub none_made_of : (F : ℕ → Option Event) (ds : List ℕ) → ((d : ℕ) → F d ≡ None) → [] ≡ made (map F ds)
  none_made_of F ds h = sym (ap made (nones F ds h) ∙ none_made ds)

  pub none_answered_of : (F : ℕ → Option Event) (ds answers : List ℕ) → ((d : ℕ) → F d ≡ None) → map (λ d. 0) ds ≡ answered (map F ds) answers
  none_answered_of F ds answers h = sym (ap (λ xs. answered xs answers) (nones F ds h) ∙ none_answered ds answers)

  module _ (fills : Bool) (X : ℕ → Term) (E : ℕ → Option Event) (P : ℕ → Type 0) (Inv : Words → Type 0)
      (keeps : (n a : ℕ) (t u : Words) → 12 ≤ n → Fill fills n a t u → Inv t → Inv u) (tested : Term) (ds : List ℕ) where
    pub under_one : (b : Bool) → (b ≡ true → (d : ℕ) → P d → (t : Words) → Inv t → Job fills (12 + d) (X d) t (E d))
        → (b ≡ false → (d : ℕ) → E d ≡ None)
        → Rises P ds → (t : Words) → Inv t → value g s t tested ≡ truth b → (fills ≡ true → Slots ds (map (λ d. 0) ds) t) → (k : List Link)
        (turns : ℕ)
        → Plans (step g s) (state (push (Guard tested (chained (map X ds))) k) t turns) (made (map E ds))
        (λ answers u. Filled fills Inv ds (answered (map E ds) answers) k turns u)
    under_one true jobs none c t i h z k turns =
        after (made (map E ds)) 1 (state (push (Guard tested (chained (map X ds))) k) t turns) (state (push (chained (map X ds)) k) t turns) _
        (state (push (chained (map X ds)) k) t turns, guard_step true t k turns h, refl)
        (subst (λ l. Plans (step g s) (state l t turns) (made (map E ds)) (λ answers u. Filled fills Inv ds (answered (map E ds) answers) k turns u))
        (sym (run.chained_is (map X ds) k))
        (filled fills X E P Inv keeps (jobs refl) ds c t i k turns))
      where
        guard_step : (b : Bool) (t : Words) (k : List Link) (turns : ℕ) → value g s t tested ≡ truth b
            → step g s (state (Run (Guard tested (chained (map X ds))) ∷ k) t turns) ≡ Silent
            (state (if b then push (chained (map X ds)) k else k) t turns)
        guard_step b t k turns h = ap (λ x. on_truth x (λ holds. Silent (state (if holds then push (chained (map X ds)) k else k) t turns))) h
    under_one false jobs none c t i h z k turns =
        subst (λ l. Plans (step g s) (state (push (Guard tested (chained (map X ds))) k) t turns) l
        (λ answers u. Filled fills Inv ds (answered (map E ds) answers) k turns u)) (none_made_of E ds (none refl)) (
          1,
          state k t turns,
          (state k t turns, ap (λ x. on_truth x (λ holds. Silent (state (if holds then push (chained (map X ds)) k else k) t turns))) h, refl),
          record { words' = t; is = refl; inv = i; slots = λ q. subst (λ as'. Slots ds as' t) (none_answered_of E ds [] (none refl)) (z q) },
        )

  -- A WHOLE STATEMENT: silent statements, then the parts, then the registers are written.
  abbrev pub Ended : List Term → (List ℕ → Registers) → List Link → ℕ → List ℕ → State → Type 0
  Ended writes to k turns answers u = (v : Words) × (w : Words) × (u ≡ state k v turns) × LeadsAll g s writes v w × (w.registers ≡ to answers)

  pub record Staged (front parts writes : List Term) (es : List Event) (to : List ℕ → Registers) (t : Words) : Type 0 where
    pub words' : Words
    pub leads : LeadsAll g s front t words'
    pub plan :
        (k : List Link) (turns : ℕ)
        → Plans (step g s) (state (pushed parts k) words' turns) es
        (Ended writes to k turns)

  pub staged : (front parts writes : List Term) (es : List Event) (to : List ℕ → Registers) (r : Registers)
      → ((t : Words) → t.registers ≡ r → Staged front parts writes es to t) → Performs g s (chained (front ++ (parts ++ writes))) r es to
  staged front parts writes es to r f k scratch turns =
      let t = words scratch r in
      let h = f t refl in
      let k' = pushed writes k in
      let e : push (chained (front ++ (parts ++ writes))) k ≡ pushed front (pushed parts k') =
      run.chained_is (front ++ (parts ++ writes)) k ∙ (pushed_append front (parts ++ writes) k ∙ ap (pushed front) (pushed_append parts writes k)) in
      let a = run.all_go g s front t h.words' (pushed parts k') turns h.leads in
      subst (λ c. Plans (step g s) (state c t turns) es (λ answers u. Left k (to answers) turns u)) (sym e)
      (after es a.0 (state (pushed front (pushed parts k')) t turns) (state (pushed parts k') h.words' turns) _ a.1
      (behind es (state (pushed parts k') h.words' turns) _ _
      (λ answers u q.
      let z = run.all_go g s writes q.0 q.1 k turns q.3 in (
        z.0,
        state k q.1 turns,
        subst (λ y. Goes (step g s) z.0 y (state k q.1 turns)) (sym q.2) z.1,
        record { chain = refl; registers = q.4; turns = refl },
      ))
      (h.plan k' turns)))
