-- A lane does what it does when nothing is counted.
use Rattle.std.proofs.Common.{◌≡◌, ℕ, zero, suc, ◌+◌, List, [], ◌∷◌, refl, sym, ap, subst}
use Rattle.word_base.specs.declared.event.Event.{Event}
use Rattle.word_base.specs.Lanes.{Turn, Silent, Asks, Ends, Wrong, Goes, Meets, Spins, Makes, SameLanes}
use Rattle.word_base.specs.Counted.{Counted, at_count, with_count, counted}

module _ {S : Type 0} (step : S → Turn S) (cost : S → S → ℕ) where
  abbrev right : Counted S → Turn (Counted S)
  right = counted step cost

  -- one turn, without the count
  pub silent_by : (turn : Turn S) (s : S) (n : ℕ) (y : Counted S) → with_count cost s n turn ≡ Silent y → turn ≡ Silent y.state
  silent_by (Silent to) s n y e = let same : at_count to (n + cost s to) ≡ y = cc in ap (λ z. Silent z.state) same
  silent_by (Asks event after) s n y e = absurd (cc)
  silent_by Ends s n y e = absurd (cc)
  silent_by (Wrong place rule) s n y e = absurd (cc)

  pub count_by : (turn : Turn S) (s : S) (n : ℕ) (y : Counted S) → with_count cost s n turn ≡ Silent y → y.count ≡ n + cost s y.state
  count_by (Silent to) s n y e =
      let same : at_count to (n + cost s to) ≡ y = cc in
      subst (λ (z : Counted S). z.count ≡ n + cost s z.state) same refl
  count_by (Asks event after) s n y e = absurd (cc)
  count_by Ends s n y e = absurd (cc)
  count_by (Wrong place rule) s n y e = absurd (cc)

  asks_by : (turn : Turn S) (s : S) (n : ℕ) (event : Event) (after : ℕ → Counted S) → with_count cost s n turn ≡ Asks event after
      → (on : ℕ → S) × (turn ≡ Asks event on) × ((λ (a : ℕ). at_count (on a) n) ≡ after)
  asks_by (Silent to) s n event after e = absurd (cc)
  asks_by (Asks d on) s n event after e =
      let same : d ≡ event = cc in
      let afters : (λ (a : ℕ). at_count (on a) n) ≡ after = cc in
      (on, ap (λ x. Asks x on) same, afters)
  asks_by Ends s n event after e = absurd (cc)
  asks_by (Wrong place rule) s n event after e = absurd (cc)

  ends_by : (turn : Turn S) (s : S) (n : ℕ) → with_count cost s n turn ≡ Ends → turn ≡ Ends
  ends_by (Silent to) s n e = absurd (cc)
  ends_by (Asks event after) s n e = absurd (cc)
  ends_by Ends s n e = refl
  ends_by (Wrong place rule) s n e = absurd (cc)

  wrong_by : (turn : Turn S) (s : S) (n place rule : ℕ) → turn ≡ Wrong place rule → with_count cost s n turn ≡ Wrong place rule
  wrong_by turn s n place rule e = ap (with_count cost s n) e

  -- silent steps, both ways
  goes_down : (k : ℕ) (x y : Counted S) → Goes right k x y → Goes step k x.state y.state
  goes_down zero x y g = ap (λ z. z.state) g
  goes_down (suc k) x y g = (g.0.state, silent_by (step x.state) x.state x.count g.0 g.1, goes_down k g.0 y g.2)

  goes_up : (k : ℕ) (s t : S) (n : ℕ) → Goes step k s t → (m : ℕ) × Goes right k (at_count s n) (at_count t m)
  goes_up zero s t n g = (n, ap (λ z. at_count z n) g)
  goes_up (suc k) s t n g =
      let rest = goes_up k g.0 t (n + cost s g.0) g.2 in
      (rest.0, (at_count g.0 (n + cost s g.0), ap (with_count cost s n) g.1, rest.1))

  -- the next event or end, both ways
  meets_event_down : (x : Counted S) (event : Event) (after : ℕ → Counted S) → Meets right x (Asks event after)
      → (on : ℕ → S) × (n : ℕ) × Meets step x.state (Asks event on) × ((λ (a : ℕ). at_count (on a) n) ≡ after)
  meets_event_down x event after h =
      let y = h.1.0 in
      let w = asks_by (step y.state) y.state y.count event after h.1.2 in
      (w.0, y.count, (h.0, (y.state, goes_down h.0 x y h.1.1, w.1)), w.2)

  meets_event_up : (s : S) (n : ℕ) (event : Event) (on : ℕ → S) → Meets step s (Asks event on)
      → (m : ℕ) × Meets right (at_count s n) (Asks event (λ (a : ℕ). at_count (on a) m))
  meets_event_up s n event on h =
      let g = goes_up h.0 s h.1.0 n h.1.1 in
      (g.0, (h.0, (at_count h.1.0 g.0, g.1, ap (with_count cost h.1.0 g.0) h.1.2)))

  meets_end_down : (x : Counted S) → Meets right x Ends → Meets step x.state Ends
  meets_end_down x h =
      let y = h.1.0 in
      (h.0, (y.state, goes_down h.0 x y h.1.1, ends_by (step y.state) y.state y.count h.1.2))

  meets_end_up : (s : S) (n : ℕ) → Meets step s Ends → Meets right (at_count s n) Ends
  meets_end_up s n h = let g = goes_up h.0 s h.1.0 n h.1.1 in (h.0, (at_count h.1.0 g.0, g.1, ap (with_count cost h.1.0 g.0) h.1.2))

  meets_wrong_up : (s : S) (n place rule : ℕ) → Meets step s (Wrong place rule) → Meets right (at_count s n) (Wrong place rule)
  meets_wrong_up s n place rule h =
      let g = goes_up h.0 s h.1.0 n h.1.1 in
      (h.0, (at_count h.1.0 g.0, g.1, wrong_by (step h.1.0) h.1.0 g.0 place rule h.1.2))

  -- logs, both ways
  makes_down : (events : List Event) (answers : List ℕ) (x y : Counted S) → Makes right x events answers y → Makes step x.state events answers y.state
  makes_down [] [] x y h = ap (λ z. z.state) h
  makes_down [] (a ∷ answers) x y h = absurd h
  makes_down (e ∷ events) [] x y h = absurd h
  makes_down (e ∷ events) (a ∷ answers) x y h =
      let w = meets_event_down x e h.0 h.1 in
      let rest = makes_down events answers (h.0 a) y h.3 in
      let at : (h.0 a).state ≡ w.0 a = ap (λ (f : ℕ → Counted S). (f a).state) (sym w.3) in
      (w.0, w.2, h.2, subst (λ s. Makes step s events answers y.state) at rest)

  makes_up : (events : List Event) (answers : List ℕ) (s t : S) (n : ℕ) → Makes step s events answers t → (m : ℕ) × Makes right (at_count s n) events
      answers (at_count t m)
  makes_up [] [] s t n h = (n, ap (λ z. at_count z n) h)
  makes_up [] (a ∷ answers) s t n h = absurd h
  makes_up (e ∷ events) [] s t n h = absurd h
  makes_up (e ∷ events) (a ∷ answers) s t n h =
      let w = meets_event_up s n e h.0 h.1 in
      let rest = makes_up events answers (h.0 a) t w.0 h.3 in
      (rest.0, ((λ (b : ℕ). at_count (h.0 b) w.0), w.1, h.2, rest.1))

  spins_down : (x : Counted S) → Spins right x → Spins step x.state
  spins_down x h n = let k = h n in (k.0.state, goes_down n x k.0 k.1)

  spins_up : (s : S) (n : ℕ) → Spins step s → Spins right (at_count s n)
  spins_up s n h k = let g = h k in let u = goes_up k s g.0 n g.1 in (at_count g.0 u.0, u.1)

  pub first_uncounted : {B : Type 0} (other : B → Turn B) (s : S) (n : ℕ) (b : B) → SameLanes right other (at_count s n) b → SameLanes step other s b
  first_uncounted other s n b same = record {
    forward = record {
      events = λ events answers s' h. let u = makes_up events answers s s' n h in same.forward.events events answers (at_count s' u.0) u.1;
      ends = λ events answers s' b' h k m.
          let u = makes_up events answers s s' n h in
          same.forward.ends events answers (at_count s' u.0) b' u.1 k (meets_end_up s' u.0 m);
    };
    back = record {
      events = λ events answers b' h. let k = same.back.events events answers b' h in
          (k.0.state, makes_down events answers (at_count s n) k.0 k.1);
      ends = λ events answers b' s' h k m.
          let u = makes_up events answers s s' n k in
          meets_end_down (at_count s' u.0) (same.back.ends events answers b' (at_count s' u.0) h u.1 m);
    };
    spins = λ events answers s' b' h k m.
        let u = makes_up events answers s s' n h in
        same.spins events answers (at_count s' u.0) b' u.1 k (spins_up s' u.0 m);
    spins_back = λ events answers s' b' h k m.
        let u = makes_up events answers s s' n h in
        spins_down (at_count s' u.0) (same.spins_back events answers (at_count s' u.0) b' u.1 k m);
    never_wrong = same.never_wrong;
  }

  pub second_uncounted : {A : Type 0} (left : A → Turn A) (a : A) (s : S) (n : ℕ) → SameLanes left right a (at_count s n) → SameLanes left step a s
  second_uncounted left a s n same = record {
    forward = record {
      events = λ events answers a' h. let k = same.forward.events events answers a' h in
          (k.0.state, makes_down events answers (at_count s n) k.0 k.1);
      ends = λ events answers a' b' h k m.
          let u = makes_up events answers s b' n k in
          meets_end_down (at_count b' u.0) (same.forward.ends events answers a' (at_count b' u.0) h u.1 m);
    };
    back = record {
      events = λ events answers b' h. let u = makes_up events answers s b' n h in same.back.events events answers (at_count b' u.0) u.1;
      ends = λ events answers b' a' h k m.
          let u = makes_up events answers s b' n h in
          same.back.ends events answers (at_count b' u.0) a' u.1 k (meets_end_up b' u.0 m);
    };
    spins = λ events answers a' b' h k m.
        let u = makes_up events answers s b' n k in
        spins_down (at_count b' u.0) (same.spins events answers a' (at_count b' u.0) h u.1 m);
    spins_back = λ events answers a' b' h k m.
        let u = makes_up events answers s b' n k in
        same.spins_back events answers a' (at_count b' u.0) h u.1 (spins_up b' u.0 m);
    never_wrong = λ events answers b' place rule h m.
        let u = makes_up events answers s b' n h in
        same.never_wrong events answers (at_count b' u.0) place rule u.1 (meets_wrong_up b' u.0 place rule m);
  }
