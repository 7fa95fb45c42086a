-- Walks of silent steps of one lane, and the stops behind them.
use Rattle.std.proofs.Common.{◌≡◌, ℕ, zero, suc, ◌+◌, ◌-◌, ◌≤◌, ⊎_elim, List, [], ◌∷◌, refl, sym, ap, ◌∙◌, subst, arith}
use Rattle.std.proofs.lemmas.Bool.{cases_lt}
use Rattle.word_base.specs.declared.event.Event.{Event}
use Rattle.word_base.specs.Lanes.{Turn, Silent, Asks, Ends, Wrong, Goes, Meets, Spins, Makes}

-- any turn but a silent step
abbrev pub IsStop : {S : Type 0} → Turn S → Type 0
IsStop (Silent to) = ⊥
IsStop (Asks e f) = Unit {0}
IsStop Ends = Unit {0}
IsStop (Wrong place rule) = Unit {0}

module _ {S : Type 0} (step : S → Turn S) where
  pub goes_on : (n m : ℕ) (s t u : S) → Goes step n s t → Goes step m t u → Goes step (n + m) s u
  goes_on zero m s t u g h =
      let e : m ≡ 0 + m = omega arith in
      subst (λ k. Goes step k s u) e (subst (λ x. Goes step m x u) (sym g) h)
  goes_on (suc n) m s t u g h =
      let e : suc (n + m) ≡ suc n + m = omega arith in
      subst (λ k. Goes step k s u) e (g.0, g.1, goes_on n m g.0 t u g.2 h)

  -- behind a stop there are no steps
  pub no_further : (n m : ℕ) (s t u : S) → Goes step n s t → Goes step m s u → IsStop (step u) → n ≤ m
  no_further zero m s t u g h stop = omega arith
  no_further (suc n) zero s t u g h stop = absurd (subst IsStop (ap step (sym h) ∙ g.1) stop)
  no_further (suc n) (suc m) s t u g h stop =
      let e : h.0 ≡ g.0 = cc in
      let k = no_further n m g.0 t u g.2 (subst (λ x. Goes step m x u) e h.2) stop in
      omega (arith, k)

  -- the rest of a walk behind its first steps
  pub rest_of : (n m : ℕ) (s t u : S) → n ≤ m → Goes step n s t → Goes step m s u → (r : ℕ) × (n + r ≡ m) × Goes step r t u
  rest_of zero m s t u l g h = (m, omega arith, subst (λ x. Goes step m x u) g h)
  rest_of (suc n) zero s t u l g h = absurd (omega arith)
  rest_of (suc n) (suc m) s t u l g h =
      let e : h.0 ≡ g.0 = cc in
      let k = rest_of n m g.0 t u (omega arith) g.2 (subst (λ x. Goes step m x u) e h.2) in
      (k.0, omega (arith, k.1), k.2)

  pub first_of : (n m : ℕ) (s u : S) → n ≤ m → Goes step m s u → (t : S) × Goes step n s t
  first_of zero m s u l h = (s, refl)
  first_of (suc n) zero s u l h = absurd (omega arith)
  first_of (suc n) (suc m) s u l h = let k = first_of n m h.0 u (omega arith) h.2 in (k.0, (h.0, h.1, k.1))

  -- a walk that goes on as far as it can ends in one state
  pub one_stop : (n m : ℕ) (s t u : S) → Goes step n s t → Goes step m s u → IsStop (step t) → IsStop (step u) → t ≡ u
  one_stop n m s t u g h stop stop' =
      let l = no_further n m s t u g h stop' in
      let l' = no_further m n s u t h g stop in
      let k = rest_of n m s t u l g h in
      let none : k.0 ≡ 0 = omega (arith, l, l', k.1) in
      subst (λ r. Goes step r t u) none k.2

  -- a lane meets one stop
  pub one_turn : (s : S) (x y : Turn S) → IsStop x → IsStop y → Meets step s x → Meets step s y → x ≡ y
  one_turn s x y hx hy g h =
      let same = one_stop g.0 h.0 s g.1.0 h.1.0 g.1.1 h.1.1 (subst IsStop (sym g.1.2) hx) (subst IsStop (sym h.1.2) hy) in
      sym g.1.2 ∙ (ap step same ∙ h.1.2)

  pub meets_later : (n : ℕ) (s t : S) (turn : Turn S) → Goes step n s t → Meets step t turn → Meets step s turn
  meets_later n s t turn g h = (n + h.0, (h.1.0, goes_on n h.0 s t h.1.0 g h.1.1, h.1.2))

  -- a lane that makes silent steps for ever meets no stop, and makes them for ever behind some of them
  pub no_stop : (n : ℕ) (s t : S) → Spins step s → Goes step n s t → IsStop (step t) → ⊥
  no_stop n s t spins g stop =
      let k = spins (suc n) in
      let l = no_further (suc n) n s k.0 t k.1 g stop in
      omega (arith, l)

  pub spins_later : (n : ℕ) (s t : S) → Spins step s → Goes step n s t → Spins step t
  spins_later n s t spins g m =
      let k = spins (n + m) in
      let r = rest_of n (n + m) s t k.0 (omega arith) g k.1 in
      let e : r.0 ≡ m = omega (arith, r.1) in
      (k.0, subst (λ x. Goes step x t k.0) e r.2)

  -- what is met behind the first steps
  pub meets_behind : (n : ℕ) (s t : S) (turn : Turn S) → IsStop turn → Goes step n s t → Meets step s turn
      → Meets step t turn
  meets_behind n s t turn stop g h =
      let l = no_further n h.0 s t h.1.0 g h.1.1 (subst IsStop (sym h.1.2) stop) in
      let k = rest_of n h.0 s t h.1.0 l g h.1.1 in
      (k.0, (h.1.0, k.2, h.1.2))

  pub spins_before : (n : ℕ) (s t : S) → Goes step n s t → Spins step t → Spins step s
  spins_before n s t g spins m = ⊎_elim
      (λ longer.
      let k = spins (m - n) in
      let e : n + (m - n) ≡ m = omega (arith, longer) in
      (k.0, subst (λ x. Goes step x s k.0) e (goes_on n (m - n) s t k.0 g k.1)))
      (λ within. first_of m n s t within g)
      (cases_lt n m)

  -- Under one list of answers a lane comes to one state.
  pub one_state : (events : List Event) (answers : List ℕ) (s t u : S) → Makes step s events answers t
      → Makes step s events answers u → t ≡ u
  one_state [] [] s t u h k = sym h ∙ k
  one_state [] (w ∷ answers) s t u h k = absurd h
  one_state (e ∷ events) [] s t u h k = absurd h
  one_state (e ∷ events) (w ∷ answers) s t u h k =
      let x : Turn S = Asks e h.0 in
      let y : Turn S = Asks e k.0 in
      let same : x ≡ y = one_turn s x y tt tt h.1 k.1 in
      let afters : k.0 ≡ h.0 = cc in
      one_state events answers (h.0 w) t u h.3
      (subst (λ (f : ℕ → S). Makes step (f w) events answers u) afters k.3)
