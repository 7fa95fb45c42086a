-- From a simulation of one lane by another, step by step, to two lanes that nobody can tell apart.
use Rattle.std.proofs.Common.{◌≡◌, ℕ, zero, suc, ◌+◌, ◌-◌, ◌*◌, ◌<◌, ◌≤◌, ◌^◌, ◌⊎◌, inl, inr, ⊎_elim, List, [], ◌∷◌, refl, sym, ap, ◌∙◌, subst, arith}
use Rattle.std.proofs.Math.Nat.{mul-le-mul_left}
use Rattle.std.proofs.lemmas.Bool.{cases_lt}
use Rattle.word_base.specs.declared.event.Event.{Event}
use Rattle.word_base.specs.Lanes.{Turn, Silent, Asks, Ends, Wrong, Goes, Meets, Spins, Makes, SameLanes}
use Rattle.word_base.proofs.Walks.{IsStop, goes_on, meets_later, no_further, rest_of, first_of, one_stop, one_turn, no_stop, spins_later}

-- What the right lane owes where the left one takes that turn: to a silent step any number of silent steps, none only where the measure
-- falls; to a stop the same stop, and at an end the relation of ends.
abbrev pub Followed : {A B : Type 0} → (B → Turn B) → (A → B → Type 0) → (A → B → Type 0) → (A → ℕ) → A → Turn A → B → Type 0
Followed {A} {B} right R Ended measure a (Silent a') b =
    (n : ℕ) × (b' : B) × Goes right n b b' × R a' b' × ((0 < n) ⊎ (measure a' < measure a))
Followed {A} {B} right R Ended measure a (Asks e f) b =
    (n : ℕ) × (b' : B) × (g : ℕ → B) × Goes right n b b' × (right b' ≡ Asks e g) × ((w : ℕ) → w < 2 ^ 32 → R (f w) (g w))
Followed {A} {B} right R Ended measure a Ends b = (n : ℕ) × (b' : B) × Goes right n b b' × (right b' ≡ Ends) × Ended a b'
Followed {A} {B} right R Ended measure a (Wrong place rule) b = ⊥

pub product_of_sum : (N x y m : ℕ) → x + y ≡ m → N * m ≡ N * x + N * y
product_of_sum N x y m e = rw (← e) (omega arith)

module _ {A B : Type 0} (left : A → Turn A) (right : B → Turn B) (R Ended : A → B → Type 0) (measure : A → ℕ)
  where
    -- what the right lane meets where the left one meets that stop
    abbrev Answered : Turn A → B → Type 0
    Answered (Silent to) b = ⊥
    Answered (Asks e f) b = (g : ℕ → B) × Meets right b (Asks e g) × ((w : ℕ) → w < 2 ^ 32 → R (f w) (g w))
    Answered Ends b = Meets right b Ends
    Answered (Wrong place rule) b = ⊥

    answered_here : (a : A) (b : B) (turn : Turn A) → IsStop turn → Followed right R Ended measure a turn b → Answered turn b
    answered_here a b (Silent to) stop k = stop
    answered_here a b (Asks e f) stop k = (k.2, (k.0, (k.1, k.3, k.4)), k.5)
    answered_here a b Ends stop k = (k.0, (k.1, k.2, k.3))
    answered_here a b (Wrong place rule) stop k = k

    answered_later : (n : ℕ) (b b' : B) (turn : Turn A) → Goes right n b b' → Answered turn b' → Answered turn b
    answered_later n b b' (Silent to) g k = k
    answered_later n b b' (Asks e f) g k = (k.0, meets_later right n b b' (Asks e k.0) g k.1, k.2)
    answered_later n b b' Ends g k = meets_later right n b b' Ends g k
    answered_later n b b' (Wrong place rule) g k = k

    module _ (N : ℕ) (keeps : (a : A) (b : B) → R a b → Followed right R Ended measure a (left a) b) (bounded : (a : A) (b : B) → R a b → measure a < N) where
      -- what follows a silent step
      silent : (a a' : A) (b : B) → R a b → left a ≡ Silent a' → Followed right R Ended measure a (Silent a') b
      silent a a' b r e = subst (λ turn. Followed right R Ended measure a turn b) e (keeps a b r)

      answered : (n : ℕ) (a a' : A) (b : B) → R a b → Goes left n a a' → IsStop (left a') → Answered (left a') b
      answered zero a a' b r g stop =
          subst (λ x. Answered (left x) b) g (answered_here a b (left a) (subst (λ x. IsStop (left x)) (sym g) stop) (keeps a b r))
      answered (suc n) a a' b r g stop =
          let k = silent a g.0 b r g.1 in
          answered_later k.0 b k.1 (left a') k.2 (answered n g.0 a' k.1 k.3 g.2 stop)

      -- a stop that the left lane meets
      to_stop : (a : A) (b : B) (turn : Turn A) → R a b → IsStop turn → Meets left a turn → Answered turn b
      to_stop a b turn r stop m =
          subst (λ t. Answered t b) m.1.2 (answered m.0 a m.1.0 b r m.1.1 (subst IsStop (sym m.1.2) stop))

      -- Where the right lane stops behind m steps the left one stops: each of its steps makes the measure and N times the steps left
      -- smaller.
      abbrev Stops : A → Type 0
      Stops a = (turn : Turn A) × IsStop turn × Meets left a turn

      falls : (x y n r m : ℕ) → y < N → n + r ≡ m → (0 < n) ⊎ (y < x) → y + N * r < x + N * m
      falls x y n r m small e (inl p) =
          let split = product_of_sum N n r m e in
          let one : N * 1 ≤ N * n = mul-le-mul_left N p in
          omega arith
      falls x y n r m small e (inr p) = let split = product_of_sum N n r m e in omega arith

      stops_by : (fuel m : ℕ) (a : A) (b c : B) (turn : Turn A) → left a ≡ turn → Followed right R Ended measure a turn b
          → Goes right m b c → IsStop (right c) → measure a + N * m < suc fuel
          → ((m' : ℕ) (a' : A) (b' : B) → R a' b' → Goes right m' b' c → measure a' + N * m' < fuel → Stops a') → Stops a
      stops_by fuel m a b c (Silent to) e k g stop less next =
          let l = no_further right k.0 m b k.1 c k.2 g stop in
          let rest = rest_of right k.0 m b k.1 c l k.2 g in
          let down = falls (measure a) (measure to) k.0 rest.0 m (bounded to k.1 k.3) rest.1 k.4 in
          let s = next rest.0 to k.1 k.3 rest.2 (omega arith) in
          (s.0, s.1, meets_later left 1 a to s.0 (to, e, refl) s.2)
      stops_by fuel m a b c (Asks event f) e k g stop less next = (Asks event f, tt, (0, (a, refl, e)))
      stops_by fuel m a b c Ends e k g stop less next = (Ends, tt, (0, (a, refl, e)))
      stops_by fuel m a b c (Wrong place rule) e k g stop less next = absurd k

      stops : (fuel m : ℕ) (a : A) (b c : B) → R a b → Goes right m b c → IsStop (right c) → measure a + N * m < fuel → Stops a
      stops zero m a b c r g stop less = absurd (omega arith)
      stops (suc fuel) m a b c r g stop less =
          stops_by fuel m a b c (left a) refl (keeps a b r) g stop less (λ m' a' b' r' g' less'. stops fuel m' a' b' c r' g' stop less')

      -- the stop that the left lane meets where the right one meets a stop
      stop_back : (a : A) (b : B) (turn : Turn B) → R a b → IsStop turn → Meets right b turn → Stops a
      stop_back a b turn r stop m = stops (suc (measure a + N * m.0)) m.0 a b m.1.0 r m.1.1 (subst IsStop (sym m.1.2) stop) (omega arith)

      event_by : (a : A) (b : B) (e : Event) (g : ℕ → B) (turn : Turn A) → Meets right b (Asks e g) → Meets left a turn → Answered turn b
          → (f : ℕ → A) × Meets left a (Asks e f) × ((w : ℕ) → w < 2 ^ 32 → R (f w) (g w))
      event_by a b e g (Silent to) m l k = absurd k
      event_by a b e g (Asks event f) m l k =
          let x : Turn B = Asks event k.0 in
          let y : Turn B = Asks e g in
          let same : x ≡ y = one_turn right b x y tt tt k.1 m in
          let events : event ≡ e = cc in
          let afters : k.0 ≡ g = cc in
          (f, subst (λ v. Meets left a (Asks v f)) events l, subst (λ (h : ℕ → B). (w : ℕ) → w < 2 ^ 32 → R (f w) (h w)) afters k.2)
      event_by a b e g Ends m l k =
          let y : Turn B = Asks e g in
          let same : y ≡ Ends = one_turn right b y Ends tt tt m k in
          absurd (cc)
      event_by a b e g (Wrong place rule) m l k = absurd k

      end_by : (a : A) (b : B) (turn : Turn A) → Meets right b Ends → Meets left a turn → Answered turn b → Meets left a Ends
      end_by a b (Silent to) m l k = absurd k
      end_by a b (Asks event f) m l k =
          let x : Turn B = Asks event k.0 in
          let same : x ≡ Ends = one_turn right b x Ends tt tt k.1 m in
          absurd (cc)
      end_by a b Ends m l k = l
      end_by a b (Wrong place rule) m l k = absurd k

      wrong_by : (b : B) (place rule : ℕ) (turn : Turn A) → Meets right b (Wrong place rule) → Answered turn b → ⊥
      wrong_by b place rule (Silent to) m k = k
      wrong_by b place rule (Asks event f) m k =
          let x : Turn B = Asks event k.0 in
          let y : Turn B = Wrong place rule in
          let same : x ≡ y = one_turn right b x y tt tt k.1 m in
          absurd (cc)
      wrong_by b place rule Ends m k =
          let y : Turn B = Wrong place rule in
          let same : y ≡ Ends = one_turn right b y Ends tt tt m k in
          absurd (cc)
      wrong_by b place rule (Wrong p q) m k = k

      -- LOGS. Behind the same events and answers two lanes that are related are related again.
      there : (events : List Event) (answers : List ℕ) (a a' : A) (b : B) → R a b → Makes left a events answers a'
          → (b' : B) × Makes right b events answers b'
      there [] [] a a' b r h = (b, refl)
      there [] (w ∷ answers) a a' b r h = absurd h
      there (e ∷ events) [] a a' b r h = absurd h
      there (e ∷ events) (w ∷ answers) a a' b r h =
          let k = to_stop a b (Asks e h.0) r tt h.1 in
          let rest = there events answers (h.0 w) a' (k.0 w) (k.2 w h.2) h.3 in
          (rest.0, (k.0, k.1, h.2, rest.1))

      back : (events : List Event) (answers : List ℕ) (a : A) (b b' : B) → R a b → Makes right b events answers b'
          → (a' : A) × Makes left a events answers a'
      back [] [] a b b' r h = (a, refl)
      back [] (w ∷ answers) a b b' r h = absurd h
      back (e ∷ events) [] a b b' r h = absurd h
      back (e ∷ events) (w ∷ answers) a b b' r h =
          let s = stop_back a b (Asks e h.0) r tt h.1 in
          let k = event_by a b e h.0 s.0 h.1 s.2 (to_stop a b s.0 r s.1 s.2) in
          let rest = back events answers (k.0 w) (h.0 w) b' (k.2 w h.2) h.3 in
          (rest.0, (k.0, k.1, h.2, rest.1))

      pub related : (events : List Event) (answers : List ℕ) (a a' : A) (b b' : B) → R a b
          → Makes left a events answers a' → Makes right b events answers b' → R a' b'
      related [] [] a a' b b' r h k = subst (λ x. R x b') h (subst (λ y. R a y) k r)
      related [] (w ∷ answers) a a' b b' r h k = absurd h
      related (e ∷ events) [] a a' b b' r h k = absurd h
      related (e ∷ events) (w ∷ answers) a a' b b' r h k =
          let q = to_stop a b (Asks e h.0) r tt h.1 in
          let x : Turn B = Asks e q.0 in
          let y : Turn B = Asks e k.0 in
          let same : x ≡ y = one_turn right b x y tt tt q.1 k.1 in
          let afters : q.0 ≡ k.0 = cc in
          related events answers (h.0 w) a' (k.0 w) b' (subst (λ (f : ℕ → B). R (h.0 w) (f w)) afters (q.2 w h.2)) h.3 k.3

      end_back : (a : A) (b : B) → R a b → Meets right b Ends → Meets left a Ends
      end_back a b r m = let s = stop_back a b Ends r tt m in end_by a b s.0 m s.2 (to_stop a b s.0 r s.1 s.2)

      -- ENDS. Where both lanes stand at their end, behind silent steps from states that are related, the relation of ends holds.
      ended_here : (m : ℕ) (a : A) (b c : B) → Followed right R Ended measure a Ends b → Goes right m b c → right c ≡ Ends → Ended a c
      ended_here m a b c k g e =
          let same : k.1 ≡ c = one_stop right k.0 m b k.1 c k.2 g (subst IsStop (sym k.3) tt) (subst IsStop (sym e) tt) in
          subst (Ended a) same k.4

      pub ended_at : (n m : ℕ) (a a' : A) (b b' : B) → R a b → Goes left n a a' → left a' ≡ Ends → Goes right m b b' → right b' ≡ Ends → Ended a' b'
      ended_at zero m a a' b b' r g e h l =
          let here : left a ≡ Ends = ap left g ∙ e in
          subst (λ x. Ended x b') g (ended_here m a b b' (subst (λ turn. Followed right R Ended measure a turn b) here (keeps a b r)) h l)
      ended_at (suc n) m a a' b b' r g e h l =
          let k = silent a g.0 b r g.1 in
          let within = no_further right k.0 m b k.1 b' k.2 h (subst IsStop (sym l) tt) in
          let rest = rest_of right k.0 m b k.1 b' within k.2 h in
          ended_at n rest.0 g.0 a' k.1 b' k.3 g.2 e rest.2 l

      pub ended : (events : List Event) (answers : List ℕ) (n m : ℕ) (a x a' : A) (b y b' : B) → R a b
          → Makes left a events answers x → Makes right b events answers y
          → Goes left n x a' → left a' ≡ Ends → Goes right m y b' → right b' ≡ Ends → Ended a' b'
      ended events answers n m a x a' b y b' r h k g e g' e' =
          ended_at n m x a' y b' (related events answers a x b y r h k) g e g' e'

      not_wrong : (a : A) (b : B) (place rule : ℕ) → R a b → Meets right b (Wrong place rule) → ⊥
      not_wrong a b place rule r m =
          let s = stop_back a b (Wrong place rule) r tt m in
          wrong_by b place rule s.0 m (to_stop a b s.0 r s.1 s.2)

      -- SILENCE. A silent step that is followed by none makes the measure smaller.
      spins_by : (fuel n : ℕ) (a a' : A) (b : B) → Followed right R Ended measure a (Silent a') b → measure a + N * n < suc fuel
          → ((n' : ℕ) (b' : B) → R a' b' → measure a' + N * n' < fuel → (t : B) × Goes right n' b' t) → (t : B) × Goes right n b t
      spins_by fuel n a a' b k less next = ⊎_elim
          (λ short.
          let e : k.0 + (n - k.0) ≡ n = omega (arith, short) in
          let down = falls (measure a) (measure a') k.0 (n - k.0) n (bounded a' k.1 k.3) e k.4 in
          let rest = next (n - k.0) k.1 k.3 (omega arith) in
          (rest.0, subst (λ m. Goes right m b rest.0) e (goes_on right k.0 (n - k.0) b k.1 rest.0 k.2 rest.1)))
          (λ long. first_of right n k.0 b k.1 long k.2)
          (cases_lt k.0 n)

      spins_within : (fuel n : ℕ) (a : A) (b : B) → R a b → Spins left a → measure a + N * n < fuel → (t : B) × Goes right n b t
      spins_within zero n a b r spins less = absurd (omega arith)
      spins_within (suc fuel) n a b r spins less =
          let s = spins 1 in
          let later = spins_later left 1 a s.1.0 spins (s.1.0, s.1.1, refl) in
          spins_by fuel n a s.1.0 b (silent a s.1.0 b r s.1.1) less (λ n' b' r' less'. spins_within fuel n' s.1.0 b' r' later less')

      spins_right : (a : A) (b : B) → R a b → Spins left a → Spins right b
      spins_right a b r spins n = spins_within (suc (measure a + N * n)) n a b r spins (omega arith)

      back_by : (n : ℕ) (a : A) (b : B) (turn : Turn A) → left a ≡ turn → Followed right R Ended measure a turn b → Spins right b
          → ((a' : A) (b' : B) → R a' b' → Spins right b' → (t : A) × Goes left n a' t) → (t : A) × Goes left (suc n) a t
      back_by n a b (Silent to) e k spins next =
          let rest = next to k.1 k.3 (spins_later right k.0 b k.1 spins k.2) in
          (rest.0, (to, e, rest.1))
      back_by n a b (Asks event f) e k spins next = absurd (no_stop right k.0 b k.1 spins k.3 (subst IsStop (sym k.4) tt))
      back_by n a b Ends e k spins next = absurd (no_stop right k.0 b k.1 spins k.2 (subst IsStop (sym k.3) tt))
      back_by n a b (Wrong place rule) e k spins next = absurd k

      spins_left : (n : ℕ) (a : A) (b : B) → R a b → Spins right b → (t : A) × Goes left n a t
      spins_left zero a b r spins = (a, refl)
      spins_left (suc n) a b r spins = back_by n a b (left a) refl (keeps a b r) spins (spins_left n)

      same_by : (a : A) (b : B) → R a b → SameLanes left right a b
      same_by a b r = record {
        forward = record {
          events = λ events answers a' h. there events answers a a' b r h;
          ends = λ events answers a' b' h k m. to_stop a' b' Ends (related events answers a a' b b' r h k) tt m;
        };
        back = record {
          events = λ events answers b' h. back events answers a b b' r h;
          ends = λ events answers b' a' h k m. end_back a' b' (related events answers a a' b b' r k h) m;
        };
        spins = λ events answers a' b' h k s. spins_right a' b' (related events answers a a' b b' r h k) s;
        spins_back = λ events answers a' b' h k s n. spins_left n a' b' (related events answers a a' b b' r h k) s;
        never_wrong = λ events answers b' place rule h m.
            let k = back events answers a b b' r h in
            not_wrong k.0 b' place rule (related events answers a k.0 b b' r k.1 h) m;
      }

pub same_lanes : {A B : Type 0} (left : A → Turn A) (right : B → Turn B) (R Ended : A → B → Type 0) (measure : A → ℕ) (N : ℕ)
    → ((a : A) (b : B) → R a b → Followed right R Ended measure a (left a) b) → ((a : A) (b : B) → R a b → measure a < N)
    → (a : A) (b : B) → R a b → SameLanes left right a b
same_lanes left right R Ended measure N keeps bounded a b r = same_by left right R Ended measure N keeps bounded a b r
