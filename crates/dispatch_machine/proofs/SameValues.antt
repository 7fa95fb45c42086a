-- From lanes that nobody can tell apart to runs with the same values.
use Rattle.std.proofs.Common.{◌≡◌, ℕ, ◌<◌, ◌^◌, ◌↔◌, inl, inr, ⊎_elim, List, [], ◌∷◌, Bool, true, false, refl, sym, subst, arith}
use Rattle.std.specs.Prelude.{nat_eq}
use Rattle.std.proofs.lemmas.Bool.{cases_eq}
use Rattle.word_base.specs.declared.event.Event.{Event}
use Rattle.word_base.specs.Lanes.{Turn, SameLanes}
use Rattle.dispatch_machine.specs.Runs.{Machine, moved, Picked, HasValue}
use Rattle.dispatch_machine.proofs.SameLogs.{MakesOnly, Alike, event_there, end_there, fine_back, alike_after}

-- all picks are of lanes in a set
abbrev pub Each : (ℕ → Type 0) → List ℕ → Type 0
Each Lane [] = Unit {0}
Each Lane (lane ∷ picks) = Lane lane × Each Lane picks

-- What is shared stays in a set by events of a set, and its answers are words.
pub record Keeps {C : Type 0} (m : Machine C) (Holds : C → Type 0) (Fine : Event → Type 0) : Type 0 where
  pub answer : (c : C) (lane : ℕ) (e : Event) → Holds c → m.answer c lane e < 2 ^ 32
  pub happens : (c : C) (lane : ℕ) (e : Event) → Holds c → Fine e → Holds (m.happens c lane e)
  pub ended : (c : C) (lane : ℕ) → Holds c → Holds (m.ended c lane)

module _ {C : Type 0} (m : Machine C) (Holds : C → Type 0) (Fine : Event → Type 0) (keeps : Keeps m Holds Fine) (Lane : ℕ → Type 0) where
  module _ {A B : Type 0} (left : ℕ → A → Turn A) (right : ℕ → B → Turn B) where
    abbrev AllAlike : (ℕ → A) → (ℕ → B) → Type 0
    AllAlike a b = (l : ℕ) → Lane l → Alike Fine (left l) (right l) (a l) (b l)

    moved_alike : (a : ℕ → A) (b : ℕ → B) (lane : ℕ) (x : A) (y : B) → AllAlike a b → Alike Fine (left lane) (right lane) x y
        → AllAlike (moved a lane x) (moved b lane y)
    moved_alike a b lane x y h k l is_lane = ⊎_elim
        (λ e. let same : nat_eq l lane ≡ true = grind arith in rw same (subst (λ i. Alike Fine (left i) (right i) x y) (sym e) k))
        (λ apart. let other : nat_eq l lane ≡ false = grind arith in rw other (h l is_lane))
        (cases_eq l lane)

    picked_alike : (a a' : ℕ → A) (b : ℕ → B) (c c' : C) (lane : ℕ) (idle : Bool) → Lane lane → Holds c → AllAlike a b → Picked idle m left a c lane a' c'
        → (b' : ℕ → B) × Picked idle m right b c lane b' c' × AllAlike a' b' × Holds c'
    picked_alike a a' b c c' lane true is_lane holds h p = (b, (refl, p.1), subst (λ (x : ℕ → A). AllAlike x b) (sym p.0) h, subst Holds (sym p.1) holds)
    picked_alike a a' b c c' lane false is_lane holds h (inl t) =
        let w = m.answer c lane t.event in
        let here = h lane is_lane in
        let k = event_there (left lane) (right lane) (a lane) (b lane) t.event t.after here.forward t.meets in
        let alike = alike_after Fine (left lane) (right lane) (a lane) (b lane) t.event t.after k.0 w (keeps.answer c lane t.event holds) t.meets k.1 here in
        let b' = moved b lane (k.0 w) in (
          b',
          inl (record { event = t.event; after = k.0; meets = k.1; lanes = refl; shared = t.shared }),
          subst (λ (x : ℕ → A). AllAlike x b') (sym t.lanes) (moved_alike a b lane (t.after w) (k.0 w) h alike),
          subst Holds (sym t.shared) (keeps.happens c lane t.event holds (here.fine [] [] (a lane) t.event t.after refl t.meets)),
        )
    picked_alike a a' b c c' lane false is_lane holds h (inr t) = (
      b,
      inr (record { meets = end_there (left lane) (right lane) (a lane) (b lane) (h lane is_lane).forward t.meets; lanes = refl; shared = t.shared }),
      subst (λ (x : ℕ → A). AllAlike x b) (sym t.lanes) h,
      subst Holds (sym t.shared) (keeps.ended c lane holds),
    )

    value_there : (picks : List ℕ) (a : ℕ → A) (b : ℕ → B) (c value : C) → Each Lane picks → Holds c → AllAlike a b
        → HasValue m left a c picks value → HasValue m right b c picks value
    value_there [] a b c value each holds h v = v
    value_there (lane ∷ picks) a b c value each holds h v =
        let p = picked_alike a v.0 b c v.1 lane (m.is_idle c lane) each.0 holds h v.2 in
        (p.0, v.1, p.1, value_there picks v.0 p.0 v.1 value each.1 p.3 p.2 v.3)

  -- Lanes that are the same, each with its own step and state, have the same runs: those that are picked, with events in the set, from a
  -- state in the set.
  pub same_value_within : {A B : Type 0} (left : ℕ → A → Turn A) (right : ℕ → B → Turn B) (a : ℕ → A) (b : ℕ → B) (c value : C) (picks : List ℕ)
      → Each Lane picks → Holds c → ((l : ℕ) → Lane l → SameLanes (left l) (right l) (a l) (b l)) → ((l : ℕ) → Lane l → MakesOnly Fine (left l) (a l))
      → HasValue m left a c picks value ↔ HasValue m right b c picks value
  same_value_within left right a b c value picks each holds h fine = (
    value_there left right picks a b c value each holds (λ l i. record { forward = (h l i).forward; back = (h l i).back; fine = fine l i }),
    value_there right left picks b a c value each holds
        (λ l i. record { forward = (h l i).back; back = (h l i).forward; fine = fine_back (right l) (left l) (b l) (a l) Fine (h l i).back (fine l i) }),
  )

each_of_all : (picks : List ℕ) → Each (λ l. Unit {0}) picks
each_of_all [] = tt
each_of_all (lane ∷ picks) = (tt, each_of_all picks)

-- of a machine all of whose answers are words
pub same_value : {C : Type 0} (m : Machine C) → ((c : C) (l : ℕ) (e : Event) → m.answer c l e < 2 ^ 32)
    → {A B : Type 0} (left : ℕ → A → Turn A) (right : ℕ → B → Turn B) (a : ℕ → A) (b : ℕ → B) (c value : C) (picks : List ℕ)
    → ((l : ℕ) → SameLanes (left l) (right l) (a l) (b l)) → HasValue m left a c picks value ↔ HasValue m right b c picks value
same_value m words left right a b c value picks h =
    same_value_within m (λ c. Unit {0}) (λ e. Unit {0}) (record { answer = λ c l e k. words c l e; happens = λ c l e k q. tt; ended = λ c l k. tt }) (λ l. Unit {0})
    left right a b c value picks (each_of_all picks) tt (λ l i. h l) (λ l i events answers t e after k q. tt)
