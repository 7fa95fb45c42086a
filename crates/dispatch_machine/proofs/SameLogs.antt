-- Lanes of which each makes the events of the other, behind an event and with events in a set.
use Rattle.std.proofs.Common.{◌≡◌, ℕ, ◌<◌, ◌^◌, List, [], ◌∷◌, ◌++◌, length, refl, sym, subst, arith}
use Rattle.word_base.specs.declared.event.Event.{Event}
use Rattle.word_base.specs.Lanes.{Turn, Asks, Ends, Meets, Makes, Forward, SameLanes}
use Rattle.word_base.proofs.Walks.{one_turn}

-- All events that a lane makes are in a set.
abbrev pub MakesOnly : {S : Type 0} → (Event → Type 0) → (S → Turn S) → S → Type 0
MakesOnly {S} Fine step s =
    (events : List Event) (answers : List ℕ) (t : S) (e : Event) (after : ℕ → S) → Makes step s events answers t → Meets step t (Asks e after) → Fine e

-- lanes that are the same as lanes in the middle
pub same_on : {A B C : Type 0} (left : A → Turn A) (middle : B → Turn B) (right : C → Turn C) (a : A) (b : B) (c : C)
    → SameLanes left middle a b → SameLanes middle right b c → SameLanes left right a c
same_on left middle right a b c h k = record {
  forward = record {
    events = λ events answers a' m. let x = h.forward.events events answers a' m in k.forward.events events answers x.0 x.1;
    ends = λ events answers a' c' m n e.
        let x = h.forward.events events answers a' m in
        k.forward.ends events answers x.0 c' x.1 n (h.forward.ends events answers a' x.0 m x.1 e);
  };
  back = record {
    events = λ events answers c' m. let x = k.back.events events answers c' m in h.back.events events answers x.0 x.1;
    ends = λ events answers c' a' m n e.
        let x = k.back.events events answers c' m in
        h.back.ends events answers x.0 a' x.1 n (k.back.ends events answers c' x.0 m x.1 e);
  };
  spins = λ events answers a' c' m n s.
      let x = h.forward.events events answers a' m in
      k.spins events answers x.0 c' x.1 n (h.spins events answers a' x.0 m x.1 s);
  spins_back = λ events answers a' c' m n s.
      let x = h.forward.events events answers a' m in
      h.spins_back events answers a' x.0 m x.1 (k.spins_back events answers x.0 c' x.1 n s);
  never_wrong = k.never_wrong;
}

-- one event more, and all events but the last
module _ {S : Type 0} (step : S → Turn S) where
  with_last : (events : List Event) (answers : List ℕ) (s t : S) (e : Event) (after : ℕ → S) → Makes step s events answers t → Meets step t (Asks e after)
      → Makes step s (events ++ e ∷ []) (answers ++ 0 ∷ []) (after 0)
  with_last [] [] s t e after h m = (after, subst (λ x. Meets step x (Asks e after)) (sym h) m, omega arith, refl)
  with_last [] (a ∷ answers) s t e after h m = absurd h
  with_last (x ∷ events) [] s t e after h m = absurd h
  with_last (x ∷ events) (a ∷ answers) s t e after h m = (h.0, h.1, h.2, with_last events answers (h.0 a) t e after h.3 m)

  but_last : (events : List Event) (answers : List ℕ) (s t : S) (e : Event) → length events ≡ length answers
      → Makes step s (events ++ e ∷ []) (answers ++ 0 ∷ []) t → (u : S) × (after : ℕ → S) × Makes step s events answers u × Meets step u (Asks e after)
  but_last [] [] s t e l h = (s, h.0, refl, h.1)
  but_last [] (a ∷ answers) s t e l h = absurd (omega (arith, l))
  but_last (x ∷ events) [] s t e l h = absurd (omega (arith, l))
  but_last (x ∷ events) (a ∷ answers) s t e l h =
      let k = but_last events answers (h.0 a) t e (omega (arith, l)) h.3 in
      (k.0, k.1, (h.0, h.1, h.2, k.2), k.3)

  as_many : (events : List Event) (answers : List ℕ) (s t : S) → Makes step s events answers t → length events ≡ length answers
  as_many [] [] s t h = refl
  as_many [] (a ∷ answers) s t h = absurd h
  as_many (x ∷ events) [] s t h = absurd h
  as_many (x ∷ events) (a ∷ answers) s t h = let k = as_many events answers (h.0 a) t h.3 in omega (arith, k)

-- One lane makes the events of the other, both ways, and they are in a set.
pub record Alike {A B : Type 0} (Fine : Event → Type 0) (left : A → Turn A) (right : B → Turn B) (a : A) (b : B) : Type 0 where
  pub forward : Forward left right a b
  pub back : Forward right left b a
  pub fine : MakesOnly Fine left a

module _ {A B : Type 0} (left : A → Turn A) (right : B → Turn B) (a : A) (b : B) where
  -- the second lane meets the first one's next event
  pub event_there : (e : Event) (f : ℕ → A) → Forward left right a b → Meets left a (Asks e f) → (g : ℕ → B) × Meets right b (Asks e g)
  event_there e f h m = let k = h.events (e ∷ []) (0 ∷ []) (f 0) (f, m, omega arith, refl) in (k.1.0, k.1.1)

  pub end_there : Forward left right a b → Meets left a Ends → Meets right b Ends
  end_there h m = h.ends [] [] a b refl refl m

  one_after : (e : Event) (g g' : ℕ → B) → Meets right b (Asks e g) → Meets right b (Asks e g') → g ≡ g'
  one_after e g g' m n =
      let x : Turn B = Asks e g in
      let y : Turn B = Asks e g' in
      let same : x ≡ y = one_turn right b x y tt tt m n in
      cc

  -- and is like it behind the event
  forward_after : (e : Event) (f : ℕ → A) (g : ℕ → B) (w : ℕ) → w < 2 ^ 32 → Meets left a (Asks e f) → Meets right b (Asks e g)
      → Forward left right a b → Forward left right (f w) (g w)
  forward_after e f g w l m n h = record {
    events = λ events answers a' k.
        let x = h.events (e ∷ events) (w ∷ answers) a' (f, m, l, k) in
        let same : x.1.0 ≡ g = one_after e x.1.0 g x.1.1 n in
        (x.0, subst (λ (q : ℕ → B). Makes right (q w) events answers x.0) same x.1.3);
    ends = λ events answers a' b' k k' s. h.ends (e ∷ events) (w ∷ answers) a' b' (f, m, l, k) (g, n, l, k') s;
  }

  -- the first lane's events are in a set where those of the second are
  pub fine_back : (Fine : Event → Type 0) → Forward left right a b → MakesOnly Fine right b → MakesOnly Fine left a
  fine_back Fine h fine events answers t e after k m =
      let x = h.events (events ++ e ∷ []) (answers ++ 0 ∷ []) (after 0) (with_last left events answers a t e after k m) in
      let y = but_last right events answers b x.0 e (as_many left events answers a t k) x.1 in
      fine events answers y.0 e y.1 y.2 y.3

pub alike_after : {A B : Type 0} (Fine : Event → Type 0) (left : A → Turn A) (right : B → Turn B) (a : A) (b : B) (e : Event) (f : ℕ → A) (g : ℕ → B) (w : ℕ)
    → w < 2 ^ 32 → Meets left a (Asks e f) → Meets right b (Asks e g) → Alike Fine left right a b → Alike Fine left right (f w) (g w)
alike_after Fine left right a b e f g w l m n h = record {
  forward = forward_after left right a b e f g w l m n h.forward;
  back = forward_after right left b a e g f w l n m h.back;
  fine = λ events answers t x after k. h.fine (e ∷ events) (w ∷ answers) t x after (f, m, l, k);
}
