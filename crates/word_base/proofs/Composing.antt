-- Lanes that nobody can tell apart, put together: through a lane in the middle, and with silent steps in front.
use Rattle.std.proofs.Common.{ℕ, List, [], ◌∷◌, refl, subst}
use Rattle.word_base.specs.declared.event.Event.{Event}
use Rattle.word_base.specs.Lanes.{Turn, Asks, Ends, Wrong, Goes, Makes, SameLanes}
use Rattle.word_base.proofs.Walks.{meets_behind, meets_later, spins_before, spins_later}

-- lanes that are the same as lanes in the middle
pub same_on : {A B C : Type 0} (left : A → Turn A) (middle : B → Turn B) (right : C → Turn C) (a : A) (b : B) (c : C)
    → SameLanes left middle a b → SameLanes middle right b c → SameLanes left right a c
same_on left middle right a b c h k = record {
  forward = record {
    events = λ events answers a' m. let x = h.forward.events events answers a' m in k.forward.events events answers x.0 x.1;
    ends = λ events answers a' c' m n e.
        let x = h.forward.events events answers a' m in
        k.forward.ends events answers x.0 c' x.1 n (h.forward.ends events answers a' x.0 m x.1 e);
  };
  back = record {
    events = λ events answers c' m. let x = k.back.events events answers c' m in h.back.events events answers x.0 x.1;
    ends = λ events answers c' a' m n e.
        let x = k.back.events events answers c' m in
        h.back.ends events answers x.0 a' x.1 n (k.back.ends events answers c' x.0 m x.1 e);
  };
  spins = λ events answers a' c' m n s.
      let x = h.forward.events events answers a' m in
      k.spins events answers x.0 c' x.1 n (h.spins events answers a' x.0 m x.1 s);
  spins_back = λ events answers a' c' m n s.
      let x = h.forward.events events answers a' m in
      h.spins_back events answers a' x.0 m x.1 (k.spins_back events answers x.0 c' x.1 n s);
  never_wrong = k.never_wrong;
}

-- SILENT STEPS IN FRONT of the second of two lanes that are the same.
module _ {A B : Type 0} (left : A → Turn A) (right : B → Turn B) (a : A) (b c : B) (n : ℕ) (front : Goes right n c b)
  where
    made_before : (events : List Event) (answers : List ℕ) (t : B) → Makes right b events answers t
        → (u : B) × Makes right c events answers u
    made_before [] [] t m = (c, refl)
    made_before [] (w ∷ answers) t m = absurd m
    made_before (e ∷ events) [] t m = absurd m
    made_before (e ∷ events) (w ∷ answers) t m =
        (t, (m.0, meets_later right n c b (Asks e m.0) front m.1, m.2, m.3))

    -- silent steps lead from where the one comes to where the other comes
    made_behind : (events : List Event) (answers : List ℕ) (t : B) → Makes right c events answers t
        → (u : B) × (k : ℕ) × Goes right k t u × Makes right b events answers u
    made_behind [] [] t m = (b, n, subst (λ x. Goes right n x b) m front, refl)
    made_behind [] (w ∷ answers) t m = absurd m
    made_behind (e ∷ events) [] t m = absurd m
    made_behind (e ∷ events) (w ∷ answers) t m =
        (t, 0, refl, (m.0, meets_behind right n c b (Asks e m.0) tt front m.1, m.2, m.3))

    pub same_before : SameLanes left right a b → SameLanes left right a c
    same_before h = record {
      forward = record {
        events = λ events answers a' m.
            let x = h.forward.events events answers a' m in made_before events answers x.0 x.1;
        ends = λ events answers a' t m k e.
            let x = made_behind events answers t k in
            meets_later right x.1 t x.0 Ends x.2 (h.forward.ends events answers a' x.0 m x.3 e);
      };
      back = record {
        events = λ events answers t k.
            let x = made_behind events answers t k in h.back.events events answers x.0 x.3;
        ends = λ events answers t a' k m e.
            let x = made_behind events answers t k in
            h.back.ends events answers x.0 a' x.3 m (meets_behind right x.1 t x.0 Ends tt x.2 e);
      };
      spins = λ events answers a' t m k s.
          let x = made_behind events answers t k in
          spins_before right x.1 t x.0 x.2 (h.spins events answers a' x.0 m x.3 s);
      spins_back = λ events answers a' t m k s.
          let x = made_behind events answers t k in
          h.spins_back events answers a' x.0 m x.3 (spins_later right x.1 t x.0 s x.2);
      never_wrong = λ events answers t place rule k w.
          let x = made_behind events answers t k in
          h.never_wrong events answers x.0 place rule x.3
          (meets_behind right x.1 t x.0 (Wrong place rule) tt x.2 w);
    }
