-- Nobody can tell a machine from the one that starts with it, where the start may be missing.
use Rattle.std.proofs.Common.{◌≡◌, ℕ, zero, suc, List, [], ◌∷◌, Some, refl, sym, ap, ◌∙◌, subst}
use Rattle.word_base.specs.declared.event.Event.{Event}
use Rattle.word_base.specs.Lanes.{Turn, Silent, Asks, Ends, Wrong, Goes, Meets, Spins, Makes, NeverWrong, SameLanes}
use Rattle.word_base.specs.Lanes.{Standing, standing, started}
use Rattle.word_base.proofs.Walks.{one_state}
use Rattle.word_base.proofs.Composing.{same_before}

-- WHAT A TURN of a machine whose start may be missing says of the machine's own.
silent_of : {S : Type 0} (turn : Turn S) (u : Standing S) → standing turn ≡ Silent u
    → (t : S) × (turn ≡ Silent t) × (u ≡ Some t)
silent_of (Silent to) u h = (to, refl, cc)
silent_of (Asks e after) u h = absurd cc
silent_of Ends u h = absurd cc
silent_of (Wrong place rule) u h = absurd cc

event_of : {S : Type 0} (turn : Turn S) (e : Event) (after : ℕ → Standing S) → standing turn ≡ Asks e after
    → (g : ℕ → S) × (turn ≡ Asks e g) × (after ≡ (λ w. Some (g w)))
event_of (Silent to) e after h = absurd cc
event_of {S} (Asks event g) e after h =
    let events : event ≡ e = cc in
    (g, ap (λ (x : Event). (let y : Turn S = Asks x g in y)) events, cc)
event_of Ends e after h = absurd cc
event_of (Wrong place rule) e after h = absurd cc

end_of : {S : Type 0} (turn : Turn S) → standing turn ≡ Ends → turn ≡ Ends
end_of (Silent to) h = absurd cc
end_of (Asks e after) h = absurd cc
end_of Ends h = refl
end_of (Wrong place rule) h = absurd cc

wrong_of : {S : Type 0} (turn : Turn S) (place rule : ℕ) → standing turn ≡ Wrong place rule → turn ≡ Wrong place rule
wrong_of (Silent to) place rule h = absurd cc
wrong_of (Asks e after) place rule h = absurd cc
wrong_of Ends place rule h = absurd cc
wrong_of {S} (Wrong p r) place rule h =
    let places : p ≡ place = cc in
    let rules : r ≡ rule = cc in
    cc (places, rules)

-- A MACHINE THAT STARTS, and the machine itself.
module _ {S : Type 0} (step : S → Turn S) (place rule : ℕ) where
  abbrev right : Standing S → Turn (Standing S)
  right = started place rule step

  started_goes : (n : ℕ) (s t : S) → Goes step n s t → Goes right n (Some s) (Some t)
  started_goes zero s t g = ap Some g
  started_goes (suc n) s t g = (Some g.0, ap standing g.1, started_goes n g.0 t g.2)

  own_goes : (n : ℕ) (s : S) (u : Standing S) → Goes right n (Some s) u → (t : S) × (u ≡ Some t) × Goes step n s t
  own_goes zero s u g = (s, sym g, refl)
  own_goes (suc n) s u g =
      let k = silent_of (step s) g.0 g.1 in
      let rest = own_goes n k.0 u (subst (λ x. Goes right n x u) k.2 g.2) in
      (rest.0, rest.1, (k.0, k.1, rest.2))

  started_meets : (s : S) (turn : Turn S) → Meets step s turn → Meets right (Some s) (standing turn)
  started_meets s turn m = (m.0, (Some m.1.0, started_goes m.0 s m.1.0 m.1.1, ap standing m.1.2))

  own_meets : (s : S) (turn : Turn (Standing S)) → Meets right (Some s) turn
      → (x : Turn S) × Meets step s x × (standing x ≡ turn)
  own_meets s turn m =
      let k = own_goes m.0 s m.1.0 m.1.1 in
      (step k.0, (m.0, (k.0, k.2, refl)), ap right (sym k.1) ∙ m.1.2)

  started_makes : (events : List Event) (answers : List ℕ) (s t : S) → Makes step s events answers t
      → Makes right (Some s) events answers (Some t)
  started_makes [] [] s t m = ap Some m
  started_makes [] (w ∷ answers) s t m = absurd m
  started_makes (e ∷ events) [] s t m = absurd m
  started_makes (e ∷ events) (w ∷ answers) s t m =
      ((λ x. Some (m.0 x)), started_meets s (Asks e m.0) m.1, m.2, started_makes events answers (m.0 w) t m.3)

  own_makes : (events : List Event) (answers : List ℕ) (s : S) (u : Standing S) → Makes right (Some s) events answers u
      → (t : S) × (u ≡ Some t) × Makes step s events answers t
  own_makes [] [] s u m = (s, sym m, refl)
  own_makes [] (w ∷ answers) s u m = absurd m
  own_makes (e ∷ events) [] s u m = absurd m
  own_makes (e ∷ events) (w ∷ answers) s u m =
      let x = own_meets s (Asks e m.0) m.1 in
      let k = event_of x.0 e m.0 x.2 in
      let rest = own_makes events answers (k.0 w) u
      (subst (λ (f : ℕ → Standing S). Makes right (f w) events answers u) k.2 m.3) in
      (rest.0, rest.1, (k.0, subst (λ turn. Meets step s turn) k.1 x.1, m.2, rest.2))

  -- behind the same events the one stands where the other stands
  there : (events : List Event) (answers : List ℕ) (s t : S) (u : Standing S) → Makes step s events answers t
      → Makes right (Some s) events answers u → u ≡ Some t
  there events answers s t u m k =
      let x = own_makes events answers s u k in
      x.1 ∙ ap Some (one_state step events answers s x.0 t x.2 m)

  own_ends : (s : S) (u : Standing S) → u ≡ Some s → Meets right u Ends → Meets step s Ends
  own_ends s u e m =
      let x = own_meets s Ends (subst (λ v. Meets right v Ends) e m) in
      subst (λ turn. Meets step s turn) (end_of x.0 x.2) x.1

  started_spins : (s : S) (u : Standing S) → u ≡ Some s → Spins step s → Spins right u
  started_spins s u e spins n =
      let x = spins n in (Some x.0, subst (λ v. Goes right n v (Some x.0)) (sym e) (started_goes n s x.0 x.1))

  own_spins : (s : S) (u : Standing S) → u ≡ Some s → Spins right u → Spins step s
  own_spins s u e spins n =
      let x = spins n in
      let k = own_goes n s x.0 (subst (λ v. Goes right n v x.0) e x.1) in
      (k.0, k.2)

  pub same_started : (s : S) → NeverWrong step s → SameLanes step right s (Some s)
  same_started s sound = record {
    forward = record {
      events = λ events answers t m. (Some t, started_makes events answers s t m);
      ends = λ events answers t u m k e.
          subst (λ v. Meets right v Ends) (sym (there events answers s t u m k)) (started_meets t Ends e);
    };
    back = record {
      events = λ events answers u k. let x = own_makes events answers s u k in (x.0, x.2);
      ends = λ events answers u t k m e. own_ends t u (there events answers s t u m k) e;
    };
    spins = λ events answers t u m k spins. started_spins t u (there events answers s t u m k) spins;
    spins_back = λ events answers t u m k spins. own_spins t u (there events answers s t u m k) spins;
    never_wrong = λ events answers u at broken k w.
        let x = own_makes events answers s u k in
        let y = own_meets x.0 (Wrong at broken) (subst (λ v. Meets right v (Wrong at broken)) x.1 w) in
        sound events answers x.0 at broken x.2
        (subst (λ turn. Meets step x.0 turn) (wrong_of y.0 at broken y.2) y.1);
  }

  -- and the machine where silent steps lead from the start to where it stands
  pub same_from : (n : ℕ) (from to : S) → Goes step n from to → NeverWrong step to
      → SameLanes step right to (Some from)
  same_from n from to g sound =
      same_before step right to (Some to) (Some from) n (started_goes n from to g) (same_started to sound)
