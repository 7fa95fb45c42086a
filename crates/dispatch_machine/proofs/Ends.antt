-- Two lanes that end at once.
use Rattle.std.proofs.Common.{◌≡◌, ℕ, zero, suc, List, [], ◌∷◌, refl, sym, ap, ◌∙◌}
use Rattle.word_base.specs.declared.event.Event.{Event}
use Rattle.word_base.specs.Lanes.{Turn, Asks, Ends, Wrong, Goes, Meets, Makes, Forward, NeverWrong}

-- at the end nothing else is met
met_by : {S : Type 0} (step : S → Turn S) (s : S) (turn : Turn S) → step s ≡ Ends → (n : ℕ) (t : S) → Goes step n s t → step t ≡ turn → turn ≡ Ends
met_by step s turn e zero t g h = sym h ∙ (ap step (sym g) ∙ e)
met_by step s turn e (suc n) t g h = cc (g.1, e)

pub no_event : {S : Type 0} (step : S → Turn S) (s : S) (event : Event) (after : ℕ → S) → step s ≡ Ends → Meets step s (Asks event after) → ⊥
no_event step s event after e h = let k = met_by step s (Asks event after) e h.0 h.1.0 h.1.1 h.1.2 in cc

makes_nothing : {S : Type 0} (step : S → Turn S) (s : S) (events : List Event) (answers : List ℕ) (t : S) → step s ≡ Ends → Makes step s events answers t → s ≡ t
makes_nothing step s [] [] t e h = h
makes_nothing step s [] (a ∷ answers) t e h = absurd h
makes_nothing step s (x ∷ events) [] t e h = absurd h
makes_nothing step s (x ∷ events) (a ∷ answers) t e h = absurd (no_event step s x h.0 e h.1)

there : {A B : Type 0} (left : A → Turn A) (right : B → Turn B) (a : A) (b : B) → left a ≡ Ends
    → (events : List Event) (answers : List ℕ) (a' : A) → Makes left a events answers a' → (b' : B) × Makes right b events answers b'
there left right a b e [] [] a' h = (b, refl)
there left right a b e [] (w ∷ answers) a' h = absurd h
there left right a b e (x ∷ events) [] a' h = absurd h
there left right a b e (x ∷ events) (w ∷ answers) a' h = absurd (no_event left a x h.0 e h.1)

pub forward : {A B : Type 0} (left : A → Turn A) (right : B → Turn B) (a : A) (b : B) → left a ≡ Ends → right b ≡ Ends → Forward left right a b
forward left right a b e f = record {
  events = there left right a b e;
  ends = λ events answers a' b' h k m. let s = makes_nothing right b events answers b' f k in (0, (b', refl, ap right (sym s) ∙ f));
}

pub never_wrong : {S : Type 0} (step : S → Turn S) (s : S) → step s ≡ Ends → NeverWrong step s
never_wrong step s e events answers t place rule h k =
    let same = makes_nothing step s events answers t e h in
    let at : step t ≡ Ends = ap step (sym same) ∙ e in
    let m = met_by step t (Wrong place rule) at k.0 k.1.0 k.1.1 k.1.2 in
    cc
