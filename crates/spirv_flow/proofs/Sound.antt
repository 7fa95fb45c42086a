-- A lane that is never wrong is not wrong later.
use Rattle.std.proofs.Common.{◌≡◌, ℕ, suc, ◌<◌, ◌^◌, [], ◌∷◌, refl, sym, subst}
use Rattle.word_base.specs.declared.event.Event.{Event}
use Rattle.word_base.specs.Lanes.{Turn, Silent, Asks, Wrong, Goes, NeverWrong}

pub sound_silent : {S : Type 0} (step : S → Turn S) (s t : S) → NeverWrong step s → step s ≡ Silent t → NeverWrong step t
sound_silent step s t sound e [] [] u place rule m w =
    sound [] [] s place rule refl (suc w.0, (w.1.0, (t, e, subst (λ x. Goes step w.0 x w.1.0) (sym m) w.1.1), w.1.2))
sound_silent step s t sound e [] (a ∷ answers) u place rule m w = absurd m
sound_silent step s t sound e (x ∷ events) [] u place rule m w = absurd m
sound_silent step s t sound e (x ∷ events) (a ∷ answers) u place rule m w =
    sound (x ∷ events) (a ∷ answers) u place rule (m.0, (suc m.1.0, (m.1.1.0, (t, e, m.1.1.1), m.1.1.2)), m.2, m.3) w

pub sound_event : {S : Type 0} (step : S → Turn S) (s : S) (e : Event) (after : ℕ → S) (a : ℕ) → NeverWrong step s → step s ≡ Asks e after
    → a < 2 ^ 32 → NeverWrong step (after a)
sound_event step s e after a sound h lt events answers u place rule m w =
    sound (e ∷ events) (a ∷ answers) u place rule (after, (0, (s, refl, h)), lt, m) w

pub sound_here : {S : Type 0} (step : S → Turn S) (s : S) (place rule : ℕ) → NeverWrong step s → step s ≡ Wrong place rule → ⊥
sound_here step s place rule sound h = sound [] [] s place rule refl (0, (s, refl, h))
