-- What a lane comes to within its fuel, in the words of runs.
use Rattle.std.proofs.Common.{◌≡◌, ◌↔◌, ℕ, zero, suc, ◌+◌, ◌-◌, ◌<◌, refl, sym, ap, ◌∙◌, subst, arith}
use Rattle.word_base.specs.declared.event.Event.{Event}
use Rattle.word_base.specs.Lanes.{Turn, Silent, Asks, Ends, Wrong, Goes, MeetsIn}
use Rattle.dispatch_machine.specs.declared.lane.Next.{Next}
use Rattle.dispatch_machine.specs.declared.lane.Next.TheVariants as next
use Rattle.dispatch_machine.specs.declared.lane.Strict.{Strict}
use Rattle.dispatch_machine.specs.Lane.{Position, At, behind, Found, found, later, go_by, go, go_from}

-- that many silent steps lead to a state that takes this turn, where the lane stays
abbrev pub Stays : {S : Type 0} → (S → Turn S) → ℕ → S → Turn S → Position S → Type 0
Stays {S} step k s turn at = (t : S) × Goes step k s t × (step t ≡ turn) × (at ≡ At t)

abbrev pub Asked : {S : Type 0} → (S → Turn S) → ℕ → S → Event → Position S → Type 0
Asked {S} step k s e at = (after : ℕ → S) × MeetsIn step k s (Asks e after) × (at ≡ behind e after)

abbrev pub Spent : {S : Type 0} → (S → Turn S) → ℕ → S → Position S → Type 0
Spent {S} step fuel s at = (t : S) × Goes step fuel s t × (at ≡ At t)

abbrev pub wrong_of : {S : Type 0} → Strict → Turn S
wrong_of strict = Wrong strict.place strict.rule

abbrev pub Means : {S : Type 0} → (S → Turn S) → ℕ → S → Next → ℕ → Position S → Type 0
Means step fuel s (next.Event e) k at = (k < fuel) × Asked step k s e at
Means step fuel s next.Ended k at = (k < fuel) × Stays step k s Ends at
Means step fuel s (next.Wrong strict) k at = (k < fuel) × Stays step k s (wrong_of strict) at
Means step fuel s next.Spinning k at = (k ≡ fuel) × Spent step fuel s at

module _ {S : Type 0} (step : S → Turn S) where
  goes_more : (n : ℕ) (s t u : S) → step s ≡ Silent t → Goes step n t u → Goes step (1 + n) s u
  goes_more n s t u e g = let c : suc n ≡ 1 + n = omega arith in subst (λ m. Goes step m s u) c (t, e, g)

  -- one silent step more in front
  more : (fuel : ℕ) (s t : S) → step s ≡ Silent t → (next : Next) (k : ℕ) (at : Position S)
      → Means step fuel t next k at → Means step (suc fuel) s next (1 + k) at
  more fuel s t e (next.Event event) k at h =
      (omega (arith, h.0), (h.1.0, (h.1.1.0, goes_more k s t h.1.1.0 e h.1.1.1, h.1.1.2), h.1.2))
  more fuel s t e next.Ended k at h = (omega (arith, h.0), (h.1.0, goes_more k s t h.1.0 e h.1.1, h.1.2, h.1.3))
  more fuel s t e (next.Wrong strict) k at h = (omega (arith, h.0), (h.1.0, goes_more k s t h.1.0 e h.1.1, h.1.2, h.1.3))
  more fuel s t e next.Spinning k at h = (omega (arith, h.0), (h.1.0, (t, e, h.1.1), h.1.2))

  abbrev Meant : ℕ → S → Found S → Type 0
  Meant fuel s f = Means step fuel s f.next f.steps f.position

  by_turn : (fuel : ℕ) (s : S) (turn : Turn S) → step s ≡ turn → ((t : S) → Meant fuel t (go step fuel t))
      → Meant (suc fuel) s (go_by s turn (go step fuel))
  by_turn fuel s (Silent to) e h =
      more fuel s to e (go step fuel to).next (go step fuel to).steps (go step fuel to).position (h to)
  by_turn fuel s (Asks event after) e h = (omega arith, (after, (s, refl, e), refl))
  by_turn fuel s Ends e h = (omega arith, (s, refl, e, refl))
  by_turn fuel s (Wrong place rule) e h = (omega arith, (s, refl, e, refl))

  means : (fuel : ℕ) (s : S) → Meant fuel s (go step fuel s)
  unfolding go
  means zero s = (refl, (s, refl, refl))
  means (suc fuel) s = by_turn fuel s (step s) refl (means fuel)

  -- the first silent steps, and what comes behind them
  behind_steps : (k m : ℕ) (s t : S) → Goes step k s t → go step (k + m) s ≡ later k (go step m t)
  unfolding go
  behind_steps zero m s t g =
      let e : 0 + m ≡ m = omega arith in
      let c : go step m t ≡ later 0 (go step m t) =
      let z : (go step m t).steps ≡ 0 + (go step m t).steps = omega arith in
      ap (λ n. found (go step m t).next n (go step m t).position) z in
      ap (λ n. go step n s) e ∙ (ap (go step m) g ∙ c)
  behind_steps (suc k) m s t g =
      let e : suc k + m ≡ suc (k + m) = omega arith in
      let f = go step m t in
      let z : 1 + (k + f.steps) ≡ suc k + f.steps = omega arith in
      ap (λ n. go step n s) e ∙ (ap (λ x. go_by s x (go step (k + m))) g.1
      ∙ (ap (later 1) (behind_steps k m g.0 t g.2) ∙ ap (λ n. found f.next n f.position) z))

  -- fewer silent steps than the fuel, and the turn behind them
  at_turn : (fuel k : ℕ) (s t : S) (turn : Turn S) → k < fuel → Goes step k s t → step t ≡ turn
      → go step fuel s ≡ later k (go_by t turn (go step (fuel - k - 1)))
  unfolding go
  at_turn fuel k s t turn l g h =
      let e : fuel ≡ k + suc (fuel - k - 1) = omega arith in
      ap (λ n. go step n s) e ∙ (behind_steps k (suc (fuel - k - 1)) s t g
      ∙ ap (λ x. later k (go_by t x (go step (fuel - k - 1)))) h)

  counted : (next : Next) (k : ℕ) (p at : Position S) → at ≡ p → found next (k + 0) p ≡ found next k at
  counted next k p at e = let z : k + 0 ≡ k = omega arith in ap (λ n. found next n p) z ∙ ap (found next k) (sym e)

  only : (fuel : ℕ) (s : S) (next : Next) (k : ℕ) (at : Position S) → Means step fuel s next k at → go step fuel s ≡ found next k at
  unfolding go
  only fuel s (next.Event e) k at h =
      at_turn fuel k s h.1.1.0 (Asks e h.1.0) h.0 h.1.1.1 h.1.1.2 ∙ counted (next.Event e) k (behind e h.1.0) at h.1.2
  only fuel s next.Ended k at h = at_turn fuel k s h.1.0 Ends h.0 h.1.1 h.1.2 ∙ counted next.Ended k (At h.1.0) at h.1.3
  only fuel s (next.Wrong strict) k at h =
      at_turn fuel k s h.1.0 (wrong_of strict) h.0 h.1.1 h.1.2 ∙ counted (next.Wrong strict) k (At h.1.0) at h.1.3
  only fuel s next.Spinning k at h =
      let e : fuel ≡ fuel + 0 = omega arith in
      ap (λ n. go step n s) e ∙ (behind_steps fuel 0 s h.1.0 h.1.1
      ∙ (counted next.Spinning fuel (At h.1.0) at h.1.2 ∙ ap (λ n. found next.Spinning n at) (sym h.0)))

  -- what is found is what is meant, and nothing else is
  pub exactly : (fuel : ℕ) (s : S) (next : Next) (k : ℕ) (at : Position S)
      → ((go step fuel s ≡ found next k at) ↔ Means step fuel s next k at)
  exactly fuel s next k at = (λ e. subst (Meant fuel s) e (means fuel s), only fuel s next k at)

  stays : (k more : ℕ) (s : S) (next : Next) (turn : Turn S) (at : Position S) → Stays step k s turn at → 0 < more
      → ((t : S) → step t ≡ turn → Means step more t next 0 (At t)) → go_from step more at ≡ found next 0 at
  stays k more s next turn at h l f =
      subst (λ p. go_from step more p ≡ found next 0 p) (sym h.3) (only more h.0 next 0 (At h.0) (f h.0 h.2))

  pub ended_again : (fuel k more : ℕ) (s : S) (at : Position S) → go step fuel s ≡ found next.Ended k at → 0 < more
      → go_from step more at ≡ found next.Ended 0 at
  ended_again fuel k more s at e l =
      stays k more s next.Ended Ends at ((exactly fuel s next.Ended k at).0 e).1 l (λ t h. (l, (t, refl, h, refl)))

  pub wrong_again : (fuel k more : ℕ) (s : S) (strict : Strict) (at : Position S) → go step fuel s ≡ found (next.Wrong strict) k at → 0 < more
      → go_from step more at ≡ found (next.Wrong strict) 0 at
  wrong_again fuel k more s strict at e l =
      stays k more s (next.Wrong strict) (wrong_of strict) at ((exactly fuel s (next.Wrong strict) k at).0 e).1 l
      (λ t h. (l, (t, refl, h, refl)))
