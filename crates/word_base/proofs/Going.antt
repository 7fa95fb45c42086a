-- How many silent steps a lane makes that goes back so often, and that a machine whose start may be missing counts as the machine.
use Rattle.std.proofs.Common.{◌≡◌, ℕ, zero, suc, ◌+◌, ◌*◌, ◌<◌, ◌≤◌, Bool, true, false, List, [], ◌∷◌, Some, refl, sym, ap, ◌∙◌, subst, arith}
use Rattle.std.specs.Prelude.{nat_le, if◌then◌else◌}
use Rattle.std.proofs.lemmas.Bool.Decides.{nat_tests}
use Rattle.word_base.specs.declared.event.Event.{Event}
use Rattle.word_base.specs.Lanes.{Turn, Silent, Asks, Ends, Wrong, Goes, Meets, Makes, Standing, standing, started}
use Rattle.word_base.specs.Counted.{Counted, at_count, with_count, counted, back_by, standing_cost}
use Rattle.word_base.proofs.Simulation.{product_of_sum}
use Rattle.word_base.proofs.Uncounted.{silent_by, count_by}

-- one step more, whether it goes back or not
one_more : (p q c N : ℕ) (t : Bool) → nat_le q p ≡ t → p < N → 1 + (p + N * c) ≤ N * (c + (if t then 1 else 0)) + q
one_more p q c N true e l = let split = product_of_sum N c 1 (c + 1) refl in omega (arith, split)
one_more p q c N false e l =
    let split = product_of_sum N c 0 (c + 0) refl in
    let rises : p < q = grind (arith, nat_tests, e) in
    omega (arith, split, rises)

module _ {S : Type 0} (step : S → Turn S) (place : S → ℕ) (N : ℕ) (within : (s t : S) → step s ≡ Silent t → place s < N) where
  -- N steps for each one that goes back, and as many as the places between
  pub few_steps : (n : ℕ) (x y : Counted S) → Goes (counted step (back_by place)) n x y
      → n + (place x.state + N * x.count) ≤ N * y.count + place y.state
  few_steps zero x y g = subst (λ (z : Counted S). 0 + (place x.state + N * x.count) ≤ N * z.count + place z.state) g (omega arith)
  few_steps (suc n) x y g =
      let rest = few_steps n g.0 y g.2 in
      let next = silent_by step (back_by place) (step x.state) x.state x.count g.0 g.1 in
      let count = count_by step (back_by place) (step x.state) x.state x.count g.0 g.1 in
      let one =
      one_more (place x.state) (place g.0.state) x.count N (nat_le (place g.0.state) (place x.state)) refl (within x.state g.0.state next) in
      let here : 1 + (place x.state + N * x.count) ≤ N * g.0.count + place g.0.state =
      subst (λ c. 1 + (place x.state + N * x.count) ≤ N * c + place g.0.state) (sym count) one in
      omega (arith, rest, here)

module _ {S : Type 0} (step : S → Turn S) (cost : S → S → ℕ) (place rule : ℕ) where
  -- the machine's own lane that counts, and that of the machine that starts with it
  abbrev own : Counted S → Turn (Counted S)
  own = counted step cost

  abbrev starting : Counted (Standing S) → Turn (Counted (Standing S))
  starting = counted (started place rule step) (standing_cost cost)

  abbrev there : Counted S → Counted (Standing S)
  there x = at_count (Some x.state) x.count

  abbrev over : Turn (Counted S) → Turn (Counted (Standing S))
  over (Silent to) = Silent (there to)
  over (Asks e after) = Asks e (λ a. there (after a))
  over Ends = Ends
  over (Wrong p r) = Wrong p r

  turn_over : (turn : Turn S) (s : S) (n : ℕ)
      → with_count (standing_cost cost) (Some s) n (standing turn) ≡ over (with_count cost s n turn)
  turn_over (Silent to) s n = refl
  turn_over (Asks e after) s n = refl
  turn_over Ends s n = refl
  turn_over (Wrong p r) s n = refl

  one_over : (x : Counted S) (turn : Turn (Counted S)) → own x ≡ turn → starting (there x) ≡ over turn
  one_over x turn e = turn_over (step x.state) x.state x.count ∙ ap over e

  pub goes_counted : (n : ℕ) (x y : Counted S) → Goes own n x y → Goes starting n (there x) (there y)
  goes_counted zero x y g = ap there g
  goes_counted (suc n) x y g = (there g.0, one_over x (Silent g.0) g.1, goes_counted n g.0 y g.2)

  pub meets_counted : (x : Counted S) (turn : Turn (Counted S)) → Meets own x turn → Meets starting (there x) (over turn)
  meets_counted x turn m = (m.0, (there m.1.0, goes_counted m.0 x m.1.0 m.1.1, one_over m.1.0 turn m.1.2))

  pub makes_counted : (events : List Event) (answers : List ℕ) (x y : Counted S) → Makes own x events answers y
      → Makes starting (there x) events answers (there y)
  makes_counted [] [] x y h = ap there h
  makes_counted [] (a ∷ answers) x y h = absurd h
  makes_counted (e ∷ events) [] x y h = absurd h
  makes_counted (e ∷ events) (a ∷ answers) x y h =
      ((λ b. there (h.0 b)), meets_counted x (Asks e h.0) h.1, h.2, makes_counted events answers (h.0 a) y h.3)
