-- What one step of a machine says of all that the machine comes to.
use Rattle.std.proofs.Common.{◌≡◌, ℕ, suc, ◌+◌, ◌-◌, ◌<◌, ◌≤◌, false, refl, sym, ap, ◌∙◌, arith}
use Rattle.std.specs.Prelude.{Option, Some, None}
use Rattle.word_base.specs.declared.event.Event.{Event}
use Rattle.word_base.specs.declared.event.Event.TheVariants as event
use Rattle.word_base.specs.Lanes.{Turn, Silent, Asks, Ends, Wrong}
use Rattle.dispatch_machine.specs.declared.driver.Stepped.{Stepped}
use Rattle.dispatch_machine.specs.declared.driver.Stepped.TheVariants as stepped
use Rattle.dispatch_machine.specs.declared.lane.Next.{Next}
use Rattle.dispatch_machine.specs.declared.lane.Next.TheVariants as next
use Rattle.dispatch_machine.specs.Lane.{Position, At, Owed, is_owed, behind, Found, found, later, wrong_at, go_by, go, go_from, step_by, step_from, asks_word}

-- what a step comes to that is not silent
abbrev pub next_of : Stepped → Option Next
next_of stepped.Silent = None
next_of (stepped.Event e) = Some (next.Event e)
next_of stepped.Ended = Some next.Ended
next_of (stepped.Wrong strict) = Some (next.Wrong strict)

-- an event owes a word where it asks for one
owes : {S : Type 0} (e : Event) (after : ℕ → S) → is_owed (behind e after) ≡ asks_word (next.Event e)
owes (event.Load room word) after = refl
owes (event.Store room word value) after = refl
owes (event.Atomic room word kind a b) after = refl
owes (event.Fence scope classes) after = refl
owes (event.Barrier scope classes) after = refl

module _ {S : Type 0} where
  later_later : (k : ℕ) (f : Found S) → later k (later 1 f) ≡ later (k + 1) f
  later_later k f = let e : k + (1 + f.steps) ≡ k + 1 + f.steps = omega arith in ap (λ n. found f.next n f.position) e

  -- SILENT STEPS
  gave : (s : S) (turn : Turn S) (g : Stepped) (there : Position S) → (g, there) ≡ step_by s turn → next_of g ≡ next_of (step_by s turn).0
  gave s turn g there e = ap (λ (p : Stepped × Position S). next_of p.0) e

  leads : (s : S) (turn : Turn S) (g : Stepped) (there : Position S) → (g, there) ≡ step_by s turn → there ≡ (step_by s turn).1
  leads s turn g there e = ap (λ (p : Stepped × Position S). p.1) e

module _ {S : Type 0} (step : S → Turn S) where
  go_more : (n : ℕ) (s : S) → go step (n + 1) s ≡ go_by s (step s) (go step n)
  unfolding go
  go_more n s = let e : n + 1 ≡ suc n = omega arith in ap (λ m. go step m s) e

  pub go_none : (p : Position S) → go_from step 0 p ≡ found next.Spinning 0 p
  unfolding go
  go_none (At s) = refl
  go_none (Owed after) = refl

  silent_by : (m : ℕ) (s : S) (turn : Turn S) (there : Position S) → (stepped.Silent, there) ≡ step_by s turn
      → go_by s turn (go step m) ≡ later 1 (go_from step m there)
  silent_by m s (Silent to) there e = ap (λ p. later 1 (go_from step m p)) (sym (leads s (Silent to) stepped.Silent there e))
  silent_by m s (Asks event after) there e = let c = gave s (Asks event after) stepped.Silent there e in cc
  silent_by m s Ends there e = let c = gave s Ends stepped.Silent there e in cc
  silent_by m s (Wrong place rule) there e = let c = gave s (Wrong place rule) stepped.Silent there e in cc

  silent_first : (m : ℕ) (here there : Position S) → is_owed here ≡ false → (stepped.Silent, there) ≡ step_from step here
      → go_from step (m + 1) here ≡ later 1 (go_from step m there)
  silent_first m (At s) there h e = go_more m s ∙ silent_by m s (step s) there e
  silent_first m (Owed after) there h e = cc

  answered_by : (s : S) (turn : Turn S) (there : Position S) → (stepped.Silent, there) ≡ step_by s turn → is_owed there ≡ false
  answered_by s (Silent to) there e = ap is_owed (leads s (Silent to) stepped.Silent there e)
  answered_by s (Asks event after) there e = let c = gave s (Asks event after) stepped.Silent there e in cc
  answered_by s Ends there e = let c = gave s Ends stepped.Silent there e in cc
  answered_by s (Wrong place rule) there e = let c = gave s (Wrong place rule) stepped.Silent there e in cc

  -- behind a silent step no word is owed
  pub silent_answered : (here there : Position S) → is_owed here ≡ false → (stepped.Silent, there) ≡ step_from step here → is_owed there ≡ false
  silent_answered (At s) there h e = answered_by s (step s) there e
  silent_answered (Owed after) there h e = cc

  -- STOPS
  stop_by : (m : ℕ) (s : S) (turn : Turn S) (there : Position S) (g : Stepped) (nx : Next) → (g, there) ≡ step_by s turn
      → next_of g ≡ Some nx → go_by s turn (go step m) ≡ found nx 0 there
  stop_by m s (Silent to) there g nx e h = let c = gave s (Silent to) g there e in cc
  stop_by m s (Asks event after) there g nx e h =
      let c = gave s (Asks event after) g there e in
      let d = leads s (Asks event after) g there e in
      let n : next.Event event ≡ nx = cc in
      ap (λ x. found x 0 (behind event after)) n ∙ ap (found nx 0) (sym d)
  stop_by m s Ends there g nx e h =
      let c = gave s Ends g there e in
      let d = leads s Ends g there e in
      let n : next.Ended ≡ nx = cc in
      ap (λ x. found x 0 (At s)) n ∙ ap (found nx 0) (sym d)
  stop_by m s (Wrong place rule) there g nx e h =
      let c = gave s (Wrong place rule) g there e in
      let d = leads s (Wrong place rule) g there e in
      let n : wrong_at place rule ≡ nx = cc in
      ap (λ x. found x 0 (At s)) n ∙ ap (found nx 0) (sym d)

  stop_first : (m : ℕ) (here there : Position S) (g : Stepped) (nx : Next) → is_owed here ≡ false → (g, there) ≡ step_from step here
      → next_of g ≡ Some nx → go_from step (m + 1) here ≡ found nx 0 there
  stop_first m (At s) there g nx h e n = go_more m s ∙ stop_by m s (step s) there g nx e n
  stop_first m (Owed after) there g nx h e n = cc

  asks_by : (s : S) (turn : Turn S) (there : Position S) (g : Stepped) (nx : Next) → (g, there) ≡ step_by s turn
      → next_of g ≡ Some nx → is_owed there ≡ asks_word nx
  asks_by s (Silent to) there g nx e h = let c = gave s (Silent to) g there e in cc
  asks_by s (Asks event after) there g nx e h =
      let c = gave s (Asks event after) g there e in
      let n : next.Event event ≡ nx = cc in
      ap is_owed (leads s (Asks event after) g there e) ∙ (owes event after ∙ ap asks_word n)
  asks_by s Ends there g nx e h =
      let c = gave s Ends g there e in
      let n : next.Ended ≡ nx = cc in
      ap is_owed (leads s Ends g there e) ∙ ap asks_word n
  asks_by s (Wrong place rule) there g nx e h =
      let c = gave s (Wrong place rule) g there e in
      let n : wrong_at place rule ≡ nx = cc in
      ap is_owed (leads s (Wrong place rule) g there e) ∙ ap asks_word n

  -- behind a stop a word is owed where it asks for one
  pub stop_asks : (here there : Position S) (g : Stepped) (nx : Next) → is_owed here ≡ false → (g, there) ≡ step_from step here
      → next_of g ≡ Some nx → is_owed there ≡ asks_word nx
  stop_asks (At s) there g nx h e n = asks_by s (step s) there g nx e n
  stop_asks (Owed after) there g nx h e n = cc

-- BEHIND SOME SILENT STEPS: what comes from the start comes from there, with that many steps.
pub record Reached {S : Type 0} (step : S → Turn S) (start : Position S) (k : ℕ) (here : Position S) : Type 0 where
  pub answered : is_owed here ≡ false
  pub rest : (m : ℕ) → go_from step (k + m) start ≡ later k (go_from step m here)

pub reached_start : {S : Type 0} (step : S → Turn S) (start : Position S) → is_owed start ≡ false → Reached step start 0 start
reached_start step start h = record {
  answered = h;
  rest = λ m.
      let e : 0 + m ≡ m = omega arith in
      let f = go_from step m start in
      let z : f.steps ≡ 0 + f.steps = omega arith in
      ap (λ n. go_from step n start) e ∙ ap (λ n. found f.next n f.position) z;
}

pub reached_more : {S : Type 0} (step step' : S → Turn S) (start here there : Position S) (k : ℕ) → step' ≡ step → Reached step start k here
    → (stepped.Silent, there) ≡ step_from step' here → Reached step start (k + 1) there
reached_more step step' start here there k same r e' =
    let e = e' ∙ ap (λ f. step_from f here) same in
    record {
      answered = silent_answered step here there r.answered e;
      rest = λ m.
          let z : k + 1 + m ≡ k + (m + 1) = omega arith in
          ap (λ n. go_from step n start) z ∙ (r.rest (m + 1)
          ∙ (ap (later k) (silent_first step m here there r.answered e) ∙ later_later k (go_from step m there)));
    }

pub stopped : {S : Type 0} (step step' : S → Turn S) (start here there : Position S) (fuel k : ℕ) (g : Stepped) (nx : Next) → k < fuel
    → step' ≡ step → Reached step start k here → (g, there) ≡ step_from step' here → next_of g ≡ Some nx
    → found nx k there ≡ go_from step fuel start
stopped step step' start here there fuel k g nx l same r e n =
    let z : fuel ≡ k + (fuel - k - 1 + 1) = omega arith in
    let y : k + 0 ≡ k = omega arith in
    let stop = stop_first step (fuel - k - 1) here there g nx r.answered (e ∙ ap (λ f. step_from f here) same) n in
    sym (ap (λ m. go_from step m start) z ∙ (r.rest (fuel - k - 1 + 1) ∙ (ap (later k) stop ∙ ap (λ m. found nx m there) y)))

pub spent : {S : Type 0} (step : S → Turn S) (start here : Position S) (fuel k : ℕ) → fuel ≤ k → k ≤ fuel → Reached step start k here
    → found next.Spinning fuel here ≡ go_from step fuel start
spent step start here fuel k l l' r =
    let x : fuel ≡ k + 0 = omega arith in
    sym (ap (λ m. go_from step m start) x ∙ (r.rest 0 ∙ (ap (later k) (go_none step here)
    ∙ ap (λ m. found next.Spinning m here) (sym x))))
