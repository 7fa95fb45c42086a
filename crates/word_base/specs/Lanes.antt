-- Lanes: machines that make silent steps, ask for events, and end. They stand over any type of states, so that bytecode, trees and
-- modules share every word here.
use Rattle.std.specs.Prelude.{◌≡◌, ℕ, zero, suc, ◌<◌, ◌^◌, List, [], ◌∷◌, Option, Some, None}
use Rattle.word_base.specs.declared.event.Event.{Event}

-- What one step is. An event is answered with a word, which those that want none ignore. A lane is wrong where it breaks a strict
-- rule of the machine, at a place of its code.
pub data Turn (S : Type 0) : Type 0 where
  Silent : (to : S) → Turn S
  Asks : (event : Event) (after : ℕ → S) → Turn S
  Ends : Turn S
  Wrong : (place rule : ℕ) → Turn S

-- that many silent steps lead from one state to the other
abbrev pub Goes : {S : Type 0} → (S → Turn S) → ℕ → S → S → Type 0
Goes step zero s t = s ≡ t
Goes {S} step (suc n) s t = (m : S) × (step s ≡ Silent m) × Goes step n m t

-- The next event: behind that many silent steps the lane takes this turn.
abbrev pub MeetsIn : {S : Type 0} → (S → Turn S) → ℕ → S → Turn S → Type 0
MeetsIn {S} step n s turn = (t : S) × Goes step n s t × (step t ≡ turn)

abbrev pub Meets : {S : Type 0} → (S → Turn S) → S → Turn S → Type 0
Meets step s turn = (n : ℕ) × MeetsIn step n s turn

-- silent steps for ever
abbrev pub Spins : {S : Type 0} → (S → Turn S) → S → Type 0
Spins {S} step s = (n : ℕ) → (t : S) × Goes step n s t

-- under these answers the lane makes these events and then stands there
abbrev pub Makes : {S : Type 0} → (S → Turn S) → S → List Event → List ℕ → S → Type 0
Makes step s [] [] t = s ≡ t
Makes step s [] (a ∷ answers) t = ⊥
Makes step s (e ∷ events) [] t = ⊥
Makes {S} step s (e ∷ events) (a ∷ answers) t =
    (after : ℕ → S) × Meets step s (Asks e after) × (a < 2 ^ 32) × Makes step (after a) events answers t

-- Under every list of answers the second lane makes the events of the first, and ends where it ends.
pub record Forward {A B : Type 0} (left : A → Turn A) (right : B → Turn B) (a : A) (b : B) : Type 0 where
  pub events : (events : List Event) (answers : List ℕ) (a' : A) → Makes left a events answers a' → (b' : B) × Makes right b events answers b'
  pub ends : (events : List Event) (answers : List ℕ) (a' : A) (b' : B) → Makes left a events answers a' → Makes right b events answers b' → Meets left a' Ends → Meets right b' Ends

-- under no list of answers is the lane wrong
abbrev pub NeverWrong : {S : Type 0} → (S → Turn S) → S → Type 0
NeverWrong {S} step s =
    (events : List Event) (answers : List ℕ) (t : S) (place rule : ℕ) → Makes step s events answers t → Meets step t (Wrong place rule) → ⊥

-- Two lanes that nobody can tell apart by events, ends and silence.
pub record SameLanes {A B : Type 0} (left : A → Turn A) (right : B → Turn B) (a : A) (b : B) : Type 0 where
  pub forward : Forward left right a b
  pub back : Forward right left b a
  pub spins : (events : List Event) (answers : List ℕ) (a' : A) (b' : B) → Makes left a events answers a' → Makes right b events answers b' → Spins left a' → Spins right b'
  pub spins_back : (events : List Event) (answers : List ℕ) (a' : A) (b' : B) → Makes left a events answers a' → Makes right b events answers b' → Spins right b' → Spins left a'
  pub never_wrong : NeverWrong right b

-- A machine whose start may be missing: without one it is wrong at once, at that place and by that rule.
abbrev pub Standing : Type 0 → Type 0
Standing S = Option S

abbrev pub standing : {S : Type 0} → Turn S → Turn (Standing S)
standing (Silent to) = Silent (Some to)
standing (Asks e after) = Asks e (λ a. Some (after a))
standing Ends = Ends
standing (Wrong place rule) = Wrong place rule

abbrev pub started : {S : Type 0} → ℕ → ℕ → (S → Turn S) → Standing S → Turn (Standing S)
started place rule step None = Wrong place rule
started place rule step (Some s) = standing (step s)
