-- Runs of many lanes on one memory, by a list of lane numbers, the picks. They stand over any type of lane states and over all that the
-- lanes share, so that a program's lanes and a module's are run by the same words.
use Rattle.std.specs.Prelude.{◌≡◌, ℕ, ◌⊎◌, nat_eq, if◌then◌else◌, Bool, true, false, List, [], ◌∷◌}
use Rattle.word_base.specs.declared.event.Event.{Event}
use Rattle.word_base.specs.Lanes.{Turn, Asks, Ends, Meets}

-- What is shared: which lanes do nothing when they are picked, which word answers a lane's event, and what is shared behind its event
-- and behind its end.
pub record Machine (C : Type 0) : Type 0 where
  pub is_idle : C → ℕ → Bool
  pub answer : C → ℕ → Event → ℕ
  pub happens : C → ℕ → Event → C
  pub ended : C → ℕ → C

-- the states of the lanes with one of them moved
abbrev pub moved : {S : Type 0} → (ℕ → S) → ℕ → S → ℕ → S
moved at lane s l = if nat_eq l lane then s else at l

-- The lane takes its next event, with its answer, or its end.
pub record TakesEvent {C S : Type 0} (m : Machine C) (step : ℕ → S → Turn S) (at : ℕ → S) (c : C) (lane : ℕ) (at' : ℕ → S) (c' : C) : Type 0 where
  pub event : Event
  pub after : ℕ → S
  pub meets : Meets (step lane) (at lane) (Asks event after)
  pub lanes : at' ≡ moved at lane (after (m.answer c lane event))
  pub shared : c' ≡ m.happens c lane event

pub record TakesEnd {C S : Type 0} (m : Machine C) (step : ℕ → S → Turn S) (at : ℕ → S) (c : C) (lane : ℕ) (at' : ℕ → S) (c' : C) : Type 0 where
  pub meets : Meets (step lane) (at lane) Ends
  pub lanes : at' ≡ at
  pub shared : c' ≡ m.ended c lane

-- A pick of an idle lane changes nothing.
abbrev pub Picked : {C S : Type 0} → Bool → Machine C → (ℕ → S → Turn S) → (ℕ → S) → C → ℕ → (ℕ → S) → C → Type 0
Picked true m step at c lane at' c' = (at' ≡ at) × (c' ≡ c)
Picked false m step at c lane at' c' = TakesEvent m step at c lane at' c' ⊎ TakesEnd m step at c lane at' c'

-- The run over these picks has this value: each pick finds a next event or an end.
abbrev pub HasValue : {C S : Type 0} → Machine C → (ℕ → S → Turn S) → (ℕ → S) → C → List ℕ → C → Type 0
HasValue m step at c [] value = value ≡ c
HasValue {C} {S} m step at c (lane ∷ picks) value =
    (at' : ℕ → S) × (c' : C) × Picked (m.is_idle c lane) m step at c lane at' c' × HasValue m step at' c' picks value

-- These picks lead the lanes and what they share from one state to another.
abbrev pub Leads : {C S : Type 0} → Machine C → (ℕ → S → Turn S) → (ℕ → S) → C → List ℕ → (ℕ → S) → C → Type 0
Leads m step at c [] at' c' = (at' ≡ at) × (c' ≡ c)
Leads {C} {S} m step at c (lane ∷ picks) at'' c'' =
    (at' : ℕ → S) × (c' : C) × Picked (m.is_idle c lane) m step at c lane at' c' × Leads m step at' c' picks at'' c''
