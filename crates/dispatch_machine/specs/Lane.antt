-- What a lane gives to the calls that drive it: silent steps up to a bound, the fuel, until its next event or end. The fuel and the calls
-- are this project's own; SPIR-V and Shader Model 5 define no schedule of lanes.
use Rattle.std.specs.Prelude.{ℕ, zero, suc, ◌+◌, ◌<◌, Bool, true, false, Option, Some, None}
use Rattle.word_base.specs.declared.event.Event.{Event}
use Rattle.word_base.specs.declared.event.Event.TheVariants as event
use Rattle.word_base.specs.Lanes.{Turn, Silent, Asks, Ends, Wrong}
use Rattle.word_base.specs.Settings.{Setting}
use Rattle.dispatch_machine.specs.declared.driver.Stepped.{Stepped}
use Rattle.dispatch_machine.specs.declared.driver.Stepped.TheVariants as stepped
use Rattle.dispatch_machine.specs.declared.lane.Next.{Next}
use Rattle.dispatch_machine.specs.declared.lane.Next.TheVariants as next

-- WHERE A LANE STANDS: at a state, or behind a load or an atomic whose word is owed, which leads to a state.
pub data Position (S : Type 0) : Type 0 where
  At : (state : S) → Position S
  Owed : (after : ℕ → S) → Position S

abbrev pub is_owed : {S : Type 0} → Position S → Bool
is_owed (At s) = false
is_owed (Owed after) = true

abbrev pub answered : {S : Type 0} → ℕ → Position S → Position S
answered word (At s) = At s
answered word (Owed after) = At (after word)

-- Behind an event. Those that ask for no word have 0 for it, as in the runs of dispatches.
abbrev pub behind : {S : Type 0} → Event → (ℕ → S) → Position S
behind (event.Load room word) after = Owed after
behind (event.Atomic room word kind a b) after = Owed after
behind other after = At (after 0)

-- THE NEXT EVENT: what the lane comes to, behind how many silent steps, and where it then stands.
pub record Found (S : Type 0) : Type 0 where
  pub next : Next
  pub steps : ℕ
  pub position : Position S

abbrev pub found : {S : Type 0} → Next → ℕ → Position S → Found S
found next steps position = record { next = next; steps = steps; position = position }

-- the same behind that many more silent steps
abbrev pub later : {S : Type 0} → ℕ → Found S → Found S
later n f = found f.next (n + f.steps) f.position

abbrev pub wrong_at : ℕ → ℕ → Next
wrong_at place rule = next.Wrong (record { place = place; rule = rule })

-- from a state and its turn, where `further` tells what comes behind a silent step
abbrev pub go_by : {S : Type 0} → S → Turn S → (S → Found S) → Found S
go_by s (Silent to) further = later 1 (further to)
go_by s (Asks e after) further = found (next.Event e) 0 (behind e after)
go_by s Ends further = found next.Ended 0 (At s)
go_by s (Wrong place rule) further = found (wrong_at place rule) 0 (At s)

unfoldable pub go : {S : Type 0} → (S → Turn S) → ℕ → S → Found S
go step zero s = found next.Spinning 0 (At s)
go step (suc fuel) s = go_by s (step s) (go step fuel)

-- a lane whose word is owed makes no step
abbrev pub go_from : {S : Type 0} → (S → Turn S) → ℕ → Position S → Found S
go_from step fuel (At s) = go step fuel s
go_from step fuel (Owed after) = found next.Spinning 0 (Owed after)

-- ONE STEP: what it gives, and where the lane then stands
abbrev pub step_by : {S : Type 0} → S → Turn S → Stepped × Position S
step_by s (Silent to) = (stepped.Silent, At to)
step_by s (Asks e after) = (stepped.Event e, behind e after)
step_by s Ends = (stepped.Ended, At s)
step_by s (Wrong place rule) = (stepped.Wrong (record { place = place; rule = rule }), At s)

abbrev pub step_from : {S : Type 0} → (S → Turn S) → Position S → Stepped × Position S
step_from step (At s) = step_by s (step s)
step_from step (Owed after) = (stepped.Silent, Owed after)

-- EVENTS
abbrev pub event_of : Next → Option Event
event_of (next.Event e) = Some e
event_of other = None

abbrev pub event_in : Stepped → Option Event
event_in (stepped.Event e) = Some e
event_in other = None

abbrev pub asks_word : Next → Bool
asks_word (next.Event (event.Load room word)) = true
asks_word (next.Event (event.Atomic room word kind a b)) = true
asks_word other = false

-- an event on a room names one of its words
abbrev pub IsWithin : Setting → Event → Type 0
IsWithin setting (event.Load room word) = word < setting.extent room
IsWithin setting (event.Store room word value) = word < setting.extent room
IsWithin setting (event.Atomic room word kind a b) = word < setting.extent room
IsWithin setting other = Unit {0}
