-- A lane whose code is a list of words: a word below 1000 is added to a sum, 1000 stores the sum in the first word of g#0, 1001 loads that
-- word as the sum, and any other word breaks rule 1. It ends behind its last word.
use Rattle.std.specs.Prelude.{ℕ, ◌+◌, ◌%◌, ◌^◌, nat_eq, nat_lt, if◌then◌else◌, Bool, true, false, List, [], Option, Some, None, slice_get}
use Rattle.word_base.specs.declared.event.Event.TheVariants.{Load, Store}
use Rattle.word_base.specs.declared.event.Room.{Room}
use Rattle.word_base.specs.declared.event.Room.TheVariants.{Shared}
use Rattle.word_base.specs.Lanes.{Turn, Silent, Asks, Ends, Wrong}
use Rattle.word_base.specs.Settings.{Setting}
use Rattle.dispatch_machine.specs.Lane.{Position, At, Owed}

pub record State : Type 0 where
  pub place : ℕ
  pub sum : ℕ

abbrev pub state : ℕ → ℕ → State
state place sum = record { place = place; sum = sum }

abbrev pub step_on : State → Option ℕ → Turn State
step_on s None = Ends
step_on s (Some word) =
    if nat_lt word 1000 then Silent (state (s.place + 1) ((s.sum + word) % 2 ^ 32))
    else if nat_eq word 1000 then Asks (Store (Shared 0) 0 s.sum) (λ answer. state (s.place + 1) s.sum)
    else if nat_eq word 1001 then Asks (Load (Shared 0) 0) (λ answer. state (s.place + 1) answer)
    else Wrong s.place 1

abbrev pub step : List ℕ → State → Turn State
step code s = step_on s (slice_get code s.place)

-- the place is behind the load where its word is owed
abbrev pub position_by : Bool → ℕ → ℕ → Position State
position_by true place sum = Owed (λ answer. state place answer)
position_by false place sum = At (state place sum)

-- one word at g#0
abbrev pub one_word : Room → ℕ
one_word (Shared slot) = if nat_eq slot 0 then 1 else 0
one_word other = 0

abbrev pub setting : Setting
setting = record {
  ids = record { group_x = 0; group_y = 0; group_z = 0; x = 0; y = 0; z = 0; flat = 0; thread_x = 0; thread_y = 0; thread_z = 0 };
  constants = λ slot. [];
  extent = one_word;
}
