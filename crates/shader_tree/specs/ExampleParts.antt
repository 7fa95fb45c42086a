-- Parts of examples: what a lane logs, and terms in few words.
use Rattle.std.specs.Prelude.{ℕ, zero, suc, nat_eq, if◌then◌else◌, List, [], ◌∷◌}
use Rattle.word_base.specs.declared.arithmetic.Binary.TheVariants.{Iadd}
use Rattle.word_base.specs.declared.event.Event.{Event}
use Rattle.word_base.specs.declared.event.Event.TheVariants as event
use Rattle.word_base.specs.declared.event.Ids.{Ids}
use Rattle.word_base.specs.declared.event.Room.TheVariants.{Uav}
use Rattle.word_base.specs.Lanes.{Turn, Silent, Asks, Ends, Wrong}
use Rattle.word_base.specs.Settings.{Setting}
use Rattle.shader_tree.specs.declared.node.Comparison.TheVariants.{Unequal}
use Rattle.shader_tree.specs.declared.node.Space.TheVariants.{Temps}
use Rattle.shader_tree.specs.Lane.{State, start, step}
use Rattle.shader_tree.specs.Terms.{Term, Word, Read, Two, Compare, Write, Store, Then, Nothing}
use Rattle.shader_tree.specs.Values.{Spaces}

-- How a lane stands behind its events: at its end, where loops were begun anew that often; wrong; or it has more
-- steps to make.
pub data Stand : Type 0 where
  AtEnd : (turns : ℕ) → Stand
  IsWrong : Stand
  GoesOn : Stand

pub record Log : Type 0 where
  pub events : List Event
  pub stand : Stand

abbrev pub log : List Event → Stand → Log
log events stand = record { events = events; stand = stand }

abbrev pub first_of : List ℕ → ℕ
first_of [] = 0
first_of (a ∷ answers) = a

abbrev pub rest_of : List ℕ → List ℕ
rest_of [] = []
rest_of (a ∷ answers) = answers

-- the log of so many steps, where events are answered in order, and with 0 when no answer is left
abbrev pub log_turn : Turn State → ℕ → List ℕ → (List ℕ → State → Log) → Log
log_turn (Silent to) turns answers further = further answers to
log_turn (Asks e after) turns answers further =
    let rest = further (rest_of answers) (after (first_of answers)) in log (e ∷ rest.events) rest.stand
log_turn Ends turns answers further = log [] (AtEnd turns)
log_turn (Wrong place rule) turns answers further = log [] IsWrong

abbrev pub log_in : ℕ → (State → Turn State) → List ℕ → State → Log
log_in zero step answers s = log [] GoesOn
log_in (suc n) step answers s = log_turn (step s) s.turns answers (log_in n step)

abbrev pub at_zero : ℕ → ℕ
at_zero slot = if nat_eq slot 0 then 1 else 0

-- two registers r#, one of x0, one vector of cb0 of which one word is given, and rooms of two words
abbrev pub spaces : Spaces
spaces = record { temps = 2; elements = at_zero; vectors = at_zero; immediates = 5 ∷ 6 ∷ 7 ∷ 8 ∷ [] }

abbrev pub no_ids : Ids
no_ids = record {
  group_x = 0;
  group_y = 0;
  group_z = 0;
  x = 0;
  y = 0;
  z = 0;
  flat = 3;
  thread_x = 1;
  thread_y = 0;
  thread_z = 0;
}

abbrev pub setting : Setting
setting = record { ids = no_ids; constants = λ slot. 9 ∷ []; extent = λ room. 2 }

-- the log of a tree
abbrev pub logged : ℕ → List ℕ → Term → Log
logged n answers root = log_in n (step spaces setting) answers (start root)

-- a word of r0; a word that is put there, or added to it; one statement after the other
abbrev pub r0 : ℕ → Term
r0 c = Read Temps (Word c)

abbrev pub puts : ℕ → Term → Term
puts c v = Write Temps (Word c) v

abbrev pub adds : ℕ → ℕ → Term
adds c n = puts c (Two Iadd (r0 c) (Word n))

abbrev pub all : List Term → Term
all [] = Nothing
all (s ∷ ss) = Then s (all ss)

abbrev pub is_set : ℕ → Term
is_set c = Compare Unequal (r0 c) (Word 0)

abbrev pub stores : Term → Term
stores v = Store (Uav 0) (Word 0) v

-- the event of that
abbrev pub putting : ℕ → Event
putting w = event.Store (Uav 0) 0 w
