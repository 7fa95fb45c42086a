-- A dispatch of a program with a null view, whose counter is bound, a constant buffer at a descriptor and root constants, computed.
use Rattle.std.specs.Prelude.{◌≡◌, ℕ, nat_eq, if◌then◌else◌, true, List, [], ◌∷◌, Some, refl}
use Rattle.word_base.specs.declared.event.Room.{Room}
use Rattle.word_base.specs.declared.event.Room.TheVariants as room
use Rattle.word_base.specs.Settings.{axes}
use Rattle.tpf_decode.specs.Opcodes.{meaning_of, opcode_table}
use Rattle.binding_map.specs.Examples.{given, given_setting}
use Rattle.dispatch_machine.specs.Dispatch.{Dispatch}
use Rattle.dispatch_machine.specs.RowExamples.{run, words_of, ended}

-- u0 is null, its counter has the word 7, and u1 two words; b0 has four words and b1, root constants, two.
abbrev pub given_views : Room → List ℕ
given_views (room.Uav slot) = if nat_eq 1 slot then 0 ∷ 0 ∷ [] else []
given_views (room.Counter slot) = if nat_eq 0 slot then 7 ∷ [] else []
given_views other = []

abbrev pub with_null : Dispatch
with_null = record {
  groups = axes 1 1 1;
  constants = given_setting.constants;
  memory = record { views = given_views; shared = λ group slot. [] };
}

-- The counter is stepped, nothing is stored to u0, and u1 gets the counter's old word and a root constant.
pub stored : words_of (room.Uav 1) (run given with_null 8 (0 ∷ 0 ∷ 0 ∷ 0 ∷ [])) ≡ Some (7 ∷ 6 ∷ [])
unfolding meaning_of opcode_table
stored = refl

pub stepped : words_of (room.Counter 0) (run given with_null 8 (0 ∷ 0 ∷ 0 ∷ 0 ∷ [])) ≡ Some (8 ∷ [])
unfolding meaning_of opcode_table
stepped = refl

pub null_stays_empty : words_of (room.Uav 0) (run given with_null 8 (0 ∷ 0 ∷ 0 ∷ 0 ∷ [])) ≡ Some []
unfolding meaning_of opcode_table
null_stays_empty = refl

pub ends : ended (0 ∷ []) (run given with_null 8 (0 ∷ 0 ∷ 0 ∷ 0 ∷ [])) ≡ Some (true ∷ [])
unfolding meaning_of opcode_table
ends = refl
