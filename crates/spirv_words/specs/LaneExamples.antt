-- Lanes of small modules, step by step.
use Rattle.std.specs.Prelude.{◌≡◌, ℕ, List, [], ◌∷◌, Some, None, refl}
use Rattle.word_base.specs.Lanes.{Ends, Wrong, Asks}
use Rattle.word_base.specs.Settings.{Setting}
use Rattle.word_base.specs.declared.event.Event.TheVariants.{Store}
use Rattle.word_base.specs.declared.event.Ids.{Ids}
use Rattle.word_base.specs.declared.event.Room.TheVariants.{Uav}
use Rattle.spirv_words.specs.Enumerants.{Version13}
use Rattle.spirv_words.specs.StorageClass.{StorageBuffer}
use Rattle.spirv_words.specs.Decoration.{ArrayStride, Binding, DescriptorSet, Offset}
use Rattle.spirv_words.specs.Operations.{OpAccessChain, OpConstant, OpDecorate, OpFunction, OpIAdd, OpLabel, OpMemberDecorate, OpStore, OpTypeInt, OpTypePointer, OpTypeRuntimeArray, OpTypeStruct, OpVariable}
use Rattle.spirv_words.specs.Text.{Instr, instruction}
use Rattle.spirv_words.specs.Smallest.{smallest}
use Rattle.spirv_words.specs.Values.{Word, AtRoom}
use Rattle.spirv_words.specs.Globals.{Places, Machine, global}
use Rattle.spirv_words.specs.Lane.{State, step, sets, goes_to, machine, start_place, with_value}

abbrev pub at : Machine → ℕ → State
at m place = record { place = place; values = global m; memory = λ v w. None }

-- The smallest module begins behind its label, at once at its end; and a list without an entry point has no start.
pub starts : start_place (smallest Version13 1 1 1).code ≡ Some 8
starts = refl

pub ends : (places : Places) (setting : Setting) → step (machine (smallest Version13 1 1 1) places setting)
    (at (machine (smallest Version13 1 1 1) places setting) 8) ≡ Ends
ends places setting = refl

pub has_no_start : start_place (instruction OpLabel (4 ∷ []) ∷ []) ≡ None
has_no_start = refl

-- Behind the list, and at a label, a block has no end.
pub behind_the_list : (places : Places) (setting : Setting) →
    step (machine (smallest Version13 1 1 1) places setting)
    (at (machine (smallest Version13 1 1 1) places setting) 10) ≡ Wrong 10 3
behind_the_list places setting = refl

pub at_a_label : (places : Places) (setting : Setting) → step (machine (smallest Version13 1 1 1) places setting)
    (at (machine (smallest Version13 1 1 1) places setting) 7) ≡ Wrong 7 3
at_a_label places setting = refl

-- A view of words at set 0 and binding 0, of which word 1 is written with the sum of 7 and 8, and word 7 past its three words.
abbrev pub writes : List Instr
writes =
    instruction OpDecorate (20 ∷ DescriptorSet ∷ 0 ∷ []) ∷ instruction OpDecorate (20 ∷ Binding ∷ 0 ∷ []) ∷
    instruction OpDecorate (11 ∷ ArrayStride ∷ 4 ∷ []) ∷ instruction OpMemberDecorate (12 ∷ 0 ∷ Offset ∷ 0 ∷ []) ∷
    instruction OpTypeInt (10 ∷ 32 ∷ 0 ∷ []) ∷ instruction OpTypeRuntimeArray (11 ∷ 10 ∷ []) ∷
    instruction OpTypeStruct (12 ∷ 11 ∷ []) ∷ instruction OpTypePointer (13 ∷ StorageBuffer ∷ 12 ∷ []) ∷
    instruction OpTypePointer (14 ∷ StorageBuffer ∷ 10 ∷ []) ∷
    instruction OpConstant (10 ∷ 15 ∷ 7 ∷ []) ∷ instruction OpConstant (10 ∷ 16 ∷ 8 ∷ []) ∷
    instruction OpConstant (10 ∷ 17 ∷ 0 ∷ []) ∷ instruction OpConstant (10 ∷ 18 ∷ 1 ∷ []) ∷
    instruction OpVariable (13 ∷ 20 ∷ StorageBuffer ∷ []) ∷
    instruction OpFunction (2 ∷ 1 ∷ 0 ∷ 3 ∷ []) ∷ instruction OpLabel (4 ∷ []) ∷
    instruction OpIAdd (10 ∷ 30 ∷ 15 ∷ 16 ∷ []) ∷ instruction OpAccessChain (14 ∷ 31 ∷ 20 ∷ 17 ∷ 18 ∷ []) ∷
    instruction OpStore (31 ∷ 30 ∷ []) ∷
    instruction OpAccessChain (14 ∷ 32 ∷ 20 ∷ 17 ∷ 15 ∷ []) ∷ instruction OpIAdd (10 ∷ 33 ∷ 15 ∷ 31 ∷ []) ∷
    instruction OpIAdd (10 ∷ 34 ∷ 15 ∷ 99 ∷ []) ∷ []

abbrev pub three_words : Ids → Machine
three_words ids = record {
  code = writes;
  places = record { rooms = record { set = 0; binding = 0; room = Uav 5 } ∷ []; slots = []; pushes = []; shared = [] };
  setting = record { ids = ids; constants = λ slot. []; extent = λ room. 3 };
}

abbrev pub after_sum : Ids → State
after_sum ids = with_value (at (three_words ids) 16) 30 (Word 15)

abbrev pub after_chain : Ids → State
after_chain ids = with_value (after_sum ids) 31 (AtRoom (Uav 5) 1)

pub sum : (ids : Ids) → step (three_words ids) (at (three_words ids) 16) ≡ sets (at (three_words ids) 16) 30 (Word 15)
sum ids = refl

pub chain : (ids : Ids) → step (three_words ids) (after_sum ids) ≡ sets (after_sum ids) 31 (AtRoom (Uav 5) 1)
chain ids = refl

pub store : (ids : Ids) → step (three_words ids) (after_chain ids) ≡
    Asks (Store (Uav 5) 1 15) (λ _. goes_to (after_chain ids) 19)
store ids = refl

-- an index past the end, a pointer as a number, an id that nothing defines
pub past_the_end : (ids : Ids) → step (three_words ids) (at (three_words ids) 19) ≡ Wrong 19 7
past_the_end ids = refl

pub sum_of_pointer : (ids : Ids) → step (three_words ids) (at (three_words ids) 20) ≡ Wrong 20 1
sum_of_pointer ids = refl

pub sum_of_nothing : (ids : Ids) → step (three_words ids) (at (three_words ids) 21) ≡ Wrong 21 2
sum_of_nothing ids = refl
