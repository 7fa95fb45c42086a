-- The settings that fit a program and its bindings: which rooms have words, and how many words constant buffers have.
use Rattle.std.specs.Prelude.{◌≡◌, ℕ, ◌*◌, ◌<◌, ◌≤◌, is_none, Bool, false, List, [], length, Some, slice_get}
use Rattle.word_base.specs.declared.event.Room.{Room}
use Rattle.word_base.specs.declared.event.Room.TheVariants as room
use Rattle.word_base.specs.Settings.{Setting}
use Rattle.tpf_program.specs.Program.{Shader}
use Rattle.tpf_program.specs.Sizes.{vectors_of}
use Rattle.tpf_program.specs.Extents.{FitsRooms}
use Rattle.binding_map.specs.declared.register.Register.{Register}
use Rattle.binding_map.specs.declared.register.Register.TheVariants.{Constant, Resource, Uav, Counter}
use Rattle.binding_map.specs.declared.register.Place.{Place}
use Rattle.binding_map.specs.declared.register.Place.TheVariants.{Bound, Push}
use Rattle.binding_map.specs.Bindings.{Binding, place_of}

-- A t#, u# or counter outside of the map is null. Shared memory needs no binding.
abbrev pub is_null_in : List Binding → Room → Bool
is_null_in bindings (room.Resource slot) = is_none (place_of bindings (Resource slot))
is_null_in bindings (room.Uav slot) = is_none (place_of bindings (Uav slot))
is_null_in bindings (room.Counter slot) = is_none (place_of bindings (Counter slot))
is_null_in bindings (room.Shared slot) = false

-- The words that a dispatch gives for a declared constant buffer: four or more for each vector at a descriptor, exactly its push
-- words in push constants.
abbrev pub HoldsConstants : Shader → Setting → Register → Place → Type 0
HoldsConstants p setting (Constant slot) (Bound set binding) =
    4 * vectors_of slot p.declarations ≤ length (setting.constants slot)
HoldsConstants p setting (Constant slot) (Push first count) =
    0 < vectors_of slot p.declarations → length (setting.constants slot) ≡ count
HoldsConstants p setting register place = Unit {0}

-- A setting gives the words of constant buffers that a program and its map ask for, and none for a buffer that is not
-- declared.
pub record FitsConstants (p : Shader) (bindings : List Binding) (setting : Setting) : Type 0 where
  pub bound : (k : ℕ) (b : Binding) → slice_get bindings k ≡ Some b → HoldsConstants p setting b.register b.place
  pub undeclared : (slot : ℕ) → vectors_of slot p.declarations ≡ 0 → setting.constants slot ≡ []

-- a setting that a dispatch may give to a lane of the program
pub record Fits (p : Shader) (bindings : List Binding) (setting : Setting) : Type 0 where
  pub rooms : FitsRooms (is_null_in bindings) p setting
  pub constants : FitsConstants p bindings setting
