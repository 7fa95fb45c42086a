-- Where a module's lane finds what a map binds. (SPIR-V specification: DescriptorSet, Binding, PushConstant, Workgroup.)
use Rattle.std.specs.Prelude.{List, filter_map, Option, Some, None}
use Rattle.std.specs.List.{range_with_len}
use Rattle.word_base.specs.declared.event.Room.TheVariants as room
use Rattle.spirv_words.specs.Globals.{Places, RoomPlace, SlotPlace, PushPlace}
use Rattle.binding_map.specs.declared.register.Register.{Register}
use Rattle.binding_map.specs.declared.register.Register.TheVariants.{Constant, Resource, Uav, Counter}
use Rattle.binding_map.specs.declared.register.Place.{Place}
use Rattle.binding_map.specs.declared.register.Place.TheVariants.{Bound, Push}
use Rattle.binding_map.specs.Bindings.{Binding}

-- the room, the constant buffer or the push words that a binding gives
abbrev pub room_at : Register → Place → Option RoomPlace
room_at (Resource slot) (Bound set binding) = Some (record { set = set; binding = binding; room = room.Resource slot })
room_at (Uav slot) (Bound set binding) = Some (record { set = set; binding = binding; room = room.Uav slot })
room_at (Counter slot) (Bound set binding) = Some (record { set = set; binding = binding; room = room.Counter slot })
room_at register place = None

abbrev pub slot_at : Register → Place → Option SlotPlace
slot_at (Constant slot) (Bound set binding) = Some (record { set = set; binding = binding; slot = slot })
slot_at register place = None

abbrev pub push_at : Register → Place → Option PushPlace
push_at (Constant slot) (Push first count) = Some (record { first = first; count = count; slot = slot })
push_at register place = None

-- all of them, and the slots of shared memory, which are below 64
abbrev pub places_of : List Binding → Places
places_of bindings = record {
  rooms = filter_map (λ b. room_at b.register b.place) bindings;
  slots = filter_map (λ b. slot_at b.register b.place) bindings;
  pushes = filter_map (λ b. push_at b.register b.place) bindings;
  shared = range_with_len 0 64;
}
