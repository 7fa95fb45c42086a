-- What look-ups in a map find.
use Rattle.std.specs.Prelude.{◌≡◌, ℕ, ◌+◌, ◌&&◌, nat_le, nat_lt, true, List, find, Some, None, slice_get}
use Rattle.spirv_words.specs.Globals.{RoomPlace, SlotPlace, PushPlace, bound_room, bound_slot}
use Rattle.binding_map.specs.declared.register.Register.{Register}
use Rattle.binding_map.specs.declared.register.Place.{Place}
use Rattle.binding_map.specs.Bindings.{Binding, binding, place_of}
use Rattle.binding_map.specs.Places.{room_at, slot_at, push_at, places_of}

-- A register has a place exactly where it has an entry.
pub record LooksUp (bindings : List Binding) : Type 0 where
  pub found : (register : Register) (place : Place) → place_of bindings register ≡ Some place
      → (i : ℕ) × (slice_get bindings i ≡ Some (binding register place))
  pub missing : (register : Register) → place_of bindings register ≡ None → (i : ℕ) (b : Binding)
      → slice_get bindings i ≡ Some b → b.register ≡ register → ⊥

-- Each entry is found: by its register, and, where a module's lane looks, by its set and binding or its push constant words.
pub record FindsEach (bindings : List Binding) : Type 0 where
  pub registers : (i : ℕ) (b : Binding) → slice_get bindings i ≡ Some b → place_of bindings b.register ≡ Some b.place
  pub rooms : (i : ℕ) (b : Binding) (p : RoomPlace) → slice_get bindings i ≡ Some b → room_at b.register b.place ≡ Some p
      → bound_room (places_of bindings) (Some p.set) (Some p.binding) ≡ Some p.room
  pub slots : (i : ℕ) (b : Binding) (p : SlotPlace) → slice_get bindings i ≡ Some b → slot_at b.register b.place ≡ Some p
      → bound_slot (places_of bindings) (Some p.set) (Some p.binding) ≡ Some p.slot
  pub pushes : (i : ℕ) (b : Binding) (p : PushPlace) (w : ℕ) → slice_get bindings i ≡ Some b → push_at b.register b.place ≡ Some p
      → (nat_le p.first w && nat_lt w (p.first + p.count)) ≡ true
      → find (λ q. nat_le q.first w && nat_lt w (q.first + q.count)) (places_of bindings).pushes ≡ Some p
