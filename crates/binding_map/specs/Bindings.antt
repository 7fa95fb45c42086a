-- Binding maps: which registers are bound, and where.
use Rattle.std.specs.Prelude.{◌≡◌, ℕ, ◌+◌, ◌<◌, ◌≤◌, ◌^◌, nat_eq, nat_lt, nat_le, ◌&&◌, Bool, true, false, List, map, find, length, Option, Some, slice_get, option_map}
use Rattle.binding_map.specs.declared.register.Register.{Register}
use Rattle.binding_map.specs.declared.register.Register.TheVariants.{Constant, Resource, Uav, Counter}
use Rattle.binding_map.specs.declared.register.Place.{Place}
use Rattle.binding_map.specs.declared.register.Place.TheVariants.{Bound, Push}

-- A register and where it is bound. A map is a list of them.
pub record Binding : Type 0 where
  pub register : Register
  pub place : Place

abbrev pub binding : Register → Place → Binding
binding register place = record { register = register; place = place }

abbrev pub same_register : Register → Register → Bool
same_register (Constant a) (Constant b) = nat_eq a b
same_register (Resource a) (Resource b) = nat_eq a b
same_register (Uav a) (Uav b) = nat_eq a b
same_register (Counter a) (Counter b) = nat_eq a b
same_register a b = false

-- where a register is bound, and none where it is not
abbrev pub place_of : List Binding → Register → Option Place
place_of bindings register = option_map (λ b. b.place) (find (λ b. same_register register b.register) bindings)

-- a place at that set and binding, and a place that has that push constant word
abbrev pub is_at : Place → ℕ → ℕ → Bool
is_at (Bound s b) set binding = nat_eq s set && nat_eq b binding
is_at (Push first count) set binding = false

abbrev pub has_word : Place → ℕ → Bool
has_word (Bound set binding) word = false
has_word (Push first count) word = nat_le first word && nat_lt word (first + count)

-- Push constants are for constant buffers alone, and have 64 words. Slots, sets and bindings are words.
abbrev pub IsPlaceFor : Register → Place → Type 0
IsPlaceFor register (Bound set binding) = (set < 2 ^ 32) × (binding < 2 ^ 32)
IsPlaceFor (Constant slot) (Push first count) = first + count ≤ 64
IsPlaceFor register (Push first count) = ⊥

abbrev pub slot_of : Register → ℕ
slot_of (Constant slot) = slot
slot_of (Resource slot) = slot
slot_of (Uav slot) = slot
slot_of (Counter slot) = slot

-- A list of bindings is a map where no two of them have one register, one set and binding, or a push constant word in
-- common.
pub record IsMap (bindings : List Binding) : Type 0 where
  pub registers : (i j : ℕ) (a b : Binding) → slice_get bindings i ≡ Some a → slice_get bindings j ≡ Some b
      → a.register ≡ b.register → i ≡ j
  pub descriptors : (i j : ℕ) (a b : Binding) → slice_get bindings i ≡ Some a → slice_get bindings j ≡ Some b
      → (set binding : ℕ) → is_at a.place set binding ≡ true → is_at b.place set binding ≡ true → i ≡ j
  pub pushes : (i j : ℕ) (a b : Binding) → slice_get bindings i ≡ Some a → slice_get bindings j ≡ Some b
      → (word : ℕ) → has_word a.place word ≡ true → has_word b.place word ≡ true → i ≡ j
  pub slots : (i : ℕ) (a : Binding) → slice_get bindings i ≡ Some a → slot_of a.register < 2 ^ 32
  pub places : (i : ℕ) (a : Binding) → slice_get bindings i ≡ Some a → IsPlaceFor a.register a.place
  pub few : length bindings < 2 ^ 32

-- the map that a table of registers and places holds, in its order
abbrev pub bindings_of : List (Register × Place) → List Binding
bindings_of entries = map (λ e. binding e.0 e.1) entries
