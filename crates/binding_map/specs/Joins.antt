-- When a register may be bound at a place, beside what is bound already.
use Rattle.std.specs.Prelude.{◌≡◌, ℕ, ◌+◌, ◌<◌, ◌^◌, true, List, length, None, Some, slice_get}
use Rattle.binding_map.specs.declared.register.Register.{Register}
use Rattle.binding_map.specs.declared.register.Place.{Place}
use Rattle.binding_map.specs.Bindings.{Binding, place_of, is_at, has_word, slot_of, IsPlaceFor}

pub record MayJoin (bindings : List Binding) (register : Register) (place : Place) : Type 0 where
  pub absent : place_of bindings register ≡ None
  pub descriptor : (i : ℕ) (a : Binding) → slice_get bindings i ≡ Some a
      → (set binding : ℕ) → is_at a.place set binding ≡ true → is_at place set binding ≡ true → ⊥
  pub push : (i : ℕ) (a : Binding) → slice_get bindings i ≡ Some a
      → (word : ℕ) → has_word a.place word ≡ true → has_word place word ≡ true → ⊥
  pub is_word : slot_of register < 2 ^ 32
  pub suits : IsPlaceFor register place
  pub few : length bindings + 1 < 2 ^ 32
