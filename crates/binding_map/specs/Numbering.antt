-- Numbering the registers of one group after the other.
use Rattle.std.specs.Prelude.{◌≡◌, ℕ, nat_lt, Bool, true, false, List, ◌++◌, map, filter, get_or, length, Some, slice_get}
use Rattle.std.specs.List.{range_with_len}
use Rattle.binding_map.specs.declared.defaults.Group.{Group}
use Rattle.binding_map.specs.declared.defaults.Group.TheVariants.{Constants, Resources, Uavs, Counters}
use Rattle.binding_map.specs.declared.register.Register.{Register}
use Rattle.binding_map.specs.declared.register.Register.TheVariants.{Constant, Resource, Uav, Counter}
use Rattle.binding_map.specs.declared.register.Place.TheVariants.{Bound}
use Rattle.binding_map.specs.declared.registers.Registers.{Registers}
use Rattle.binding_map.specs.Bindings.{Binding}

abbrev pub register_in : Group → ℕ → Register
register_in Constants slot = Constant slot
register_in Resources slot = Resource slot
register_in Uavs slot = Uav slot
register_in Counters slot = Counter slot

-- the registers of the marked slots below a number
abbrev pub marked_below : ℕ → Group → List Bool → List Register
marked_below n group marks = map (register_in group) (filter (λ slot. get_or marks slot false) (range_with_len 0 n))

-- the registers of all marked slots, of one group and of all four
abbrev pub marked_in : Group → List Bool → List Register
marked_in group marks = marked_below (length marks) group marks

abbrev pub marked_registers : Registers → List Register
marked_registers r =
    marked_in Constants r.constants ++ marked_in Resources r.resources ++ marked_in Uavs r.uavs ++ marked_in Counters r.counters

-- a register of an earlier group, or of the group with a smaller slot
abbrev pub is_before : Group → ℕ → Register → Bool
is_before Constants slot (Constant s) = nat_lt s slot
is_before Constants slot other = false
is_before Resources slot (Constant s) = true
is_before Resources slot (Resource s) = nat_lt s slot
is_before Resources slot other = false
is_before Uavs slot (Counter s) = false
is_before Uavs slot (Uav s) = nat_lt s slot
is_before Uavs slot other = true
is_before Counters slot (Counter s) = nat_lt s slot
is_before Counters slot other = true

abbrev pub AreBefore : Group → ℕ → List Binding → Type 0
AreBefore group slot bindings = (i : ℕ) (a : Binding) → slice_get bindings i ≡ Some a → is_before group slot a.register ≡ true

-- all are at set 0, each at its own number
abbrev pub AreNumbered : List Binding → Type 0
AreNumbered bindings = (i : ℕ) (a : Binding) → slice_get bindings i ≡ Some a → a.place ≡ Bound 0 i
