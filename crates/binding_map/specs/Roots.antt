-- The bindings of a program under a root signature. (This project's own numbers.)
use Rattle.std.specs.Prelude.{ℕ, ◌+◌, nat_le, nat_lt, ◌&&◌, Bool, List, [], ◌∷◌, ◌++◌, map, filter, flat_map, Option, Some, None}
use Rattle.root_signature.specs.declared.covers.Covers.{Covers}
use Rattle.root_signature.specs.declared.covers.Covers.TheVariants.{Constants, Cbv, Srv, Uav}
use Rattle.tpf_program.specs.Extents.{is_resource, is_uav}
use Rattle.tpf_program.specs.Program.{Shader}
use Rattle.binding_map.specs.declared.register.Register.{Register}
use Rattle.binding_map.specs.declared.register.Register.TheVariants as register
use Rattle.binding_map.specs.declared.register.Place.{Place}
use Rattle.binding_map.specs.declared.register.Place.TheVariants.{Bound, Push}
use Rattle.binding_map.specs.Bindings.{Binding, binding}
use Rattle.binding_map.specs.Defaults.{is_constants, declared_slots, counter_slots}

-- A register that is to be bound: in push constant words, or at the next binding.
pub record Wanted : Type 0 where
  pub register : Register
  pub words : Option Place

abbrev pub want : (ℕ → Register) → Option Place → ℕ → Wanted
want kind words slot = record { register = kind slot; words = words }

-- so many registers from the base on, of those with these slots
abbrev pub is_in : ℕ → ℕ → ℕ → Bool
is_in base count slot = nat_le base slot && nat_lt slot (base + count)

abbrev pub run_of : (ℕ → Register) → Option Place → ℕ → ℕ → List ℕ → List Wanted
run_of kind words base count slots = map (want kind words) (filter (is_in base count) slots)

-- the declared registers that an entry of the root signature covers, ascending
abbrev pub covered_by : Shader → Covers → List Wanted
covered_by p (Constants slot first count) =
    run_of register.Constant (Some (Push first count)) slot 1 (declared_slots 14 is_constants p)
covered_by p (Cbv base count) = run_of register.Constant None base count (declared_slots 14 is_constants p)
covered_by p (Srv base count) = run_of register.Resource None base count (declared_slots 128 is_resource p)
covered_by p (Uav base count) = run_of register.Uav None base count (declared_slots 64 is_uav p)

-- the registers in the order of covering, and behind all of them the counters by their slots
abbrev pub root_registers : List Covers → Shader → List Wanted
root_registers root p = flat_map (covered_by p) root ++ map (want register.Counter None) (counter_slots p)

-- Those that have no push constant words are at set 0, and at the bindings from a number on.
abbrev pub place_at : ℕ → Option Place → Place
place_at n None = Bound 0 n
place_at n (Some place) = place

abbrev pub behind : ℕ → Option Place → ℕ
behind n None = n + 1
behind n (Some place) = n

abbrev pub placed : ℕ → List Wanted → List Binding
placed n [] = []
placed n (w ∷ rest) = binding w.register (place_at n w.words) ∷ placed (behind n w.words) rest

-- What is not covered is left out.
abbrev pub root_map : List Covers → Shader → List Binding
root_map root p = placed 0 (root_registers root p)
