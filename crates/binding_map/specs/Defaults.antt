-- The bindings of a program without a root signature and without a binding text. (This project's own numbers.)
use Rattle.std.specs.Prelude.{ℕ, ◌+◌, nat_eq, Bool, false, List, [], ◌∷◌, ◌++◌, map, filter}
use Rattle.std.specs.List.{list_any, range_with_len}
use Rattle.tpf_program.specs.declared.declaration.Declaration.{Declaration}
use Rattle.tpf_program.specs.declared.declaration.Declaration.TheVariants.{Constants}
use Rattle.tpf_program.specs.Extents.{is_resource, is_uav, steps_counter}
use Rattle.tpf_program.specs.Program.{Shader}
use Rattle.binding_map.specs.declared.register.Register.{Register}
use Rattle.binding_map.specs.declared.register.Register.TheVariants.{Constant, Resource, Uav, Counter}
use Rattle.binding_map.specs.declared.register.Place.TheVariants.{Bound}
use Rattle.binding_map.specs.Bindings.{Binding, binding}

abbrev pub is_constants : ℕ → Declaration → Bool
is_constants slot (Constants s size) = nat_eq s slot
is_constants slot other = false

-- the slots below a limit of which this is declared, ascending
abbrev pub declared_slots : ℕ → (ℕ → Declaration → Bool) → Shader → List ℕ
declared_slots limit test p =
    filter (λ slot. list_any (λ d. test slot d.what) p.declarations) (range_with_len 0 limit)

-- the u# whose counter an instruction steps
abbrev pub counter_slots : Shader → List ℕ
counter_slots p = filter (λ slot. list_any (steps_counter slot) p.instructions) (range_with_len 0 64)

-- The declared constant buffers, then the declared t#, then the declared u#, then the counters, each by ascending slots, which are
-- below the limits of their declarations.
abbrev pub default_registers : Shader → List Register
default_registers p =
    map Constant (declared_slots 14 is_constants p)
    ++ map Resource (declared_slots 128 is_resource p)
    ++ map Uav (declared_slots 64 is_uav p)
    ++ map Counter (counter_slots p)

-- They are at set 0, and at the bindings from a number on.
abbrev pub numbered : ℕ → List Register → List Binding
numbered n [] = []
numbered n (register ∷ rest) = binding register (Bound 0 n) ∷ numbered (n + 1) rest

abbrev pub default_map : Shader → List Binding
default_map p = numbered 0 (default_registers p)
