-- How a map grows by registers that are to be bound.
use Rattle.std.specs.Prelude.{◌≡◌, ℕ, ◌+◌, ◌≤◌, false, Bool, List, [], ◌∷◌, ◌++◌, filter, get_or, length, Option, Some, None}
use Rattle.std.specs.List.{range_with_len}
use Rattle.root_signature.specs.declared.covers.Covers.{Covers}
use Rattle.root_signature.specs.declared.covers.Covers.TheVariants.{Constants, Cbv, Srv, Uav}
use Rattle.binding_map.specs.declared.defaults.Group.{Group}
use Rattle.binding_map.specs.declared.defaults.Group.TheVariants as group
use Rattle.binding_map.specs.declared.register.Place.{Place}
use Rattle.binding_map.specs.declared.register.Place.TheVariants.{Push}
use Rattle.binding_map.specs.declared.registers.Registers.{Registers}
use Rattle.binding_map.specs.declared.root.Growing.{Growing}
use Rattle.binding_map.specs.Bindings.{IsMap}
use Rattle.binding_map.specs.Numbering.{register_in}
use Rattle.binding_map.specs.Roots.{Wanted, run_of, behind, placed}

-- the binding number behind these registers
abbrev pub number_behind : ℕ → List Wanted → ℕ
number_behind n [] = n
number_behind n (w ∷ rest) = number_behind (behind n w.words) rest

-- The map with these registers is a map.
pub record MayGrow (old : Growing) (wanted : List Wanted) : Type 0 where
  pub map : IsMap (old.bindings ++ placed old.next wanted)
  pub few : old.next + length wanted ≤ 1000

pub record Grows (old new : Growing) (wanted : List Wanted) : Type 0 where
  pub bindings : new.bindings ≡ old.bindings ++ placed old.next wanted
  pub next : new.next ≡ number_behind old.next wanted

-- so many registers of a group from the base on, of those that are marked
abbrev pub marked_slots : List Bool → List ℕ
marked_slots marks = filter (λ slot. get_or marks slot false) (range_with_len 0 (length marks))

abbrev pub marked_run : Group → List Bool → ℕ → ℕ → Option Place → List Wanted
marked_run group marks base count words = run_of (register_in group) words base count (marked_slots marks)

-- the marked registers that an entry of a root signature covers
abbrev pub marked_by : Registers → Covers → List Wanted
marked_by r (Constants slot first count) = marked_run group.Constants r.constants slot 1 (Some (Push first count))
marked_by r (Cbv base count) = marked_run group.Constants r.constants base count None
marked_by r (Srv base count) = marked_run group.Resources r.resources base count None
marked_by r (Uav base count) = marked_run group.Uavs r.uavs base count None
