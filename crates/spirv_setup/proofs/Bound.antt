-- The variables of rooms are at the places of the map.
use Rattle.std.proofs.Common.{◌≡◌, ℕ, List}
use Rattle.word_base.specs.declared.event.Room.{Room}
use Rattle.word_base.specs.declared.event.Room.TheVariants as room
use Rattle.tpf_program.specs.Program.{Shader}
use Rattle.binding_map.specs.Bindings.{Binding}
use Rattle.binding_map.specs.Lookups.{FindsEach}
use Rattle.spirv_symbols.specs.declared.symbol.Symbol.{Symbol}
use Rattle.spirv_symbols.specs.declared.symbol.Symbol.TheVariants.{Memory}
use Rattle.spirv_symbols.specs.declared.entry.Entry.{Entry}
use Rattle.spirv_symbols.specs.Contexts.{Context, declared_of, declared_among}
use Rattle.spirv_symbols.specs.Tables.{Has}
use Rattle.spirv_emit.specs.Growing.{globals_in}
use Rattle.spirv_emit.specs.Linked.{ArePlaced, IsPlaced}
use Rattle.spirv_setup.specs.Descriptions.{descriptions}
use Rattle.spirv_setup.specs.Premises.{IsDeclared}
use Rattle.spirv_setup.specs.SharedPlaces.{places_in}
use Rattle.spirv_setup.specs.Variables.{variables}
use Rattle.spirv_setup.proofs.Placed.{all_found}
use Rattle.spirv_setup.proofs.Wanting.{slots_here}

module _ (p : Shader) (bindings : List Binding) (h : IsDeclared p) (c : Context)
    (said : (s : Symbol) → declared_of c s ≡ declared_among (descriptions p bindings) s) (finds : FindsEach bindings)
    (es : List Entry) (globals : globals_in es ≡ variables p bindings) where
  room_placed : (r : Room) (id : ℕ) → Has es (Memory r) id → IsPlaced c (places_in p bindings) r
  room_placed (room.Resource slot) id has = all_found p bindings h c said finds es globals (Memory (room.Resource slot)) id has
  room_placed (room.Uav slot) id has = all_found p bindings h c said finds es globals (Memory (room.Uav slot)) id has
  room_placed (room.Counter slot) id has = all_found p bindings h c said finds es globals (Memory (room.Counter slot)) id has
  room_placed (room.Shared slot) id has = tt

  pub rooms_placed : ArePlaced c es (places_in p bindings)
  rooms_placed = record { bound = room_placed; shared = slots_here p bindings es globals }
