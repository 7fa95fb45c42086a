-- The places of a map, as far as a module of a program has variables.
use Rattle.std.specs.Prelude.{List}
use Rattle.tpf_program.specs.Program.{Shader}
use Rattle.spirv_words.specs.Globals.{Places}
use Rattle.binding_map.specs.Bindings.{Binding}
use Rattle.binding_map.specs.Places.{places_of}
use Rattle.binding_map.specs.SharedSlots.{shared_slots}

-- with the slots of shared memory that the program gives words alone
abbrev pub places_in : Shader → List Binding → Places
places_in p bindings = record (places_of bindings) { shared = shared_slots p }
