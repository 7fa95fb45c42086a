-- The module has the shape of the program.
use Rattle.std.specs.Prelude.{◌≡◌, List, map}
use Rattle.tpf_decode.specs.Profiles.{Profile}
use Rattle.tpf_program.specs.Program.{Shader}
use Rattle.spirv_words.specs.Text.{Module}
use Rattle.binding_map.specs.Bindings.{Binding}
use Rattle.raise_program.specs.ProgramShape.{program_shape}
use Rattle.spirv_emit.specs.ModuleShape.{Seen, module_shape}
use Rattle.spirv_setup.specs.SharedPlaces.{places_in}

-- The loops, switches and events of the module, in list order, are the program's, and none is hidden, where its
-- variables of shared memory are those slots that have words, in their order.
pub record HasShape (profile : Profile) (p : Shader) (bindings : List Binding) (m : Module) : Type 0 where
  pub items : module_shape m (places_in p bindings) ≡ map Seen (program_shape profile p bindings)
