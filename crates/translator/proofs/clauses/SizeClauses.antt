-- What the clauses of `size_laws` of spirv_setup say.
use Rattle.std.specs.Prelude.{Bool, List}
use Rattle.tpf_program.specs.Program.{Shader}
use Rattle.binding_map.specs.Bindings.{Binding, IsMap}
use Rattle.spirv_emit.specs.Sized.{IsSized}
use Rattle.spirv_emit.specs.declared.emitter.Emitter.{Emitter as Emission}
use Rattle.spirv_setup.specs.Premises.{IsDeclared}
use Rattle.spirv_setup.specs.Setup.{IsSetUp}

pub record SizeClauses : Type 0 where
  pub holds : (p : Shader) (bindings : List Binding) (e : Emission) (separate : Bool) → IsDeclared p → IsMap bindings
      → IsSetUp p bindings e → IsSized (record e.frame { separate = separate })
