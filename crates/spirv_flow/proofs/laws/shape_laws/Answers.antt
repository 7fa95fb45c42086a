use Rattle.std.proofs.Common.{ap, ◌∙◌}
use Rattle.spirv_emit.specs.ModuleShape.{shape_of}
use Rattle.spirv_flow.proofs.Itemized.{shown}
use Rattle.spirv_flow.proofs.Silent.{front_has_none}
use Rattle.spirv_flow.proofs.laws.shape_laws.Goals as goal

-- src/laws.rt
pub returns : goal.returns
returns c = record {
  shown = λ z places m front old new x h full linked none same whole. ap (λ code. shape_of code places code) same
      ∙ shown z places front old new x h full linked none whole;
  front = λ c kind es cs. front_has_none c kind es cs;
}
