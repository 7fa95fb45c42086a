use Rattle.std.proofs.Common.{sym, ◌∙◌}
use Rattle.tpf_program.specs.Extents.{is_resource}
use Rattle.spirv_setup.proofs.Tests.{any_met, any_next}
use Rattle.spirv_setup.proofs.registers.declares_resource.Goals as goal

pub returns-then-is_resource : goal.returns-then-is_resource
returns-then-is_resource c =
    sym (any_met (λ d. is_resource c.args.slot d.what) c.args.program.now.shader.declarations c.loop-i.i c.declaration-declared.result
    c.declaration-declared.ensures (sym c.is_resource.ensures ∙ c.if-is_resource.true))

pub loop-i-preserved : goal.loop-i-preserved
loop-i-preserved c =
    any_next (λ d. is_resource c.args.slot d.what) c.args.program.now.shader.declarations c.loop-i.i c.declaration-declared.result
    c.declaration-declared.ensures (sym c.is_resource.ensures ∙ c.if-is_resource.false) c.loop-i.invariant
