use Rattle.std.proofs.Common.{sym, ◌∙◌}
use Rattle.tpf_program.specs.Extents.{is_uav}
use Rattle.spirv_setup.proofs.Tests.{any_met, any_next}
use Rattle.spirv_setup.proofs.registers.declares_uav.Goals as goal

pub returns-then-is_uav : goal.returns-then-is_uav
returns-then-is_uav c =
    sym (any_met (λ d. is_uav c.args.slot d.what) c.args.program.now.shader.declarations c.loop-i.i c.declaration-declared.result
    c.declaration-declared.ensures (sym c.is_uav.ensures ∙ c.if-is_uav.true))

pub loop-i-preserved : goal.loop-i-preserved
loop-i-preserved c =
    any_next (λ d. is_uav c.args.slot d.what) c.args.program.now.shader.declarations c.loop-i.i c.declaration-declared.result
    c.declaration-declared.ensures (sym c.is_uav.ensures ∙ c.if-is_uav.false) c.loop-i.invariant
