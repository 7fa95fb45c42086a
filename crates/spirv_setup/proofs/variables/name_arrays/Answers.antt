use Rattle.spirv_setup.proofs.Arrays.{arrays_next}
use Rattle.spirv_setup.proofs.variables.name_arrays.Goals as goal

pub loop-i-preserved : goal.loop-i-preserved
loop-i-preserved c =
    arrays_next c.growth_laws.ensures.on c.growth_laws.ensures.kept c.args.emitter.now c.loop-i.emitter c.name_array.new.emitter
    c.args.program.now.shader.declarations c.loop-i.i c.declaration-declared.result c.declaration-declared.ensures c.loop-i.invariant
    c.name_array.ensures
