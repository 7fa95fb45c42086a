use Rattle.spirv_emit.proofs.emitter.Emitter.zero.Goals as goal

pub id_of-requires : goal.id_of-requires
id_of-requires c = c.requires.fixed.zero'
