use Rattle.spirv_emit.proofs.emitter.Emitter.id_of.Goals as goal

pub unreachable-requires : goal.unreachable-requires
unreachable-requires c = c.in-None.ensures.absent c.requires.0 c.requires.1
