use Rattle.spirv_emit.proofs.RoomWaiting.{variable_needs}
use Rattle.spirv_emit.proofs.emitter.Emitter.store_to.Goals as goal

pub named-pointer-requires-clause-needs : goal.named-pointer-requires-clause-needs
named-pointer-requires-clause-needs c = variable_needs c.args.self.now _ c.requires.needs c.requires.begun
