use Rattle.spirv_emit.proofs.RoomChains.{shared_gives}
use Rattle.spirv_emit.proofs.emitter.Emitter.shared_pointer.Goals as goal

pub returns-clause-points : goal.returns-clause-points
returns-clause-points c =
    shared_gives c.args.self.now c.value.new.self c.args.room c.id_of-base.result c.args.at c.value.result c.id_of-type_id.result c.requires.shared
    c.requires.begun
    c.id_of-base.ensures c.id_of-type_id.ensures c.value.ensures.adds
