use Rattle.spirv_emit.proofs.RoomChains.{view_gives}
use Rattle.spirv_emit.proofs.emitter.Emitter.view_pointer.Goals as goal

pub returns-clause-points : goal.returns-clause-points
returns-clause-points c =
    view_gives c.args.self.now c.value.new.self c.args.room c.id_of-base.result c.args.at c.value.result c.id_of-type_id.result c.zero-member.result
    c.requires.view
    c.requires.begun c.id_of-base.ensures c.zero-member.ensures c.id_of-type_id.ensures c.value.ensures.adds
