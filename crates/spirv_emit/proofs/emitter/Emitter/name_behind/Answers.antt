use Rattle.std.proofs.Common.{[], length, ◌+◌, refl, arith}
use Rattle.spirv_emit.proofs.Ordered.{order_front, needs_last, last_named, behind_words, behind_ids, behind_begun}
use Rattle.spirv_emit.proofs.Room.{ids_room}
use Rattle.spirv_emit.proofs.emitter.Emitter.name_behind.Goals as goal

pub put_all-requires-clause-order : goal.put_all-requires-clause-order
put_all-requires-clause-order c =
    order_front c.args.self.now.symbols.entries c.args.self.now.frame.context [] c.args.below.now c.args.symbol c.requires.order

pub put_all-requires-clause-room : goal.put_all-requires-clause-room
put_all-requires-clause-room c =
    let room = ids_room c.args.self.now (length c.args.below.now + 1) c.requires.ids c.requires.begun.ids' in omega (arith, room)

pub put-requires-clause-needs : goal.put-requires-clause-needs
put-requires-clause-needs c =
    needs_last c.args.self.now.frame.context c.args.self.now.symbols c.put_all.new.symbols c.args.below.now c.args.symbol c.requires.order
    c.put_all.ensures

pub put-requires-clause-room : goal.put-requires-clause-room
put-requires-clause-room c =
    let room = ids_room c.args.self.now (length c.args.below.now + 1) c.requires.ids c.requires.begun.ids' in
    omega (arith, room, c.put_all.ensures.ids, c.put_all.ensures.extends.limit')

pub returns-clause-names : goal.returns-clause-names
returns-clause-names c =
    last_named c.args.self.now _ c.put_all.new.symbols c.args.below.now c.args.symbol c.put.result c.growth_laws.ensures.on refl c.put_all.ensures
    c.put.ensures

pub returns-clause-begun : goal.returns-clause-begun
returns-clause-begun c =
    behind_begun c.args.self.now _ c.put_all.new.symbols c.args.below.now c.args.symbol c.put.result refl refl refl
    (c.growth_laws.ensures.on c.args.self.now.symbols c.put_all.new.symbols c.put.new.self c.put_all.ensures.extends c.put.ensures.extends)
    c.put_all.ensures c.put.ensures c.requires.words c.requires.ids c.requires.begun

pub returns-clause-words : goal.returns-clause-words
returns-clause-words c =
    behind_words c.args.self.now _ c.put_all.new.symbols c.args.below.now c.args.symbol c.put.result refl refl refl
    (c.growth_laws.ensures.on c.args.self.now.symbols c.put_all.new.symbols c.put.new.self c.put_all.ensures.extends c.put.ensures.extends)
    c.put_all.ensures c.put.ensures

pub returns-clause-ids : goal.returns-clause-ids
returns-clause-ids c =
    behind_ids c.args.self.now _ c.put_all.new.symbols c.args.below.now c.args.symbol c.put.result refl refl refl
    (c.growth_laws.ensures.on c.args.self.now.symbols c.put_all.new.symbols c.put.new.self c.put_all.ensures.extends c.put.ensures.extends)
    c.put_all.ensures c.put.ensures
