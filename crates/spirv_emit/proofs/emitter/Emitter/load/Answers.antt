use Rattle.spirv_symbols.specs.declared.symbol.Symbol.TheVariants.{Memory}
use Rattle.shader_tree.specs.Terms.{term_at}
use Rattle.spirv_emit.proofs.Staying.{there_stays}
use Rattle.spirv_emit.proofs.Effects.{load_meets}
use Rattle.spirv_emit.proofs.emitter.Emitter.load.Goals as goal

pub room_pointer-pointer-requires-clause-there : goal.room_pointer-pointer-requires-clause-there
room_pointer-pointer-requires-clause-there c =
    let g = c.emit_word-at.ensures.gives in
    there_stays c.args.self.now c.emit_word-at.new.self g.seg g.grows (Memory c.args.room) c.requires.ready.names.rooms.0

pub returns-clause-meets : goal.returns-clause-meets
returns-clause-meets c =
    load_meets c.args.self.now c.emit_word-at.new.self c.room_pointer-pointer.new.self c.value-word.new.self c.assign.new.self c.args.scratch
    c.emit_word-at.result
    c.room_pointer-pointer.result c.value-word.result c.word_type-type_id.result c.args.room (term_at c.args.tree.now.nodes c.args.index)
    c.emit_word-at.ensures.gives
    c.room_pointer-pointer.ensures.points c.word_type-type_id.ensures c.value-word.ensures.adds c.assign.ensures.assigns
