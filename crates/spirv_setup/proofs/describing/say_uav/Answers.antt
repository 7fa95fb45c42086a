use Rattle.std.proofs.Common.{[], ◌∷◌, subst}
use Rattle.std.specs.Prelude.{false}
use Rattle.word_base.specs.declared.event.Room.TheVariants as room
use Rattle.binding_map.specs.declared.register.Register.TheVariants as register
use Rattle.binding_map.specs.Bindings.{place_of}
use Rattle.spirv_symbols.specs.declared.symbol.Symbol.TheVariants.{Memory}
use Rattle.spirv_setup.specs.Describing.{Describes}
use Rattle.spirv_setup.specs.Descriptions.{described}
use Rattle.spirv_setup.proofs.Said.{says_on}
use Rattle.spirv_setup.proofs.describing.say_uav.Goals as goal

pub returns : goal.returns
returns c =
    says_on c.args.emitter.now c.say.new.emitter c.say-2.new.emitter
    (described (Memory (room.Uav c.args.slot)) 0 (place_of c.args.bindings.now (register.Uav c.args.slot)) c.args.coherent ∷ []) (described (Memory (room.Counter c.args.slot)) 0 (place_of c.args.bindings.now (register.Counter c.args.slot)) false ∷ []) [] []
    (subst (λ o. Describes c.args.emitter.now c.say.new.emitter (described (Memory (room.Uav c.args.slot)) 0 o c.args.coherent ∷ []) [])
    c.place_of-place.ensures c.say.ensures)
    (subst (λ o. Describes c.say.new.emitter c.say-2.new.emitter (described (Memory (room.Counter c.args.slot)) 0 o false ∷ []) [])
    c.place_of-counter.ensures c.say-2.ensures)
