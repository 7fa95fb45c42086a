use Rattle.std.proofs.Common.{take}
use Rattle.std.specs.List.{filter_map, range_with_len}
use Rattle.word_base.specs.declared.event.Room.TheVariants.{Shared}
use Rattle.spirv_symbols.specs.declared.symbol.Symbol.TheVariants.{Memory}
use Rattle.spirv_setup.specs.Naming.{NamesAll}
use Rattle.binding_map.specs.SharedSlots.{has_words}
use Rattle.spirv_setup.specs.Variables.{where_true}
use Rattle.spirv_setup.proofs.variables.name_shared.Given as goal

abbrev pub invariant-loop-slot : goal.invariant-loop-slot
invariant-loop-slot l =
    NamesAll l.initial.emitter l.emitter
    (filter_map (λ slot. where_true (has_words l.program.shader slot) (Memory (Shared slot))) (take l.slot (range_with_len 0 64)))
