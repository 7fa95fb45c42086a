use Rattle.std.proofs.Common.{sym, ◌∙◌, subst}
use Rattle.std.specs.List.{range_with_len}
use Rattle.word_base.specs.declared.event.Room.TheVariants.{Shared}
use Rattle.spirv_symbols.specs.declared.symbol.Symbol.TheVariants.{Memory}
use Rattle.spirv_setup.specs.Describing.{of_some}
use Rattle.spirv_setup.specs.Naming.{MayName, NamesAll}
use Rattle.binding_map.specs.SharedSlots.{has_words}
use Rattle.spirv_setup.specs.Variables.{where_true}
use Rattle.spirv_setup.proofs.Distinct.{shared_one, range_here}
use Rattle.spirv_setup.proofs.Walked.{may_at, named_at}
use Rattle.spirv_setup.proofs.variables.name_shared.Goals as goal

pub name_some-requires-clause-may : goal.name_some-requires-clause-may
name_some-requires-clause-may c =
    subst (λ o. MayName c.loop-slot.emitter (of_some o)) (sym c.shared_variable-variable.ensures)
    (may_at (λ slot. where_true (has_words c.args.program.now.shader slot) (Memory (Shared slot))) (range_with_len 0 64) c.loop-slot.slot
    c.loop-slot.slot (range_here 64 c.loop-slot.slot c.loop-slot-test.true) c.args.emitter.now c.loop-slot.emitter c.loop-slot.invariant c.requires)

pub name_some-requires-clause-global : goal.name_some-requires-clause-global
name_some-requires-clause-global c = λ s e.
    shared_one c.args.program.now.shader c.loop-slot.slot s (sym c.shared_variable-variable.ensures ∙ e)

pub loop-slot-preserved : goal.loop-slot-preserved
loop-slot-preserved c =
    named_at (λ slot. where_true (has_words c.args.program.now.shader slot) (Memory (Shared slot))) (range_with_len 0 64) c.loop-slot.slot
    c.loop-slot.slot (range_here 64 c.loop-slot.slot c.loop-slot-test.true) c.args.emitter.now c.loop-slot.emitter c.loop-slot.invariant
    c.growth_laws.ensures.on c.name_some.new.emitter
    (subst (λ o. NamesAll c.loop-slot.emitter c.name_some.new.emitter (of_some o)) c.shared_variable-variable.ensures c.name_some.ensures)
