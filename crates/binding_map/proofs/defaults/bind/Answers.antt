use Rattle.std.proofs.Common.{ap, ◌∙◌, ◌++◌, length}
use Rattle.binding_map.specs.Defaults.{numbered}
use Rattle.binding_map.specs.declared.defaults.Group.TheVariants.{Constants, Resources, Uavs, Counters}
use Rattle.binding_map.specs.declared.registers.Registers.{Registers}
use Rattle.binding_map.specs.Numbering.{marked_below}
use Rattle.binding_map.proofs.Numbered.{resources_next, uavs_next, counters_next}
use Rattle.binding_map.proofs.Whole.{four_groups}
use Rattle.binding_map.proofs.defaults.bind.Goals as goal

pub number-requires-2-clause-before : goal.number-requires-2-clause-before
number-requires-2-clause-before c = resources_next (length c.args.registers.now.constants) c.number.new.bindings c.in_ok-number.ensures.before

pub number-requires-3-clause-before : goal.number-requires-3-clause-before
number-requires-3-clause-before c = uavs_next (length c.args.registers.now.resources) c.number-2.new.bindings c.in_ok-number-2.ensures.before

pub number-requires-4-clause-before : goal.number-requires-4-clause-before
number-requires-4-clause-before c = counters_next (length c.args.registers.now.uavs) c.number-3.new.bindings c.in_ok-number-3.ensures.before

pub returns : goal.returns
returns c =
    let r : Registers = c.args.registers.now in
    four_groups (marked_below (length r.constants) Constants r.constants) (marked_below (length r.resources) Resources r.resources)
    (marked_below (length r.uavs) Uavs r.uavs) (marked_below (length r.counters) Counters r.counters)
    c.number.new.bindings c.number-2.new.bindings c.number-3.new.bindings c.number-4.new.bindings
    (c.in_ok-number.ensures.list ∙ ap (λ l. l ++ numbered (length l) (marked_below (length r.constants) Constants r.constants)) c.empty-bindings.ensures)
    c.in_ok-number-2.ensures.list c.in_ok-number-3.ensures.list c.in_ok-number-4.ensures.list
