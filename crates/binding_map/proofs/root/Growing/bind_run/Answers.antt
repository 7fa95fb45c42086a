use Rattle.std.proofs.Common.{◌<◌, ◌∷◌, [], length, subst, arith}
use Rattle.binding_map.specs.Numbering.{register_in}
use Rattle.binding_map.specs.Roots.{want}
use Rattle.binding_map.specs.Growing.{Grows}
use Rattle.binding_map.proofs.Placed.{grows_none, grows_on, run_below, run_begins, run_with, run_without, run_next, run_ends, is_inside, end_is}
use Rattle.binding_map.proofs.root.Growing.bind_run.Goals as goal
use Rattle.binding_map.proofs.root.Growing.bind_run.Goals.{then-marks-slot+in_ok-bind, else-marks-slot}

pub loop-slot-init : goal.loop-slot-init
loop-slot-init c =
    rw (run_begins (register_in c.args.group) c.args.words c.args.base c.args.count c.args.marks.now) (grows_none c.args.self.now)

pub bind-requires : goal.bind-requires
bind-requires c =
    let inside = is_inside c.args.base c.args.count (length c.args.marks.now) c.saturating_add.result c.min-end.result c.loop-slot.slot
    c.saturating_add.ensures c.min-end.ensures c.loop-slot.auto.slot c.loop-slot-test.true in
    let within : c.loop-slot.slot < length c.args.marks.now = omega (arith, c.min-end.ensures, c.loop-slot-test.true) in
    run_next (register_in c.args.group) c.args.words c.args.base c.args.count c.args.marks.now c.args.self.now c.loop-slot.self c.loop-slot.slot
    within c.if-marks-slot.true inside c.requires.grow c.loop-slot.invariant

pub loop-slot-preserved : goal.loop-slot-preserved
loop-slot-preserved c =
    let inside = is_inside c.args.base c.args.count (length c.args.marks.now) c.saturating_add.result c.min-end.result c.loop-slot.slot
    c.saturating_add.ensures c.min-end.ensures c.loop-slot.auto.slot c.loop-slot-test.true in
    elim c.if-marks-slot.branch [
      | then-marks-slot+in_ok-bind w ↦
          rw (w.self-is, run_with (register_in c.args.group) c.args.words c.args.base c.args.count c.args.marks.now c.loop-slot.slot w.if-marks-slot.true inside)
          (grows_on c.args.self.now c.loop-slot.self w.bind.new.self
          (run_below (register_in c.args.group) c.args.words c.args.base c.args.count c.args.marks.now c.loop-slot.slot)
          (want (register_in c.args.group) c.args.words c.loop-slot.slot ∷ []) c.loop-slot.invariant w.in_ok-bind.ensures)
      | else-marks-slot w ↦
          rw (w.self-is, run_without (register_in c.args.group) c.args.words c.args.base c.args.count c.args.marks.now c.loop-slot.slot w.if-marks-slot.false)
          c.loop-slot.invariant
    ]

pub returns : goal.returns
returns c = subst (Grows c.args.self.now c.loop-slot.self)
    (run_ends (register_in c.args.group) c.args.words c.args.base c.args.count c.args.marks.now c.loop-slot.slot c.min-end.result c.requires.marks
    (end_is c.args.base c.args.count (length c.args.marks.now) c.saturating_add.result c.min-end.result c.saturating_add.ensures c.min-end.ensures)
    c.loop-slot-test.false)
    c.loop-slot.invariant
