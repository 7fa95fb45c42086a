use Rattle.std.proofs.Common.{ap, sym, ◌∙◌, subst, ◌+◌, ◌++◌, ◌∷◌, [], length}
use Rattle.binding_map.specs.declared.register.Place.TheVariants.{Bound}
use Rattle.binding_map.specs.Bindings.{binding, place_of}
use Rattle.binding_map.proofs.Numbered.{Numbering, is_absent, with_mark, without_mark}
use Rattle.binding_map.proofs.defaults.number.Goals as goal
use Rattle.binding_map.proofs.defaults.number.Goals.{then-marks-slot+in_ok-add_next, else-marks-slot}

pub add_next-requires-clause-absent : goal.add_next-requires-clause-absent
add_next-requires-clause-absent c =
    ap (place_of c.loop-slot.bindings) c.register.ensures ∙ is_absent c.args.group c.loop-slot.slot c.loop-slot.bindings c.loop-slot.invariant.before

pub loop-slot-preserved : goal.loop-slot-preserved
loop-slot-preserved c =
    elim c.if-marks-slot.branch [
      | then-marks-slot+in_ok-add_next w ↦
          subst (Numbering c.args.group c.args.marks.now c.args.bindings.now (c.loop-slot.slot + 1))
          (sym (w.bindings-is ∙ (w.in_ok-add_next.ensures ∙ ap (λ r. c.loop-slot.bindings ++ binding r (Bound 0 (length c.loop-slot.bindings)) ∷ []) w.register.ensures)))
          (with_mark c.args.group c.args.marks.now c.args.bindings.now c.loop-slot.slot c.loop-slot.bindings c.loop-slot.invariant w.if-marks-slot.true)
      | else-marks-slot w ↦
          subst (Numbering c.args.group c.args.marks.now c.args.bindings.now (c.loop-slot.slot + 1)) (sym w.bindings-is)
          (without_mark c.args.group c.args.marks.now c.args.bindings.now c.loop-slot.slot c.loop-slot.bindings c.loop-slot.invariant w.if-marks-slot.false)
    ]
