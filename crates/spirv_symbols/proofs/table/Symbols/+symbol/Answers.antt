use Rattle.std.proofs.Common.{◌≡◌, Some, sym, ap, ◌∙◌, subst, arith, take, ◌+◌}
use Rattle.std.specs.Prelude.{slice_get}
use Rattle.spirv_symbols.specs.declared.row.Part.{Part}
use Rattle.spirv_symbols.specs.declared.row.Part.TheVariants.{Of}
use Rattle.spirv_symbols.specs.Rows.{needs_in, rank}
use Rattle.spirv_symbols.specs.RowValues.{parts_of}
use Rattle.spirv_symbols.specs.Tables.{Table, Makes}
use Rattle.spirv_symbols.proofs.Needs.{Needed, ranks, AreBelow, part_below, needed_more, needs_next, needs_pass, room_for, room_left, needed_all, made, found}
use Rattle.spirv_symbols.proofs.table.Symbols.+symbol.Goals.{in-Of, in_default-part_at}
use Rattle.spirv_symbols.proofs.table.Symbols.+symbol.Goals as goal

pub returns-in-Some : goal.returns-in-Some
returns-in-Some t c = found c.args.context.now c.args.self.now c.args.symbol c.in-Some.id c.requires.stands c.in-Some.ensures.found

pub symbol-requires : goal.symbol-requires
symbol-requires t c =
    let h : slice_get (parts_of c.args.context.now c.row_of-row.result) c.loop-k.k ≡ Some (Of c.in-Of.need) = c.part_at.ensures ∙ ap
    (λ (p : Part). Some p) c.in-Of.is in
    let b = subst (λ ps. AreBelow (needs_in ps) (rank c.args.symbol)) (sym c.row_of-row.ensures.parts) (ranks c.args.symbol c.args.context.now) in
    let lt = part_below (parts_of c.args.context.now c.row_of-row.result) c.loop-k.k c.in-Of.need (rank c.args.symbol) b h in (
      omega (arith, lt, c.decreases),
      (
        c.loop-k.invariant.stands,
        room_for c.args.context.now c.args.symbol c.in-Of.need (parts_of c.args.context.now c.row_of-row.result) c.loop-k.k c.args.self.now
            c.loop-k.self (ap needs_in c.row_of-row.ensures.parts) h c.loop-k.invariant c.requires.room,
      ),
    )

pub loop-k-preserved : goal.loop-k-preserved
loop-k-preserved t c = elim c.match-part_at.branch [
  | in-Of w ↦
      let h : slice_get (parts_of c.args.context.now c.row_of-row.result) c.loop-k.k ≡ Some (Of w.in-Of.need) = c.part_at.ensures ∙ ap
      (λ (p : Part). Some p) w.in-Of.is in
      subst (λ ss. Needed c.args.context.now c.args.self.now c.match-part_at.self ss)
      (sym (needs_next (parts_of c.args.context.now c.row_of-row.result) c.loop-k.k (Of w.in-Of.need) h))
      (needed_more c.args.context.now c.args.self.now c.loop-k.self c.match-part_at.self
      (needs_in (take c.loop-k.k (parts_of c.args.context.now c.row_of-row.result))) w.in-Of.need w.symbol.result c.loop-k.invariant
      (subst (λ (x : Table). Makes c.args.context.now c.loop-k.self x w.in-Of.need w.symbol.result) (sym w.self-is) w.symbol.ensures))
  | in_default-part_at w ↦
      subst (λ (x : Table). Needed c.args.context.now c.args.self.now x
      (needs_in (take (c.loop-k.k + 1) (parts_of c.args.context.now c.row_of-row.result)))) (sym w.self-is)
      (subst (λ ss. Needed c.args.context.now c.args.self.now c.loop-k.self ss)
      (sym (needs_pass (parts_of c.args.context.now c.row_of-row.result) c.loop-k.k c.part_at.result c.part_at.ensures
      w.in_default-part_at.not-Of)) c.loop-k.invariant)
]

pub put-requires-clause-room : goal.put-requires-clause-room
put-requires-clause-room t c =
    let n = needed_all c.args.context.now c.args.symbol (parts_of c.args.context.now c.row_of-row.result) c.loop-k.k c.args.self.now c.loop-k.self
    (ap needs_in c.row_of-row.ensures.parts) (omega (arith, c.loop-k-test.false, c.part_count-k-end.ensures)) c.loop-k.invariant in
    room_left c.args.context.now c.args.symbol c.args.self.now c.loop-k.self n c.requires.room

pub returns : goal.returns
returns t c =
    let n = needed_all c.args.context.now c.args.symbol (parts_of c.args.context.now c.row_of-row.result) c.loop-k.k c.args.self.now c.loop-k.self
    (ap needs_in c.row_of-row.ensures.parts) (omega (arith, c.loop-k-test.false, c.part_count-k-end.ensures)) c.loop-k.invariant in
    made c.args.context.now c.args.self.now c.loop-k.self c.put.new.self c.args.symbol c.put.result c.in_default.ensures.absent n c.put.ensures
