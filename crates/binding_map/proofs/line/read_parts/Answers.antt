use Rattle.std.proofs.Common.{sym, ◌∙◌}
use Rattle.binding_map.proofs.LineParts.{is_none, is_some, three_parts, four_parts, not_push, more_parts}
use Rattle.binding_map.proofs.line.read_parts.Goals as goal

pub returns-then-is_empty : goal.returns-then-is_empty
returns-then-is_empty c = rw (c.bound.ensures, c.from_name.ensures, c.number.ensures, c.number-then-is_empty.ensures)
    (three_parts c.args.line.now c.next_part.result.0.now c.next_part-2.result.0.now c.next_part-3.result.0.now
    c.next_part.result.1.now c.next_part-2.result.1.now c.next_part-3.result.1.now
    (record { some = c.next_part.ensures.parts; none = c.next_part.ensures.none })
    (record { some = c.next_part-2.ensures.parts; none = c.next_part-2.ensures.none })
    (record { some = c.next_part-3.ensures.parts; none = c.next_part-3.ensures.none })
    (is_none c.next_part-3.result.1.now c.is_empty.result c.is_empty.ensures c.if-is_empty.true))

pub returns-then-not-is_empty : goal.returns-then-not-is_empty
returns-then-not-is_empty c =
    more_parts c.args.line.now c.next_part.result.0.now c.next_part-2.result.0.now c.next_part-3.result.0.now c.next_part-4.result.0.now
    c.next_part.result.1.now c.next_part-2.result.1.now c.next_part-3.result.1.now c.next_part-4.result.1.now
    (record { some = c.next_part.ensures.parts; none = c.next_part.ensures.none })
    (record { some = c.next_part-2.ensures.parts; none = c.next_part-2.ensures.none })
    (record { some = c.next_part-3.ensures.parts; none = c.next_part-3.ensures.none })
    (record { some = c.next_part-4.ensures.parts; none = c.next_part-4.ensures.none })
    (is_some c.next_part-3.result.1.now c.is_empty.result c.is_empty.ensures c.if-is_empty.false)
    (is_some c.next_part-4.result.1.now c.is_empty-2.result c.is_empty-2.ensures c.if-not-is_empty.true)
    c.next_part-4.ensures.begins

pub returns-then-not-is_push : goal.returns-then-not-is_push
returns-then-not-is_push c =
    not_push c.args.line.now c.next_part.result.0.now c.next_part-2.result.0.now c.next_part-3.result.0.now c.next_part-4.result.0.now
    c.next_part.result.1.now c.next_part-2.result.1.now c.next_part-3.result.1.now c.next_part-4.result.1.now
    (record { some = c.next_part.ensures.parts; none = c.next_part.ensures.none })
    (record { some = c.next_part-2.ensures.parts; none = c.next_part-2.ensures.none })
    (record { some = c.next_part-3.ensures.parts; none = c.next_part-3.ensures.none })
    (record { some = c.next_part-4.ensures.parts; none = c.next_part-4.ensures.none })
    (is_some c.next_part-3.result.1.now c.is_empty.result c.is_empty.ensures c.if-is_empty.false)
    (is_none c.next_part-4.result.1.now c.is_empty-2.result c.is_empty-2.ensures c.if-not-is_empty.false)
    (sym c.is_push.ensures ∙ c.if-not-is_push.true)

pub returns : goal.returns
returns c = rw (c.pushed.ensures, c.from_name-2.ensures, c.number-2.ensures, c.number-3.ensures)
    (four_parts c.args.line.now c.next_part.result.0.now c.next_part-2.result.0.now c.next_part-3.result.0.now c.next_part-4.result.0.now
    c.next_part.result.1.now c.next_part-2.result.1.now c.next_part-3.result.1.now c.next_part-4.result.1.now
    (record { some = c.next_part.ensures.parts; none = c.next_part.ensures.none })
    (record { some = c.next_part-2.ensures.parts; none = c.next_part-2.ensures.none })
    (record { some = c.next_part-3.ensures.parts; none = c.next_part-3.ensures.none })
    (record { some = c.next_part-4.ensures.parts; none = c.next_part-4.ensures.none })
    (is_some c.next_part-3.result.1.now c.is_empty.result c.is_empty.ensures c.if-is_empty.false)
    (is_none c.next_part-4.result.1.now c.is_empty-2.result c.is_empty-2.ensures c.if-not-is_empty.false)
    (sym c.is_push.ensures ∙ c.if-not-is_push.false))
