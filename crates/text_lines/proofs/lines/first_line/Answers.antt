use Rattle.std.proofs.Common.{sym, ◌∙◌, arith, ◌+◌, ◌<◌, length}
use Rattle.text_lines.proofs.Cut.{rest_of, next_line, last_line}
use Rattle.text_lines.proofs.lines.first_line.Goals as goal

pub returns-then-end-bytes-clause-lines : goal.returns-then-end-bytes-clause-lines
returns-then-end-bytes-clause-lines c =
    rw (rest_of c.args.bytes.now c.end_of-end.result, c.if-end-bytes.true)
    (last_line c.args.bytes.now c.requires (sym c.end_of-end.ensures.place ∙ c.if-end-bytes.true))

pub returns-clause-lines : goal.returns-clause-lines
returns-clause-lines c =
    let within : c.end_of-end.result < length c.args.bytes.now = omega (arith, c.end_of-end.ensures.within, c.if-end-bytes.false) in
    rw (rest_of c.args.bytes.now (c.end_of-end.result + 1), c.without_return.ensures)
    (next_line c.args.bytes.now c.end_of-end.result c.end_of-end.ensures.place within)
