use Rattle.std.proofs.Common.{◌+◌, ◌<◌, length, sym, ◌∙◌, arith}
use Rattle.text_lines.proofs.Cut.{rest_of, first_part, last_part}
use Rattle.text_lines.proofs.parts.next_part.Goals as goal

pub returns-then-end-line-clause-parts : goal.returns-then-end-line-clause-parts
returns-then-end-line-clause-parts c some =
    rw (rest_of c.args.line.now c.end_of-end.result, c.if-end-line.true)
    (last_part c.args.line.now some (sym c.end_of-end.ensures.place ∙ c.if-end-line.true))

pub returns-clause-parts : goal.returns-clause-parts
returns-clause-parts c some =
    let within : c.end_of-end.result < length c.args.line.now = omega (arith, c.end_of-end.ensures.within, c.if-end-line.false) in
    rw (c.behind_spaces.ensures.parts, rest_of c.args.line.now (c.end_of-end.result + 1))
    (first_part c.args.line.now c.end_of-end.result c.requires.begins c.end_of-end.ensures.place within)
