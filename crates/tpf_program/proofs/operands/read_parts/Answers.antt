use Rattle.std.proofs.Common.{◌≡◌, ◌+◌, ◌<◌, sym, ap, ◌∙◌, arith}
use Rattle.word_base.specs.Words.{words_of}
use Rattle.tpf_decode.specs.Refusals.{refusal_of}
use Rattle.tpf_program.proofs.Behind.{parts_missing, parts_left, parts_whole}
use Rattle.tpf_program.proofs.operands.read_parts.Goals as goal

pub returns-then-end-place-clause-refused : goal.returns-then-end-place-clause-refused
returns-then-end-place-clause-refused c =
    let o = c.in_ok-places in
    ap refusal_of c.refuse.ensures
    ∙ sym (parts_missing c.args.code c.args.roles.now o.places (words_of c.args.bytes.now) c.args.at o.place c.args.end c.args.further
    o.ensures.within.0 o.ensures.within.1 c.requires.words c.requires.roles o.ensures.spelled c.requires.further c.if-end-place.true)

pub returns-then-end-place-2-clause-refused : goal.returns-then-end-place-2-clause-refused
returns-then-end-place-2-clause-refused c =
    let o = c.in_ok-places in
    let l : o.place + c.args.further < c.args.end = omega (arith, o.ensures.within.1) in
    ap refusal_of c.refuse-then-end-place-2.ensures
    ∙ sym (parts_left c.args.code c.args.roles.now o.places (words_of c.args.bytes.now) c.args.at o.place c.args.end c.args.further
    o.ensures.within.0 l c.requires.words c.requires.roles o.ensures.spelled c.requires.further)

pub returns-clause-refused : goal.returns-clause-refused
returns-clause-refused c =
    let o = c.in_ok-places in
    let l : o.place + c.args.further ≡ c.args.end = omega (arith, o.ensures.within.1) in
    sym (parts_whole c.args.code c.args.roles.now o.places (words_of c.args.bytes.now) c.args.at o.place c.args.end c.args.further
    o.ensures.within.0 l c.requires.words c.requires.roles o.ensures.spelled c.requires.further)
