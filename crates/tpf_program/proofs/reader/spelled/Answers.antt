use Rattle.std.proofs.Common.{◌≡◌, arith}
use Rattle.std.proofs.lemmas.Result.{err_from_is_err_and}
use Rattle.word_base.specs.Words.{words_of}
use Rattle.tpf_program.proofs.Walk.{head_told, program_spelled, all_sound, part_refused}
use Rattle.tpf_program.proofs.reader.spelled.Goals as goal

pub returns-in_err-at-clause-refused : goal.returns-in_err-at-clause-refused
returns-in_err-at-clause-refused c =
    let k = c.loop-at in
    let p = err_from_is_err_and c.from_residual.result c.from_residual.ensures.1 in
    rw (p.1, p.2) (part_refused (words_of c.args.bytes.now) c.args.words k.at k.program.shader _ k.invariant.walked c.requires.head c.requires.count c.in_err-at.ensures.refused)

pub returns-clause-ok : goal.returns-clause-ok
returns-clause-ok c =
    let w = words_of c.args.bytes.now in
    let n = c.args.words in
    let h = head_told w n c.requires.head c.requires.count in
    let e : c.loop-at.at ≡ n = omega (arith, c.loop-at.invariant.walked.upto) in
    program_spelled w n c.loop-at.at c.loop-at.program.shader e h.version c.requires.count h.fits c.loop-at.invariant.walked

pub returns-clause-sound : goal.returns-clause-sound
returns-clause-sound c =
    let e : c.loop-at.at ≡ c.args.words = omega (arith, c.loop-at.invariant.walked.upto) in
    all_sound (words_of c.args.bytes.now) c.args.words c.loop-at.at c.loop-at.program.shader e c.loop-at.invariant.walked c.requires.head c.requires.count
