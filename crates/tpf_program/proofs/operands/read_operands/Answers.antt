use Rattle.std.proofs.Common.{drop, sym, suc}
use Rattle.std.specs.Prelude.{slice_index_or}
use Rattle.std.proofs.Math.Seq.{drop-cons}
use Rattle.std.proofs.lemmas.Result.{err_from_is_err_and}
use Rattle.word_base.specs.Words.{words_of}
use Rattle.tpf_decode.specs.declared.argument.Role.TheVariants.{Dest}
use Rattle.tpf_program.proofs.Parts.{one_read, one_refused}
use Rattle.tpf_program.proofs.operands.read_operands.Goals as goal

pub returns-in_err-argument-clause-refused : goal.returns-in_err-argument-clause-refused
returns-in_err-argument-clause-refused c =
    let p = err_from_is_err_and c.from_residual.result c.from_residual.ensures.1 in
    let k = c.loop-k.k in
    rw (p.1, p.2)
    (one_refused c.args.code c.args.roles.now (drop (suc k) c.args.roles.now) k c.loop-k.places (words_of c.args.bytes.now) c.args.at c.loop-k.place c.args.end
    (slice_index_or c.args.roles.now k Dest) c.in_err-argument.field-0.0 c.requires.words (drop-cons c.args.roles.now k Dest c.loop-k-test.true) c.loop-k.invariant
    (sym c.in_err-argument.ensures.refused))

pub loop-k-preserved : goal.loop-k-preserved
loop-k-preserved c =
    let k = c.loop-k.k in
    let o = c.in_ok-argument in
    one_read c.args.code c.args.roles.now (drop (suc k) c.args.roles.now) k c.loop-k.places (words_of c.args.bytes.now) c.args.at c.loop-k.place o.next c.args.end
    (slice_index_or c.args.roles.now k Dest) o.argument c.requires.few c.loop-k-test.true (drop-cons c.args.roles.now k Dest c.loop-k-test.true) c.loop-k.invariant
    o.ensures.within.0 o.ensures.within.1 o.ensures.spelled
