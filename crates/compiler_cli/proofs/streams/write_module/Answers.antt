use Rattle.std.proofs.Common.{◌≡◌, ◌≤◌, ◌*◌, length, arith, ◌∙◌, subst}
use Rattle.std.proofs.lemmas.Result.{err_from_is_err_and}
use Rattle.std.proofs.lemmas.List.{take_all}
use Rattle.outside.specs.Causes.{Gained}
use Rattle.word_base.specs.Words.{bytes_of}
use Rattle.translator.specs.Shown.{module_words}
use Rattle.compiler_cli.proofs.Parts.{bytes_length, gained_piece, part_piece}
use Rattle.compiler_cli.proofs.streams.write_module.Goals as goal

pub loop-done-preserved : goal.loop-done-preserved
loop-done-preserved g c = record {
  whole = c.loop-done.invariant.whole;
  within = omega (arith, c.fill-count.ensures.count, c.loop-done-test.true, c.loop-done.invariant.whole);
  gained =
      gained_piece _ _ _ (bytes_of (module_words c.args.view.now)) c.fill-count.new.piece c.loop-done.done
      c.fill-count.result c.fill-count.ensures.front
      c.loop-done.invariant.gained c.in_ok-write_piece.ensures.bytes;
  same = c.in_ok-write_piece.ensures.cause.kept ∙ c.loop-done.invariant.same;
  kept = c.write_piece.ensures.kept ∙ c.loop-done.invariant.kept;
  nothing = λ e. absurd (omega (
    arith,
    e,
    c.fill-count.ensures.count,
    c.loop-done-test.true,
    c.loop-done.invariant.whole,
    c.fits-buffer,
  ));
}

pub returns-in_err-write_piece-clause-bytes : goal.returns-in_err-write_piece-clause-bytes
returns-in_err-write_piece-clause-bytes g c =
    let p = err_from_is_err_and c.from_residual.result c.from_residual.ensures.1 in
    rw p.1 (part_piece _ _ _ (bytes_of (module_words c.args.view.now)) c.fill-count.new.piece c.loop-done.done
    c.fill-count.result c.fill-count.ensures.front
    c.loop-done.invariant.gained c.in_err-write_piece.ensures.bytes)

pub returns-clause-bytes : goal.returns-clause-bytes
returns-clause-bytes g c =
    let bytes = bytes_of (module_words c.args.view.now) in
    let l : length bytes ≡ 4 * length (module_words c.args.view.now) = bytes_length (module_words c.args.view.now) in
    let short : length bytes ≤ c.loop-done.done = omega
    (arith, l, c.loop-done-test.false, c.loop-done.invariant.whole, c.loop-done.invariant.within) in
    subst (Gained (g.K.Sink.written c.args.sink.now) (g.K.Sink.written c.loop-done.sink))
    (take_all c.loop-done.done bytes short) c.loop-done.invariant.gained
