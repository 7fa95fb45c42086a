use Rattle.std.proofs.lemmas.Result.{err_from_is_err_and}
use Rattle.compiler_cli.proofs.Fronts.{parts_part}
use Rattle.compiler_cli.proofs.report.write_parts.Goals as goal

pub returns-in_err-write_piece-clause-bytes : goal.returns-in_err-write_piece-clause-bytes
returns-in_err-write_piece-clause-bytes g c =
    let p = err_from_is_err_and c.from_residual.result c.from_residual.ensures.1 in
    rw p.1 (parts_part _ _ _ c.args.parts.now c.loop-part.part-index _ c.loop-part-test.true c.loop-part.invariant.gained (rw c.as_bytes.ensures.value at c.in_err-write_piece.ensures.bytes))
