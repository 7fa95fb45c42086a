use Rattle.std.proofs.lemmas.Result.{err_from_is_err_and}
use Rattle.dxbc_container.specs.Layout.{shex_tag}
use Rattle.dxbc_container.specs.Chunks.{IsSolePart}
use Rattle.dxbc_container.proofs.Soles.{sole_part, still_refused}
use Rattle.dxbc_container.proofs.reader.shex.Goals as goal

pub returns-in_err-number-clause-refused : goal.returns-in_err-number-clause-refused
returns-in_err-number-clause-refused c =
    let p = err_from_is_err_and c.from_residual.result c.from_residual.ensures.1 in
    rw (p.1, p.2) (still_refused c.args.bytes.now c.in_err-number.field-0.0 c.in_err-number.ensures.refused)

pub returns-clause-found : goal.returns-clause-found
returns-clause-found c =
    sole_part c.args.bytes.now shex_tag c.in_ok-number.number c.chunk.result c.in_ok-number.ensures.sound c.in_ok-number.ensures.number c.chunk.ensures

pub returns-clause-data : goal.returns-clause-data
returns-clause-data c =
    let h : IsSolePart c.args.bytes.now shex_tag c.chunk.result.part =
    sole_part c.args.bytes.now shex_tag c.in_ok-number.number c.chunk.result c.in_ok-number.ensures.sound c.in_ok-number.ensures.number c.chunk.ensures in
    record { start = c.chunk.result.part.start; sole = h.sole }
