use Rattle.dxbc_container.proofs.Soles.{sole_part}
use Rattle.dxbc_container.proofs.reader.sole.Goals as goal

pub returns-clause-found : goal.returns-clause-found
returns-clause-found c =
    sole_part c.args.bytes.now c.args.tag c.in_ok-number.number c.chunk.result c.in_ok-number.ensures.sound c.in_ok-number.ensures.number c.chunk.ensures
