use Rattle.std.proofs.Common.{arith}
use Rattle.raise_views.proofs.Growing.{at_most, extends_on, grows_on}
use Rattle.raise_views.proofs.writing.writes.Goals as goal

pub next_write-front-requires-2-clause-to : goal.next_write-front-requires-2-clause-to
next_write-front-requires-2-clause-to c = c.operand_laws.ensures.operand_on _ _ _ _ c.next_write-front.ensures.grows.extends c.requires.to

pub next_write-front-requires-3-clause-to : goal.next_write-front-requires-3-clause-to
next_write-front-requires-3-clause-to c =
    c.operand_laws.ensures.operand_on _ _ _ _ (extends_on _ _ _ c.next_write-front.ensures.grows.extends c.next_write-front-2.ensures.grows.extends)
    c.requires.to

pub next_write-requires-clause-to : goal.next_write-requires-clause-to
next_write-requires-clause-to c =
    let two = extends_on _ _ _ c.next_write-front.ensures.grows.extends c.next_write-front-2.ensures.grows.extends in
    c.operand_laws.ensures.operand_on _ _ _ _ (extends_on _ _ _ two c.next_write-front-3.ensures.grows.extends) c.requires.to

pub returns-clause-grows : goal.returns-clause-grows
returns-clause-grows c =
    let a = c.next_write-front.ensures.grows in
    let two = grows_on _ _ _ _ _ _ a c.next_write-front-2.ensures.grows (at_most _ _) in
    let three = grows_on _ _ _ _ _ _ two c.next_write-front-3.ensures.grows (at_most _ _) in
    grows_on _ _ _ _ _ _ three c.next_write.ensures.grows (omega arith)
