use Rattle.std.proofs.Common.{arith}
use Rattle.raise_views.proofs.Growing.{at_most, extends_on, grows_on}
use Rattle.raise_views.proofs.chains.stores_apart.Goals as goal

pub next_store-front-requires-2-clause-from : goal.next_store-front-requires-2-clause-from
next_store-front-requires-2-clause-from c = c.operand_laws.ensures.operand_on _ _ _ _ c.next_store-front.ensures.grows.extends c.requires.from

pub next_store-front-requires-3-clause-from : goal.next_store-front-requires-3-clause-from
next_store-front-requires-3-clause-from c =
    c.operand_laws.ensures.operand_on _ _ _ _ (extends_on _ _ _ c.next_store-front.ensures.grows.extends c.next_store-front-2.ensures.grows.extends)
    c.requires.from

pub next_store-requires-clause-from : goal.next_store-requires-clause-from
next_store-requires-clause-from c =
    let two = extends_on _ _ _ c.next_store-front.ensures.grows.extends c.next_store-front-2.ensures.grows.extends in
    c.operand_laws.ensures.operand_on _ _ _ _ (extends_on _ _ _ two c.next_store-front-3.ensures.grows.extends) c.requires.from

pub returns-clause-grows : goal.returns-clause-grows
returns-clause-grows c =
    let two = grows_on _ _ _ _ _ _ c.next_store-front.ensures.grows c.next_store-front-2.ensures.grows (at_most _ _) in
    let three = grows_on _ _ _ _ _ _ two c.next_store-front-3.ensures.grows (at_most _ _) in
    grows_on _ _ _ _ _ _ three c.next_store.ensures.grows (omega arith)
