use Rattle.raise_views.proofs.Growing.{extends_on, grows_four}
use Rattle.raise_views.proofs.chains.stores_bare.Goals as goal

pub next_bare_store-front-requires-2-clause-from : goal.next_bare_store-front-requires-2-clause-from
next_bare_store-front-requires-2-clause-from c = c.operand_laws.ensures.operand_on _ _ _ _ c.next_bare_store-front.ensures.grows.extends
    c.requires.from

pub next_bare_store-front-requires-3-clause-from : goal.next_bare_store-front-requires-3-clause-from
next_bare_store-front-requires-3-clause-from c =
    c.operand_laws.ensures.operand_on _ _ _ _
    (extends_on _ _ _ c.next_bare_store-front.ensures.grows.extends c.next_bare_store-front-2.ensures.grows.extends) c.requires.from

pub next_bare_store-requires-clause-from : goal.next_bare_store-requires-clause-from
next_bare_store-requires-clause-from c =
    let two = extends_on _ _ _ c.next_bare_store-front.ensures.grows.extends c.next_bare_store-front-2.ensures.grows.extends in
    c.operand_laws.ensures.operand_on _ _ _ _ (extends_on _ _ _ two c.next_bare_store-front-3.ensures.grows.extends) c.requires.from

pub returns-clause-grows : goal.returns-clause-grows
returns-clause-grows c = grows_four _ _ _ _ _ _ c.next_bare_store-front.ensures.grows c.next_bare_store-front-2.ensures.grows
    c.next_bare_store-front-3.ensures.grows c.next_bare_store.ensures.grows
