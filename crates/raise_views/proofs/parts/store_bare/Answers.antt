use Rattle.raise_views.proofs.parts.store_bare.Goals as goal

pub store_of-requires-clause-from : goal.store_of-requires-clause-from
store_of-requires-clause-from c = c.operand_laws.ensures.operand_on _ _ _ _ c.base-word.ensures.grows.extends c.requires.from
