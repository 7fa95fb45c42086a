use Rattle.std.proofs.Common.{refl}
use Rattle.raise_alu.proofs.words.three_sources.Goals as goal

pub source-third-requires-clause-operand : goal.source-third-requires-clause-operand
source-third-requires-clause-operand c = c.operand_laws.ensures.operand_on _ _ _ _ c.two_sources-first.ensures.grows.extends c.requires.c

pub returns-clause-grows : goal.returns-clause-grows
returns-clause-grows c = c.growing_laws.ensures.grows_on _ _ _ _ _ _ c.two_sources-first.ensures.grows c.source-third.ensures.grows refl

pub returns-clause-a : goal.returns-clause-a
returns-clause-a c = c.growing_laws.ensures.value_on _ _ _ _ c.source-third.ensures.grows.extends c.two_sources-first.ensures.a

pub returns-clause-b : goal.returns-clause-b
returns-clause-b c = c.growing_laws.ensures.value_on _ _ _ _ c.source-third.ensures.grows.extends c.two_sources-first.ensures.b
