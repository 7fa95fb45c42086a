use Rattle.std.proofs.Common.{refl}
use Rattle.raise_alu.proofs.words.four_sources.Goals as goal

pub source-fourth-requires-clause-operand : goal.source-fourth-requires-clause-operand
source-fourth-requires-clause-operand c = c.operand_laws.ensures.operand_on _ _ _ _ c.three_sources-first.ensures.grows.extends c.requires.d

pub returns-clause-grows : goal.returns-clause-grows
returns-clause-grows c = c.growing_laws.ensures.grows_on _ _ _ _ _ _ c.three_sources-first.ensures.grows c.source-fourth.ensures.grows refl

pub returns-clause-a : goal.returns-clause-a
returns-clause-a c = c.growing_laws.ensures.value_on _ _ _ _ c.source-fourth.ensures.grows.extends c.three_sources-first.ensures.a

pub returns-clause-b : goal.returns-clause-b
returns-clause-b c = c.growing_laws.ensures.value_on _ _ _ _ c.source-fourth.ensures.grows.extends c.three_sources-first.ensures.b

pub returns-clause-c : goal.returns-clause-c
returns-clause-c c = c.growing_laws.ensures.value_on _ _ _ _ c.source-fourth.ensures.grows.extends c.three_sources-first.ensures.c
