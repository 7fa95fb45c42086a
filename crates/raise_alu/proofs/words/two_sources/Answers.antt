use Rattle.std.proofs.Common.{refl}
use Rattle.raise_alu.proofs.words.two_sources.Goals as goal

pub source-second-requires-clause-operand : goal.source-second-requires-clause-operand
source-second-requires-clause-operand c = c.operand_laws.ensures.operand_on _ _ _ _ c.source-first.ensures.grows.extends c.requires.b

pub returns-clause-grows : goal.returns-clause-grows
returns-clause-grows c = c.growing_laws.ensures.grows_on _ _ _ _ _ _ c.source-first.ensures.grows c.source-second.ensures.grows refl

pub returns-clause-a : goal.returns-clause-a
returns-clause-a c = c.growing_laws.ensures.value_on _ _ _ _ c.source-second.ensures.grows.extends c.source-first.ensures.makes
