use Rattle.std.proofs.Common.{refl}
use Rattle.raise_alu.proofs.words.three.Goals as goal

pub returns-clause-grows : goal.returns-clause-grows
returns-clause-grows c = c.growing_laws.ensures.grows_on _ _ _ _ _ _ c.three_sources-first.ensures.grows c.ternary.ensures.grows refl
