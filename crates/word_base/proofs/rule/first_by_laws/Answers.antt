use Rattle.word_base.proofs.Least.{none, some, single}
use Rattle.word_base.proofs.rule.first_by_laws.Goals as goal

pub returns-clause-none : goal.returns-clause-none
returns-clause-none g c key = none key

pub returns-clause-some : goal.returns-clause-some
returns-clause-some g c key = some key

pub returns-clause-single : goal.returns-clause-single
returns-clause-single g c key = single key
