use Rattle.word_base.specs.Rules.{key_of}
use Rattle.word_base.proofs.Least.{none, first_some, single}
use Rattle.word_base.proofs.rule.first_laws.Goals as goal

pub returns-clause-none : goal.returns-clause-none
returns-clause-none c = none key_of

pub returns-clause-some : goal.returns-clause-some
returns-clause-some c = first_some

pub returns-clause-single : goal.returns-clause-single
returns-clause-single c = single key_of
