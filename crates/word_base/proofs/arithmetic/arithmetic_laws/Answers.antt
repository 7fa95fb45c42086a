use Rattle.word_base.proofs.Digits.{and_is, or_is, xor_is, ones_is, reversed_is, above_is, below_is}
use Rattle.word_base.proofs.arithmetic.arithmetic_laws.Goals as goal

pub returns-clause-and : goal.returns-clause-and
returns-clause-and c = and_is

pub returns-clause-or : goal.returns-clause-or
returns-clause-or c = or_is

pub returns-clause-xor : goal.returns-clause-xor
returns-clause-xor c = xor_is

pub returns-clause-ones : goal.returns-clause-ones
returns-clause-ones c = ones_is

pub returns-clause-reversed : goal.returns-clause-reversed
returns-clause-reversed c = reversed_is

pub returns-clause-above : goal.returns-clause-above
returns-clause-above c = above_is

pub returns-clause-below : goal.returns-clause-below
returns-clause-below c = below_is
