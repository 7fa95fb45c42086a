use Rattle.shader_check.specs.Checked.{checked_refusals}
use Rattle.shader_check.proofs.NestedStatements.{are_nested, have_meanings}
use Rattle.shader_check.proofs.SoundFacts.{none_first, are_declared, are_used, structure}
use Rattle.shader_check.proofs.laws.checked_laws.Goals as goal

pub returns-clause-sound : goal.returns-clause-sound
returns-clause-sound c = λ p h. none_first (checked_refusals p) h

pub returns-clause-declared : goal.returns-clause-declared
returns-clause-declared c = are_declared

pub returns-clause-used : goal.returns-clause-used
returns-clause-used c = are_used

pub returns-clause-known : goal.returns-clause-known
returns-clause-known c = have_meanings

pub returns-clause-nested : goal.returns-clause-nested
returns-clause-nested c = λ p k h. are_nested p k (structure p h)
