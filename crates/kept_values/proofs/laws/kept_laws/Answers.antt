use Rattle.std.proofs.Common.{ap, ◌∙◌, sym}
use Rattle.kept_values.specs.Numbers.{has}
use Rattle.kept_values.proofs.Waits.{waits_element, last_is_element, all_clean}
use Rattle.kept_values.proofs.laws.kept_laws.Goals as goal

pub returns-clause-element : goal.returns-clause-element
returns-clause-element c = λ t n h. waits_element t n h

pub returns-clause-none : goal.returns-clause-none
returns-clause-none c = λ t n e h. absurd (cc (sym (waits_element t n h) ∙ ap (λ xs. has xs n) e))

pub returns-clause-last : goal.returns-clause-last
returns-clause-last c = last_is_element

pub returns-clause-all : goal.returns-clause-all
returns-clause-all c = all_clean
