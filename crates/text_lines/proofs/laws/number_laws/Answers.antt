use Rattle.text_lines.proofs.Digits.{decimal_word, number_again, number_small}
use Rattle.text_lines.proofs.laws.number_laws.Goals as goal

pub returns-clause-again : goal.returns-clause-again
returns-clause-again c = number_again

pub returns-clause-small : goal.returns-clause-small
returns-clause-small c = number_small

pub returns-clause-word : goal.returns-clause-word
returns-clause-word c = decimal_word
