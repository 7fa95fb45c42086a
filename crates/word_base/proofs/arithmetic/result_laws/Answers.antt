use Rattle.word_base.proofs.Bounds.{unary_word, binary_word, ternary_word, insert_word, first_word, second_word, act_word}
use Rattle.word_base.proofs.arithmetic.result_laws.Goals as goal

pub returns-clause-unary : goal.returns-clause-unary
returns-clause-unary c = unary_word

pub returns-clause-binary : goal.returns-clause-binary
returns-clause-binary c = binary_word

pub returns-clause-ternary : goal.returns-clause-ternary
returns-clause-ternary c = ternary_word

pub returns-clause-insert : goal.returns-clause-insert
returns-clause-insert c = insert_word

pub returns-clause-first : goal.returns-clause-first
returns-clause-first c = first_word

pub returns-clause-second : goal.returns-clause-second
returns-clause-second c = second_word

pub returns-clause-act : goal.returns-clause-act
returns-clause-act c = act_word
