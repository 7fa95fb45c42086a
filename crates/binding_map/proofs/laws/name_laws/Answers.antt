use Rattle.binding_map.proofs.RegisterNames.{name_again, name_bounded, name_word}
use Rattle.binding_map.proofs.laws.name_laws.Goals as goal

pub returns-clause-again : goal.returns-clause-again
returns-clause-again c = name_again

pub returns-clause-word : goal.returns-clause-word
returns-clause-word c = name_word

pub returns-clause-bounded : goal.returns-clause-bounded
returns-clause-bounded c name r = name_bounded r name
