use Rattle.shader_tree.proofs.LiteralLemmas.{of_words}
use Rattle.shader_tree.proofs.WordLemmas.{results_of, value_word}
use Rattle.shader_tree.proofs.WordSteps.{step_keeps}
use Rattle.shader_tree.proofs.laws.word_laws.Goals as goal

pub returns-clause-literals : goal.returns-clause-literals
returns-clause-literals c = of_words

pub returns-clause-value : goal.returns-clause-value
returns-clause-value c g s t e w given holds o is =
    let law = c.result_laws.ensures in
    let results = results_of law.unary law.binary law.ternary law.insert law.first law.second in
    value_word results g s t given holds e w o is

pub returns-clause-step : goal.returns-clause-step
returns-clause-step c g s x given h =
    let law = c.result_laws.ensures in
    let results = results_of law.unary law.binary law.ternary law.insert law.first law.second in
    step_keeps results g s given x h
