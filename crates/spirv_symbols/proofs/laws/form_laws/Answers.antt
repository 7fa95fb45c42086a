use Rattle.spirv_symbols.proofs.FormAll.{sorts_hold}
use Rattle.spirv_symbols.proofs.FormLocals.{variables_hold}
use Rattle.spirv_symbols.proofs.laws.form_laws.Goals as goal

pub returns-clause-sorts : goal.returns-clause-sorts
returns-clause-sorts x = λ c kind t cs body r b h. sorts_hold c kind t cs body r b h

pub returns-clause-variables : goal.returns-clause-variables
returns-clause-variables x = λ c kind t cs body r b p h. variables_hold c kind t cs body r b p h
