use Rattle.std.proofs.Common.{sym, ◌∙◌, subst}
use Rattle.spirv_setup.specs.Describing.{of_some}
use Rattle.spirv_setup.specs.Naming.{MayName, NamesAll}
use Rattle.spirv_setup.proofs.Distinct.{push_one}
use Rattle.spirv_setup.proofs.variables.name_push.Goals as goal

pub name_some-requires-clause-may : goal.name_some-requires-clause-may
name_some-requires-clause-may c = subst (λ o. MayName c.args.emitter.now (of_some o)) (sym c.push_variable-variable.ensures) c.requires

pub name_some-requires-clause-global : goal.name_some-requires-clause-global
name_some-requires-clause-global c = λ s e. push_one c.args.words s (sym c.push_variable-variable.ensures ∙ e)

pub returns : goal.returns
returns c = subst (λ o. NamesAll c.args.emitter.now c.name_some.new.emitter (of_some o)) c.push_variable-variable.ensures c.name_some.ensures
