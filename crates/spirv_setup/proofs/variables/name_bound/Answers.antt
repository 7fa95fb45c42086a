use Rattle.std.proofs.Common.{sym, ◌∙◌, subst}
use Rattle.binding_map.specs.Bindings.{Binding, binding}
use Rattle.spirv_setup.specs.Describing.{of_some}
use Rattle.spirv_setup.specs.Naming.{MayName, NamesAll}
use Rattle.spirv_setup.specs.Variables.{variable_at}
use Rattle.spirv_setup.proofs.Distinct.{bound_one}
use Rattle.spirv_setup.proofs.Walked.{may_at, named_at}
use Rattle.spirv_setup.proofs.variables.name_bound.Goals as goal

pub name_some-requires-clause-may : goal.name_some-requires-clause-may
name_some-requires-clause-may c =
    let b = binding c.at-register.result.0 c.at-register.result.1 in
    subst (λ o. MayName c.loop-i.emitter (of_some o)) (sym c.variable_at-variable.ensures)
    (may_at (λ (b : Binding). variable_at c.args.program.now.shader b.register b.place) c.args.bindings.now c.loop-i.i b c.at-register.ensures
    c.args.emitter.now c.loop-i.emitter c.loop-i.invariant c.requires)

pub name_some-requires-clause-global : goal.name_some-requires-clause-global
name_some-requires-clause-global c = λ s e.
    bound_one c.args.program.now.shader c.at-register.result.0 c.at-register.result.1 s (sym c.variable_at-variable.ensures ∙ e)

pub loop-i-preserved : goal.loop-i-preserved
loop-i-preserved c =
    let b = binding c.at-register.result.0 c.at-register.result.1 in
    named_at (λ (b : Binding). variable_at c.args.program.now.shader b.register b.place) c.args.bindings.now c.loop-i.i b c.at-register.ensures
    c.args.emitter.now c.loop-i.emitter c.loop-i.invariant c.growth_laws.ensures.on c.name_some.new.emitter
    (subst (λ o. NamesAll c.loop-i.emitter c.name_some.new.emitter (of_some o)) c.variable_at-variable.ensures c.name_some.ensures)
