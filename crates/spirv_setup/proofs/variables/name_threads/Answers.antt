use Rattle.std.proofs.Common.{sym, ◌∙◌, subst}
use Rattle.std.specs.Prelude.{option_map}
use Rattle.tpf_program.specs.declared.declaration.Declared.{Declared}
use Rattle.spirv_symbols.specs.declared.symbol.Symbol.TheVariants.{Input}
use Rattle.spirv_setup.specs.Describing.{of_some}
use Rattle.spirv_setup.specs.Naming.{MayName, NamesAll}
use Rattle.binding_map.specs.Wanted.{input_of}
use Rattle.spirv_setup.proofs.Distinct.{thread_one}
use Rattle.spirv_setup.proofs.Walked.{may_at, named_at}
use Rattle.spirv_setup.proofs.variables.name_threads.Goals as goal

pub name_some-requires-clause-may : goal.name_some-requires-clause-may
name_some-requires-clause-may c =
    subst (λ o. MayName c.loop-i.emitter (of_some o)) (sym c.thread_variable-variable.ensures)
    (may_at (λ (d : Declared). option_map (λ built_in. Input built_in) (input_of d.what)) c.args.program.now.shader.declarations c.loop-i.i
    c.declaration-declared.result c.declaration-declared.ensures c.args.emitter.now c.loop-i.emitter c.loop-i.invariant c.requires)

pub name_some-requires-clause-global : goal.name_some-requires-clause-global
name_some-requires-clause-global c = λ s e. thread_one c.declaration-declared.result.what s (sym c.thread_variable-variable.ensures ∙ e)

pub loop-i-preserved : goal.loop-i-preserved
loop-i-preserved c =
    named_at (λ (d : Declared). option_map (λ built_in. Input built_in) (input_of d.what)) c.args.program.now.shader.declarations c.loop-i.i
    c.declaration-declared.result c.declaration-declared.ensures c.args.emitter.now c.loop-i.emitter c.loop-i.invariant
    c.growth_laws.ensures.on c.name_some.new.emitter
    (subst (λ o. NamesAll c.loop-i.emitter c.name_some.new.emitter (of_some o)) c.thread_variable-variable.ensures c.name_some.ensures)
