use Rattle.std.proofs.Common.{sym, subst}
use Rattle.spirv_setup.specs.Describing.{of_some}
use Rattle.spirv_setup.specs.Naming.{MayName, NamesAll}
use Rattle.spirv_setup.proofs.Walked.{name_one}
use Rattle.spirv_setup.proofs.variables.name_some.Goals as goal

pub returns-in-Some : goal.returns-in-Some
returns-in-Some c =
    let s = c.in-Some.symbol in
    subst (λ o. NamesAll c.args.emitter.now c.name.new.self (of_some o)) (sym c.in-Some.is)
    (name_one c.growth_laws.ensures.on c.args.emitter.now c.name.new.self s
    (subst (λ o. MayName c.args.emitter.now (of_some o)) c.in-Some.is c.requires.may) (c.requires.global s c.in-Some.is).1 c.name.ensures.names
    c.name.ensures.begun c.name.ensures.words c.name.ensures.ids)
