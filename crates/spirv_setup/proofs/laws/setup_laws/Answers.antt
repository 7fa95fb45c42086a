use Rattle.std.proofs.Common.{length, ap, ◌∙◌, arith}
use Rattle.word_base.specs.declared.event.Room.TheVariants as room
use Rattle.spirv_setup.proofs.Few.{few_in_all, interface_few, two_a_declaration}
use Rattle.spirv_setup.proofs.Fitting.{setting_fits}
use Rattle.spirv_setup.proofs.Owed.{same_spaces, names_there}
use Rattle.spirv_setup.proofs.Placed.{all_found, found_in, has_places}
use Rattle.spirv_setup.proofs.Wanting.{all_wanted, slots_found}
use Rattle.spirv_setup.proofs.laws.setup_laws.Goals as goal

pub returns-clause-fits : goal.returns-clause-fits
returns-clause-fits x = λ p bindings e es m separate h map su globals places fits.
    setting_fits p bindings h map (x.binding_laws.ensures.finds_each bindings map) (x.binding_laws.ensures.looks_up bindings) e su.described es
    (globals ∙ su.globals) m places fits separate

pub returns-clause-found : goal.returns-clause-found
returns-clause-found x = λ p bindings e es m h map su globals places fits.
    record {
      found = λ s y has.
          found_in e.frame.context m _ s places
          (all_found p bindings h e.frame.context su.described.variables (x.binding_laws.ensures.finds_each bindings map) es (globals ∙ su.globals)
          s y has);
      shared = slots_found p bindings es m (globals ∙ su.globals) places (λ slot. fits.rooms.extents (room.Shared slot));
    }

pub returns-clause-places : goal.returns-clause-places
returns-clause-places x = λ p bindings e es h map su globals.
    has_places p bindings h e.frame.context su.described.variables (x.binding_laws.ensures.finds_each bindings map) es (globals ∙ su.globals)

pub returns-clause-wanted : goal.returns-clause-wanted
returns-clause-wanted x = λ p bindings e es h map su globals.
    all_wanted p bindings h e.frame.context su.described.variables (x.binding_laws.ensures.finds_each bindings map) su.described.pushed es
    (globals ∙ su.globals)

pub returns-clause-spaces : goal.returns-clause-spaces
returns-clause-spaces x = λ p bindings e separate h complete su. same_spaces p bindings h complete e su.described separate

pub returns-clause-names : goal.returns-clause-names
returns-clause-names x = λ p bindings e o nodes id h map complete su opened named.
    names_there p bindings h map (x.binding_laws.ensures.looks_up bindings) complete e su o nodes opened x.growth_laws.ensures.kept id named

pub returns-clause-few : goal.returns-clause-few
returns-clause-few x = λ p bindings h map. two_a_declaration p bindings h map

pub returns-clause-interface : goal.returns-clause-interface
returns-clause-interface x = λ p bindings e es version h map su globals.
    let a = interface_few version es in let b = few_in_all p bindings h map in let n = ap length (globals ∙ su.globals) in omega (arith, a, b, n)

pub returns-clause-small : goal.returns-clause-small
returns-clause-small x = λ p bindings e su few. let n = ap length su.described.immediates in omega (arith, n, few)
