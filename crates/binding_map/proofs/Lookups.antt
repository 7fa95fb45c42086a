-- What the table looks up is where the map has a register.
use Rattle.std.proofs.Common.{◌≡◌, Bool, true, false, cond, List, [], ◌∷◌, Option, Some, None, refl, ap, ◌∙◌, find, ◌++◌}
use Rattle.std.specs.Map.{lookup}
use Rattle.std.specs.Option.{option_map}
use Rattle.binding_map.specs.contracts.register.RegisterPartialEq.TheImpl as derived
use Rattle.binding_map.specs.declared.register.Register.{Register}
use Rattle.binding_map.specs.declared.register.Register.TheVariants.{Constant, Resource, Uav, Counter}
use Rattle.binding_map.specs.declared.register.Place.{Place}
use Rattle.std.proofs.lemmas.List.{map-append}
use Rattle.indexmap.specs.IndexMap.{insert_entry}
use Rattle.indexmap.proofs.MapLemmas.{insert_entry-absent, absent_from_lookup}
use Rattle.binding_map.specs.Bindings.{Binding, binding, bindings_of, place_of, same_register}

pub equal_is : (a b : Register) → derived.eq-value.it a b ≡ same_register a b
equal_is (Constant a) (Constant b) = refl
equal_is (Constant a) (Resource b) = refl
equal_is (Constant a) (Uav b) = refl
equal_is (Constant a) (Counter b) = refl
equal_is (Resource a) (Constant b) = refl
equal_is (Resource a) (Resource b) = refl
equal_is (Resource a) (Uav b) = refl
equal_is (Resource a) (Counter b) = refl
equal_is (Uav a) (Constant b) = refl
equal_is (Uav a) (Resource b) = refl
equal_is (Uav a) (Uav b) = refl
equal_is (Uav a) (Counter b) = refl
equal_is (Counter a) (Constant b) = refl
equal_is (Counter a) (Resource b) = refl
equal_is (Counter a) (Uav b) = refl
equal_is (Counter a) (Counter b) = refl

chosen : (test : Bool) (b : Binding) (rest : Option Binding)
    → cond test (Some b.place) (option_map (λ c. c.place) rest) ≡ option_map (λ c. c.place) (cond test (Some b) rest)
chosen true b rest = refl
chosen false b rest = refl

pub looked_up : (register : Register) (entries : List (Register × Place))
    → lookup (derived.eq-value.it register) entries ≡ place_of (bindings_of entries) register
looked_up register [] = refl
looked_up register (e ∷ entries) =
    ap (λ test. cond test (Some e.1) (lookup (derived.eq-value.it register) entries)) (equal_is register e.0)
    ∙ (ap (cond (same_register register e.0) (Some e.1)) (looked_up register entries)
    ∙ chosen (same_register register e.0) (binding e.0 e.1) (find (λ b. same_register register b.register) (bindings_of entries)))

-- a register that is inserted goes last
pub inserted : (register : Register) (place : Place) (entries new : List (Register × Place))
    → new ≡ insert_entry derived.eq-value.it entries register place → place_of (bindings_of entries) register ≡ None
    → bindings_of new ≡ bindings_of entries ++ binding register place ∷ []
inserted register place entries new e none =
    let absent : lookup (derived.eq-value.it register) entries ≡ None = looked_up register entries ∙ none in
    ap bindings_of (e ∙ insert_entry-absent derived.eq-value.it register place entries (absent_from_lookup (derived.eq-value.it register) entries absent))
    ∙ map-append (λ e. binding e.0 e.1) entries ((register, place) ∷ [])
