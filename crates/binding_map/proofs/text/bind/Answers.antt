use Rattle.std.proofs.Common.{◌<◌, ◌^◌, sym, subst, ◌∙◌, rules}
use Rattle.binding_map.specs.Bindings.{slot_of}
use Rattle.binding_map.specs.Lines.{binding_of}
use Rattle.binding_map.specs.Texts.{is_past}
use Rattle.binding_map.proofs.TextRules.{may_join, suits, place_given}
use Rattle.binding_map.proofs.text.bind.Goals as goal

pub add-requires : goal.add-requires
add-requires c =
    let given = place_given (is_past (binding_of c.in-Names.named).place) c.in-Some.place (binding_of c.in-Names.named).place (sym c.in-Some.is ∙ c.place.ensures) in
    let word : slot_of (binding_of c.in-Names.named).register < 2 ^ 32 = subst (λ r. slot_of r < 2 ^ 32) c.register.ensures (search rules) in
    rw (c.register.ensures, given.1)
    (may_join c.args.bindings.now (binding_of c.in-Names.named) c.if-is_named.ensures.first (suits c.in-Names.named given.0) word c.requires.few)
