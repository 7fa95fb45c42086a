use Rattle.std.proofs.Common.{Some, sym, ap, ◌∙◌, ◌≤◌, length, arith, List}
use Rattle.std.specs.Option.{option_map}
use Rattle.std.proofs.lemmas.List.{take_all}
use Rattle.word_base.specs.declared.rule.Rule.TheVariants.{B1}
use Rattle.word_base.specs.Rules.{refusal}
use Rattle.tpf_program.specs.declared.declaration.Declared.{Declared}
use Rattle.binding_map.specs.Completeness.{lesser_place}
use Rattle.binding_map.proofs.Least.{least, unbound_places, least_with, least_without, first_unbound}
use Rattle.binding_map.proofs.completeness.least_unbound.Goals as goal
use Rattle.binding_map.proofs.completeness.least_unbound.Goals.{then-lacks_binding, else-lacks_binding}

pub loop-i-preserved : goal.loop-i-preserved
loop-i-preserved c =
    let declarations : List Declared = c.args.program.now.shader.declarations in
    elim c.if-lacks_binding.branch [
      | then-lacks_binding w ↦
          w.least-is ∙ (ap Some (w.lesser.ensures ∙ ap (λ l. lesser_place l c.declaration-declared.result.place) c.loop-i.invariant)
          ∙ sym (least_with c.args.bindings.now declarations c.loop-i.i c.declaration-declared.result c.declaration-declared.ensures (sym c.lacks_binding.ensures ∙ w.if-lacks_binding.true)))
      | else-lacks_binding w ↦
          w.least-is ∙ (c.loop-i.invariant
          ∙ sym (least_without c.args.bindings.now declarations c.loop-i.i c.declaration-declared.result c.declaration-declared.ensures (sym c.lacks_binding.ensures ∙ w.if-lacks_binding.false)))
    ]

pub returns : goal.returns
returns c =
    let declarations : List Declared = c.args.program.now.shader.declarations in
    let last : length declarations ≤ c.loop-i.i = omega (arith, c.loop-i-test.false, c.declarations-i-end.ensures) in
    ap (option_map (refusal B1)) (c.loop-i.invariant ∙ ap (λ l. least (unbound_places c.args.bindings.now l)) (take_all c.loop-i.i declarations last))
    ∙ first_unbound c.args.bindings.now declarations
