use Rattle.std.proofs.Common.{◌≡◌, [], ◌+◌, Some, arith, sym, ap, ◌∙◌, subst}
use Rattle.tpf_program.specs.Program.{AreApart, AreInOrder, Shader}
use Rattle.shader_check.specs.FirstRefusals.{or_refusal}
use Rattle.shader_check.specs.Things.{used_before}
use Rattle.word_base.specs.Rules.{refusal}
use Rattle.word_base.specs.declared.rule.Rule.TheVariants.{L4}
use Rattle.shader_check.proofs.FirstThings.{Answer, Ordered, Passed, none_passed, passed_on, stops, with_group, without_group}
use Rattle.shader_check.proofs.declarations.refused_things.Goals as goal
use Rattle.shader_check.proofs.declarations.refused_things.Goals.{After-with_uses, After-refused_before, After-with_uses-2}

ordered : (p : Shader) → p.typed ≡ [] → AreInOrder (λ d. d.place) p.words p.declarations → AreInOrder (λ i. i.place) p.words p.instructions
    → AreApart p.declarations p.instructions → Ordered p
ordered p u d i a = record { untyped = u; declarations = d; instructions = i; apart = a }

pub loop-i-init : goal.loop-i-init
loop-i-init c = λ o. none_passed c.args.program.now.shader o c.none-things.result c.none-things.ensures

pub loop-i-preserved : goal.loop-i-preserved
loop-i-preserved c = λ o.
    let p = c.args.program.now.shader in
    let d = c.declaration-declared.result in
    subst (Passed p o (c.loop-i.i + 1) c.with-taken.result.bytes c.with-taken.result.registers) (sym c.declare.ensures)
    (passed_on p o c.loop-i.i c.loop-i.taken.bytes c.loop-i.taken.registers c.loop-i.things (c.loop-i.invariant o) d c.declaration-declared.ensures
    c.earliest_place-earliest.result (c.earliest_place-earliest.ensures d.place (omega arith)) (sym c.rule_of_declaration.ensures ∙ c.in_default.is)
    c.with-taken.result.bytes c.with-taken.result.registers c.with-taken.ensures.bytes c.with-taken.ensures.registers)

at_rule : (c : After-with_uses) → Answer c.args.program.now.shader (Some c.with_uses.result)
at_rule c =
    let p = c.args.program.now.shader in
    let d = c.declaration-declared.result in
    let o = ordered p c.requires.untyped c.requires.declarations c.requires.instructions c.requires.apart in
    stops p o c.loop-i.i c.loop-i.taken.bytes c.loop-i.taken.registers c.loop-i.things (c.loop-i.invariant o) d c.declaration-declared.ensures
    c.earliest_place-earliest.result (c.earliest_place-earliest.ensures d.place (omega arith)) c.in-Some.rule (sym c.rule_of_declaration.ensures ∙ c.in-Some.is)
    c.with_uses.result c.with_uses.ensures

pub returns-in-Some-clause-first : goal.returns-in-Some-clause-first
returns-in-Some-clause-first c = (at_rule c).first

pub returns-in-Some-clause-phase : goal.returns-in-Some-clause-phase
returns-in-Some-clause-phase c = (at_rule c).phase

of_uses : (c : After-refused_before) → Answer c.args.program.now.shader c.refused_before.result
of_uses c =
    let p = c.args.program.now.shader in
    let o = ordered p c.requires.untyped c.requires.declarations c.requires.instructions c.requires.apart in
    subst (Answer p) (sym (c.refused_before.ensures ∙ ap (λ n. used_before c.loop-i.things n p.instructions) c.words-place.ensures))
    (with_group p o c.loop-i.i c.loop-i.taken.bytes c.loop-i.taken.registers c.loop-i.things (c.loop-i.invariant o)
    (omega (arith, c.loop-i-test.false, c.declarations-i-end.ensures)) (sym c.has.ensures ∙ c.if-has.true))

pub returns-then-has-clause-first : goal.returns-then-has-clause-first
returns-then-has-clause-first c = (of_uses c).first

pub returns-then-has-clause-phase : goal.returns-then-has-clause-phase
returns-then-has-clause-phase c = (of_uses c).phase

at_end : (c : After-with_uses-2) → Answer c.args.program.now.shader (Some c.with_uses-2.result)
at_end c =
    let p = c.args.program.now.shader in
    let o = ordered p c.requires.untyped c.requires.declarations c.requires.instructions c.requires.apart in
    without_group p o c.loop-i.i c.loop-i.taken.bytes c.loop-i.taken.registers c.loop-i.things (c.loop-i.invariant o)
    (omega (arith, c.loop-i-test.false, c.declarations-i-end.ensures)) (sym c.has.ensures ∙ c.if-has.false) c.with_uses-2.result
    (c.with_uses-2.ensures ∙ ap (λ n. or_refusal (used_before c.loop-i.things n p.instructions) (refusal L4 n)) c.words-place.ensures)

pub returns-clause-first : goal.returns-clause-first
returns-clause-first c = (at_end c).first

pub returns-clause-phase : goal.returns-clause-phase
returns-clause-phase c = (at_end c).phase
