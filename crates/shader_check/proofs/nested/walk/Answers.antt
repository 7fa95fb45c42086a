use Rattle.std.proofs.Common.{◌≡◌, length, ◌+◌, sym, ap, ◌∙◌, arith, refl, Some}
use Rattle.std.specs.Prelude.{nat_eq}
use Rattle.word_base.specs.Rules.{refusal}
use Rattle.shader_check.specs.Nested.{at_end}
use Rattle.shader_check.proofs.NestedWalks.{walk_start, walk_more, walk_stops, walk_ends}
use Rattle.shader_check.proofs.nested.walk.Goals as goal

pub loop-q-init : goal.loop-q-init
loop-q-init c = walk_start c.args.program.now.shader.instructions c.none-nesting.result c.none-nesting.ensures.around c.none-nesting.ensures.outer

pub returns-in-Some-clause-refused : goal.returns-in-Some-clause-refused
returns-in-Some-clause-refused c =
    let place = c.instruction-instruction.result.place in
    ap (λ r. Some (refusal r place)) (c.counted-rule.ensures ∙ ap (λ n. at_end (nat_eq (c.loop-q.q + 1) n) c.in-Some.rule) c.instructions-count.ensures.count)
    ∙ walk_stops c.args.program.now.shader.instructions c.loop-q.q c.loop-q.nesting c.loop-q.invariant c.instruction-instruction.result c.instruction-instruction.ensures
    c.args.program.now.shader refl c.requires.order c.in-Some.rule (sym c.visit.ensures.rule ∙ c.in-Some.is)

pub loop-q-preserved : goal.loop-q-preserved
loop-q-preserved c =
    walk_more c.args.program.now.shader.instructions c.loop-q.q c.loop-q.nesting c.loop-q.invariant c.instruction-instruction.result c.instruction-instruction.ensures
    c.visit.new.nesting (sym c.visit.ensures.rule ∙ c.in_default.is) c.in_default.ensures.next

pub returns-clause-passed : goal.returns-clause-passed
returns-clause-passed c =
    let end : c.loop-q.q ≡ length c.args.program.now.shader.instructions = omega (arith, c.loop-q-test.false, c.instructions-count.ensures.count, c.loop-q.auto.q-end) in
    walk_ends c.args.program.now.shader.instructions c.loop-q.q c.loop-q.nesting c.loop-q.invariant end c.outermost.result c.outermost.ensures
