use Rattle.std.proofs.Common.{not, ◌-◌, sym, ap, ◌∙◌}
use Rattle.std.specs.Prelude.{slice_get}
use Rattle.word_base.specs.Rules.{broken, first}
use Rattle.word_base.specs.declared.rule.Rule.TheVariants.{S9}
use Rattle.shader_check.proofs.NestedEnds.{last_told}
use Rattle.shader_check.proofs.nested.ends_in_return.Goals as goal

pub returns-then-returns : goal.returns-then-returns
returns-then-returns c =
    let t = last_told c.args.program.now.shader.words c.args.program.now.shader.instructions c.instruction-last.result (sym c.requires.closed)
    (ap (λ n. slice_get c.args.program.now.shader.instructions (n - 1)) (sym c.instructions-count.ensures.count) ∙ c.instruction-last.ensures) in
    sym (t ∙ ap (λ b. first (broken (not b) S9 c.instruction-last.result.place)) (sym c.returns.ensures ∙ c.if-returns.true))

pub returns-else-returns : goal.returns-else-returns
returns-else-returns c =
    let t = last_told c.args.program.now.shader.words c.args.program.now.shader.instructions c.instruction-last.result (sym c.requires.closed)
    (ap (λ n. slice_get c.args.program.now.shader.instructions (n - 1)) (sym c.instructions-count.ensures.count) ∙ c.instruction-last.ensures) in
    sym (t ∙ ap (λ b. first (broken (not b) S9 c.instruction-last.result.place)) (sym c.returns.ensures ∙ c.if-returns.false))
