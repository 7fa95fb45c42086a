use Rattle.std.proofs.Common.{sym, ◌∙◌}
use Rattle.tpf_program.specs.Sizes.{elements_declared}
use Rattle.tpf_program.proofs.Each.{size_here, size_later}
use Rattle.tpf_program.proofs.program.Program.elements.Goals as goal

pub returns-then-count-ne0 : goal.returns-then-count-ne0
returns-then-count-ne0 c =
    c.elements_at-count.ensures
    ∙ size_here (elements_declared c.args.slot) c.args.self.now.shader.declarations c.loop-i.i c.declaration.result c.declaration.ensures
    (λ e. c.if-count-ne0.true (c.elements_at-count.ensures ∙ e)) c.loop-i.invariant

pub loop-i-preserved : goal.loop-i-preserved
loop-i-preserved c =
    size_later (elements_declared c.args.slot) c.args.self.now.shader.declarations c.loop-i.i c.declaration.result c.declaration.ensures
    (sym c.elements_at-count.ensures ∙ c.if-count-ne0.false) c.loop-i.invariant
