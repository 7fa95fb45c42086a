use Rattle.std.proofs.Common.{sym, ◌∙◌}
use Rattle.tpf_program.specs.Sizes.{temps_declared}
use Rattle.tpf_program.proofs.Each.{size_here, size_later}
use Rattle.tpf_program.proofs.program.Program.temps.Goals as goal

pub returns-then-count-ne0 : goal.returns-then-count-ne0
returns-then-count-ne0 c =
    c.temps_at-count.ensures
    ∙ size_here temps_declared c.args.self.now.shader.declarations c.loop-i.i c.declaration.result c.declaration.ensures
    (λ e. c.if-count-ne0.true (c.temps_at-count.ensures ∙ e)) c.loop-i.invariant

pub loop-i-preserved : goal.loop-i-preserved
loop-i-preserved c =
    size_later temps_declared c.args.self.now.shader.declarations c.loop-i.i c.declaration.result c.declaration.ensures
    (sym c.temps_at-count.ensures ∙ c.if-count-ne0.false) c.loop-i.invariant
