use Rattle.std.proofs.Common.{sym, ◌∙◌}
use Rattle.tpf_program.specs.Extents.{words_declared}
use Rattle.tpf_program.proofs.Each.{size_here, size_later}
use Rattle.tpf_program.proofs.program.Program.shared_words.Goals as goal

pub returns-then-words-ne0 : goal.returns-then-words-ne0
returns-then-words-ne0 c =
    c.words_at-words.ensures
    ∙ size_here (words_declared c.args.slot) c.args.self.now.shader.declarations c.loop-i.i c.declaration.result c.declaration.ensures
    (λ e. c.if-words-ne0.true (c.words_at-words.ensures ∙ e)) c.loop-i.invariant

pub loop-i-preserved : goal.loop-i-preserved
loop-i-preserved c =
    size_later (words_declared c.args.slot) c.args.self.now.shader.declarations c.loop-i.i c.declaration.result c.declaration.ensures
    (sym c.words_at-words.ensures ∙ c.if-words-ne0.false) c.loop-i.invariant
