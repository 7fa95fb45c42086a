use Rattle.std.proofs.Common.{◌∙◌, sym, arith}
use Rattle.dxbc_container.proofs.Tags.{meets, passes}
use Rattle.dxbc_container.proofs.reader.next_tagged.Goals as goal

pub returns-then-chunk-tag : goal.returns-then-chunk-tag
returns-then-chunk-tag c = (
  omega arith,
  sym c.loop-i.invariant ∙ meets c.args.bytes.now c.args.tag c.loop-i.i (omega arith) (sym c.chunk.ensures.chunk.named ∙ c.if-chunk-tag.true),
)

pub loop-i-preserved : goal.loop-i-preserved
loop-i-preserved c =
    passes c.args.bytes.now c.args.tag c.loop-i.i (omega arith) (λ e. c.if-chunk-tag.false (c.chunk.ensures.chunk.named ∙ e)) ∙ c.loop-i.invariant
