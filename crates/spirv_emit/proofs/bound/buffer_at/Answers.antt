use Rattle.std.proofs.Common.{sym, ◌∙◌, subst, arith, suc, ◌+◌, ◌≡◌, drop}
use Rattle.spirv_emit.specs.Emission.{buffer_of}
use Rattle.spirv_emit.proofs.Buffers.{here, further}
use Rattle.spirv_emit.proofs.bound.buffer_at.Goals as goal

pub returns-then-buffer-slot : goal.returns-then-buffer-slot
returns-then-buffer-slot c =
    sym c.loop-i.invariant ∙ here c.args.buffers.now.list c.loop-i.i c.args.slot c.get-buffer.result c.get-buffer.ensures c.if-buffer-slot.true

pub loop-i-preserved : goal.loop-i-preserved
loop-i-preserved c =
    let e : suc c.loop-i.i ≡ c.loop-i.i + 1 = omega arith in
    subst (λ n. buffer_of (drop n c.args.buffers.now.list) c.args.slot ≡ buffer_of c.args.buffers.now.list c.args.slot) e
    (further c.args.buffers.now.list c.loop-i.i c.args.slot c.get-buffer.result c.get-buffer.ensures c.if-buffer-slot.false ∙ c.loop-i.invariant)
