use Rattle.std.proofs.Common.{◌<◌, subst, arith}
use Rattle.spirv_emit.specs.Begun.{IsPlaceThere}
use Rattle.spirv_emit.proofs.Buffers.{own, placed, slot_is, by_slot, none_pushed}
use Rattle.spirv_emit.proofs.emitter.Emitter.buffer_word.Goals as goal

pub uniform_word-requires-clause-buffer : goal.uniform_word-requires-clause-buffer
uniform_word-requires-clause-buffer c = own _ _ _ c.buffer_at-buffer.ensures

pub pushed_word-requires-clause-buffer : goal.pushed_word-requires-clause-buffer
pushed_word-requires-clause-buffer c = own _ _ _ c.buffer_at-buffer.ensures

pub uniform_word-requires-clause-there : goal.uniform_word-requires-clause-there
uniform_word-requires-clause-there c =
    subst (IsPlaceThere c.args.self.now.symbols.entries c.buffer_at-buffer.result.slot) c.in-Bound.is
    (placed c.args.self.now.symbols.entries _ c.buffer_at-buffer.result c.buffer_at-buffer.ensures c.requires.there)

pub pushed_word-requires-clause-there : goal.pushed_word-requires-clause-there
pushed_word-requires-clause-there c =
    subst (IsPlaceThere c.args.self.now.symbols.entries c.buffer_at-buffer.result.slot) c.in-Push.is
    (placed c.args.self.now.symbols.entries _ c.buffer_at-buffer.result c.buffer_at-buffer.ensures c.requires.there)
    (let own = c.if-count-eq0.false in omega (arith, own))

pub returns-in-Bound-clause-gives : goal.returns-in-Bound-clause-gives
returns-in-Bound-clause-gives c = by_slot c.args.self.now _ _ _ _ _ (slot_is _ _ _ c.buffer_at-buffer.ensures) c.uniform_word.ensures.gives

pub returns-then-count-eq0-clause-gives : goal.returns-then-count-eq0-clause-gives
returns-then-count-eq0-clause-gives c =
    by_slot c.args.self.now _ _ _ _ _ (slot_is _ _ _ c.buffer_at-buffer.ensures)
    (none_pushed c.args.self.now c.buffer_at-buffer.result c.in-Push.first c.in-Push.count c.args.index c.zero.result
    (own _ _ _ c.buffer_at-buffer.ensures) c.in-Push.is c.if-count-eq0.true c.requires.begun c.zero.ensures)

pub returns-else-count-eq0-clause-gives : goal.returns-else-count-eq0-clause-gives
returns-else-count-eq0-clause-gives c = by_slot c.args.self.now _ _ _ _ _ (slot_is _ _ _ c.buffer_at-buffer.ensures) c.pushed_word.ensures.gives
