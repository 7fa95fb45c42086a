use Rattle.std.proofs.Common.{◌≡◌, drop}
use Rattle.spirv_emit.specs.Emission.{buffer_of}
use Rattle.spirv_emit.proofs.bound.buffer_at.Given as goal

abbrev pub invariant-loop-i : goal.invariant-loop-i
invariant-loop-i l = buffer_of (drop l.i l.buffers.list) l.slot ≡ buffer_of l.buffers.list l.slot
