use Rattle.std.proofs.Common.{◌≡◌, ℕ, ◌<◌, false}
use Rattle.dxbc_container.specs.Refusals.{is_outside}
use Rattle.dxbc_container.proofs.reader.chunks.Given as goal

abbrev pub invariant-loop-i : goal.invariant-loop-i
invariant-loop-i l = (k : ℕ) → k < l.i → is_outside l.bytes k ≡ false
