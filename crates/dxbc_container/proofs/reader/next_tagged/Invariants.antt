use Rattle.std.proofs.Common.{◌≡◌}
use Rattle.dxbc_container.specs.Searches.{tagged_on}
use Rattle.dxbc_container.proofs.reader.next_tagged.Given as goal

abbrev pub invariant-loop-i : goal.invariant-loop-i
invariant-loop-i l = tagged_on l.bytes l.tag l.i ≡ tagged_on l.bytes l.tag l.fn.from
