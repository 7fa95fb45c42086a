use Rattle.std.proofs.Common.{◌≡◌, ◌+◌, ◌*◌, ◌≤◌, length}
use Rattle.root_signature.specs.Covering.{covered_below, words_before}
use Rattle.root_signature.specs.Thinning.{Finds, IsReadyIn, room_of}
use Rattle.root_signature.proofs.entries.all_entries.Given as goal

abbrev pub invariant-loop-i : goal.invariant-loop-i
invariant-loop-i l = record {
  found : Finds l.content (covered_below l.content l.i) (words_before l.content l.i) l.found;
  ready : IsReadyIn l.content l.found;
  words : l.words ≡ words_before l.content l.i;
  bound : l.words ≤ 4294967295 * l.i;
  room : room_of l.found ≤ length l.content + l.i;
}
