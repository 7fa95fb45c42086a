use Rattle.std.proofs.Common.{◌≡◌, ◌*◌, ◌≤◌, ◌++◌}
use Rattle.std.specs.Prelude.{Contains}
use Rattle.root_signature.specs.Covering.{each, words_before}
use Rattle.root_signature.specs.Refusals.{part_refusals, head_refusals}
use Rattle.root_signature.specs.Bests.{IsBest}
use Rattle.root_signature.proofs.refusals.listed_refusal.Given as goal

abbrev pub invariant-loop-i : goal.invariant-loop-i
invariant-loop-i l = record {
  best : IsBest (Contains (head_refusals l.content ++ each l.i (part_refusals l.content))) l.best;
  words : l.words ≡ words_before l.content l.i;
  bound : l.words ≤ 4294967295 * l.i;
}
