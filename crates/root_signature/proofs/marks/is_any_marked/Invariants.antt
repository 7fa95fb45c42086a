use Rattle.std.proofs.Common.{◌≡◌, ℕ, ◌<◌, ◌≤◌, slice_index}
use Rattle.root_signature.proofs.marks.is_any_marked.Given as goal

abbrev pub invariant-loop-at : goal.invariant-loop-at
invariant-loop-at l = (at : ℕ) → l.from ≤ at → at < l.at → slice_index l.marks at ≡ 0
