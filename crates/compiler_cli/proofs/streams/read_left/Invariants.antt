use Rattle.std.proofs.Common.{◌≡◌, ◌-◌, ◌≤◌}
use Rattle.std.specs.Prelude.{vec_len}
use Rattle.outside.specs.Told.{KeepsOutputs}
use Rattle.compiler_cli.specs.Streams.{most_read}
use Rattle.compiler_cli.proofs.Arrived.{Came}
use Rattle.compiler_cli.proofs.streams.read_left.Given as goal

abbrev pub invariant-loop-piece : goal.invariant-loop-piece
invariant-loop-piece g l = record {
  within : vec_len l.bytes ≤ most_read;
  came : Came (g.D.Desk.told l.fn.desk).left l.bytes.items (g.D.Desk.told l.desk).left;
  kept : KeepsOutputs (g.D.Desk.told l.fn.desk) (g.D.Desk.told l.desk);
  same : (g.D.Desk.told l.desk).faults ≡ (g.D.Desk.told l.fn.desk).faults;
}

abbrev pub decreases-loop-piece : goal.decreases-loop-piece
decreases-loop-piece g l = most_read - vec_len l.bytes
