use Rattle.std.proofs.Common.{◌≡◌, take}
use Rattle.outside.specs.Causes.{Gained}
use Rattle.compiler_cli.specs.Texts.{joined}
use Rattle.compiler_cli.proofs.report.write_parts.Given as goal

abbrev pub invariant-loop-part : goal.invariant-loop-part
invariant-loop-part g l = record {
  gained : Gained (g.K.Sink.written l.fn.sink) (g.K.Sink.written l.sink) (joined (take l.part-index l.parts));
  same : g.K.Sink.faults l.sink ≡ g.K.Sink.faults l.fn.sink;
}
