use Rattle.std.proofs.Common.{◌≡◌, length, take, ◌-◌, ◌*◌, ◌≤◌}
use Rattle.outside.specs.Causes.{Gained}
use Rattle.word_base.specs.Words.{bytes_of}
use Rattle.translator.specs.Shown.{module_words}
use Rattle.compiler_cli.proofs.streams.write_module.Given as goal

abbrev pub invariant-loop-done : goal.invariant-loop-done
invariant-loop-done g l = record {
  whole : l.size ≡ 4 * length (module_words l.view);
  within : l.done ≤ l.size;
  gained : Gained (g.K.Sink.written l.fn.sink) (g.K.Sink.written l.sink) (take l.done (bytes_of (module_words l.view)));
  same : g.K.Sink.faults l.sink ≡ g.K.Sink.faults l.fn.sink;
  kept : g.K.Sink.kept l.sink ≡ g.K.Sink.kept l.fn.sink;
  nothing : l.done ≡ 0 → l.sink ≡ l.fn.sink;
}

abbrev pub decreases-loop-done : goal.decreases-loop-done
decreases-loop-done g l = l.size - l.done
