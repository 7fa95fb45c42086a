use Rattle.std.proofs.Common.{inl, inr, refl, arith}
use Rattle.command_line.specs.Shown.{job_shown}
use Rattle.compiler_cli.proofs.Runs.{both_read}
use Rattle.compiler_cli.proofs.run.read_files.Goals as goal

pub returns-then-len-gt-MOST_BYTES-clause-failed : goal.returns-then-len-gt-MOST_BYTES-clause-failed
returns-then-len-gt-MOST_BYTES-clause-failed g c = record {
  input = c.in-Ok.bytes.items;
  file = c.in-Ok-read_bindings.bytes.items;
  read = both_read (job_shown c.args.command) (g.D.Desk.told c.args.desk.now) (g.D.Desk.told c.read_file.new.desk)
      (g.D.Desk.told c.read_bindings.new.desk) c.in-Ok.bytes.items c.in-Ok-read_bindings.bytes.items _
      c.read_file.ensures.kept
      c.in-Ok.ensures.quiet c.in-Ok-read_bindings.ensures.quiet c.in-Ok.ensures.whole
      c.in-Ok-read_bindings.ensures.whole;
  long = record { size = inl (omega arith); rule = refl };
}

pub returns-then-len-gt-MOST_BYTES-2-clause-failed : goal.returns-then-len-gt-MOST_BYTES-2-clause-failed
returns-then-len-gt-MOST_BYTES-2-clause-failed g c = record {
  input = c.in-Ok.bytes.items;
  file = c.in-Ok-read_bindings.bytes.items;
  read = both_read (job_shown c.args.command) (g.D.Desk.told c.args.desk.now) (g.D.Desk.told c.read_file.new.desk)
      (g.D.Desk.told c.read_bindings.new.desk) c.in-Ok.bytes.items c.in-Ok-read_bindings.bytes.items _
      c.read_file.ensures.kept
      c.in-Ok.ensures.quiet c.in-Ok-read_bindings.ensures.quiet c.in-Ok.ensures.whole
      c.in-Ok-read_bindings.ensures.whole;
  long = record { size = inr (omega arith); rule = refl };
}

pub returns-clause-came : goal.returns-clause-came
returns-clause-came g c = record {
  read = both_read (job_shown c.args.command) (g.D.Desk.told c.args.desk.now) (g.D.Desk.told c.read_file.new.desk)
      (g.D.Desk.told c.read_bindings.new.desk) c.in-Ok.bytes.items c.in-Ok-read_bindings.bytes.items _
      c.read_file.ensures.kept
      c.in-Ok.ensures.quiet c.in-Ok-read_bindings.ensures.quiet c.in-Ok.ensures.whole
      c.in-Ok-read_bindings.ensures.whole;
  taken = record { input_size = omega arith; file_size = omega arith };
  left = c.in-Ok-read_bindings.ensures.ended (omega arith) (c.in-Ok.ensures.ended (omega arith));
}
