use Rattle.std.proofs.Common.{ℕ, List, subst₂}
use Rattle.command_line.specs.Shown.{job_shown}
use Rattle.compiler_cli.specs.Parts.{Translates}
use Rattle.compiler_cli.specs.Run.{outside}
use Rattle.compiler_cli.proofs.Runs.{ends, not_come}
use Rattle.compiler_cli.proofs.run.perform.Goals as goal

pub returns-in-Ok : goal.returns-in-Ok
returns-in-Ok g c =
    let job = job_shown c.args.command in
    let mid = outside (g.D.Desk.told c.read_files.new.desk) (g.O.Sink.written c.args.out.now)
    (g.O.Sink.faults c.args.out.now) in
    let new = outside (g.D.Desk.told c.translate_to.new.desk) (g.O.Sink.written c.translate_to.new.out)
    (g.O.Sink.faults c.translate_to.new.out) in
    ends job c.in-Ok.files.input.items c.in-Ok.files.bindings.items (g.D.Desk.told c.args.desk.now)
    (g.D.Desk.told c.read_files.new.desk)
    c.in-Ok.ensures.came c.read_files.ensures.kept new (g.O.Sink.written c.args.out.now)
    (g.O.Sink.faults c.args.out.now) c.translate_to.result
    (subst₂ (λ (x y : List ℕ). Translates job mid new x y c.translate_to.result) c.as_slice-input.ensures.value
    c.as_slice.ensures.value
    c.translate_to.ensures)

pub returns-in-Err : goal.returns-in-Err
returns-in-Err g c =
    not_come (job_shown c.args.command) (g.D.Desk.told c.args.desk.now) (g.D.Desk.told c.read_files.new.desk) _ _
    c.in-Err.failure
    c.read_files.ensures.kept c.in-Err.ensures.failed
