use Rattle.std.proofs.Common.{◌≡◌}
use Rattle.dispatch_machine.proofs.Drives.{Reached}
use Rattle.dispatch_machine.proofs.driver.drive.Given as goal

abbrev pub invariant-loop-steps : goal.invariant-loop-steps
invariant-loop-steps g l = record {
  step : g.M.Stepwise.step l.machine ≡ g.M.Stepwise.step l.fn.machine;
  setting : g.M.Stepwise.setting l.machine ≡ g.M.Stepwise.setting l.fn.machine;
  reached : Reached (g.M.Stepwise.step l.fn.machine) (g.M.Stepwise.position l.fn.machine) l.steps (g.M.Stepwise.position l.machine);
}
