use Rattle.std.proofs.Common.{refl, ◌∙◌, arith}
use Rattle.dispatch_machine.specs.declared.driver.Stepped.TheVariants as stepped
use Rattle.dispatch_machine.specs.declared.lane.Next.TheVariants as next
use Rattle.dispatch_machine.proofs.Drives.{reached_more, stopped, spent}
use Rattle.dispatch_machine.proofs.driver.drive.Goals as goal

pub returns-in-Event-clause-found : goal.returns-in-Event-clause-found
returns-in-Event-clause-found g c =
    stopped (g.M.Stepwise.step c.args.machine.now) (g.M.Stepwise.step c.loop-steps.machine) (g.M.Stepwise.position c.args.machine.now)
    (g.M.Stepwise.position c.loop-steps.machine) (g.M.Stepwise.position c.step_once.new.self) c.args.fuel c.loop-steps.steps
    (stepped.Event c.in-Event.event) (next.Event c.in-Event.event) (omega arith) c.loop-steps.invariant.step
    c.loop-steps.invariant.reached c.in-Event.ensures.stepped refl

pub returns-in-Ended-clause-found : goal.returns-in-Ended-clause-found
returns-in-Ended-clause-found g c =
    stopped (g.M.Stepwise.step c.args.machine.now) (g.M.Stepwise.step c.loop-steps.machine) (g.M.Stepwise.position c.args.machine.now)
    (g.M.Stepwise.position c.loop-steps.machine) (g.M.Stepwise.position c.step_once.new.self) c.args.fuel c.loop-steps.steps
    stepped.Ended next.Ended (omega arith) c.loop-steps.invariant.step
    c.loop-steps.invariant.reached c.in-Ended.ensures.stepped refl

pub returns-in-Wrong-clause-found : goal.returns-in-Wrong-clause-found
returns-in-Wrong-clause-found g c =
    stopped (g.M.Stepwise.step c.args.machine.now) (g.M.Stepwise.step c.loop-steps.machine) (g.M.Stepwise.position c.args.machine.now)
    (g.M.Stepwise.position c.loop-steps.machine) (g.M.Stepwise.position c.step_once.new.self) c.args.fuel c.loop-steps.steps
    (stepped.Wrong c.in-Wrong.strict) (next.Wrong c.in-Wrong.strict) (omega arith) c.loop-steps.invariant.step
    c.loop-steps.invariant.reached c.in-Wrong.ensures.stepped refl

pub returns-clause-found : goal.returns-clause-found
returns-clause-found g c =
    spent (g.M.Stepwise.step c.args.machine.now) (g.M.Stepwise.position c.args.machine.now) (g.M.Stepwise.position c.loop-steps.machine)
    c.args.fuel c.loop-steps.steps (omega arith) (omega arith) c.loop-steps.invariant.reached

pub loop-steps-preserved : goal.loop-steps-preserved
loop-steps-preserved g c = record {
  step = c.in-Silent.ensures.step ∙ c.loop-steps.invariant.step;
  setting = c.in-Silent.ensures.setting ∙ c.loop-steps.invariant.setting;
  reached = reached_more (g.M.Stepwise.step c.args.machine.now) (g.M.Stepwise.step c.loop-steps.machine) (g.M.Stepwise.position c.args.machine.now)
      (g.M.Stepwise.position c.loop-steps.machine) (g.M.Stepwise.position c.step_once.new.self) c.loop-steps.steps
      c.loop-steps.invariant.step c.loop-steps.invariant.reached c.in-Silent.ensures.stepped;
}
