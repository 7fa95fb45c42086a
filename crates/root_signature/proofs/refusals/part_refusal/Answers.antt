use Rattle.std.proofs.Common.{subst, sym}
use Rattle.std.specs.Prelude.{Contains}
use Rattle.root_signature.specs.Refusals.{parameter_refusals, push_refusals, part_refusals}
use Rattle.root_signature.specs.Bests.{IsBest}
use Rattle.root_signature.proofs.Bests.{best_appended}
use Rattle.root_signature.proofs.refusals.part_refusal.Goals as goal

pub returns : goal.returns
returns c =
    subst (IsBest (Contains (part_refusals c.args.content.now c.args.i))) (sym c.merged.ensures)
    (best_appended (parameter_refusals c.args.content.now c.args.i) (push_refusals c.args.content.now c.args.i) c.parameter_refusal-shape.result c.push_refusal-push.result
    c.parameter_refusal-shape.ensures c.push_refusal-push.ensures)
