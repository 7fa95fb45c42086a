use Rattle.std.proofs.Common.{◌≡◌, subst, IfOk}
use Rattle.binding_map.specs.Defaults.{numbered}
use Rattle.binding_map.proofs.Whole.{marked_are}
use Rattle.binding_map.proofs.defaults.from_default.Goals as goal

pub returns : goal.returns
returns c =
    subst (λ l. IfOk c.bind.result (λ bindings. bindings ≡ numbered 0 l)) (marked_are c.args.program.now.shader c.of.result c.of.ensures) c.bind.ensures
