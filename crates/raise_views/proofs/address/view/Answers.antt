use Rattle.raise_views.proofs.Passing.{here, later}
use Rattle.raise_views.proofs.address.view.Goals as goal

pub returns-in-Some : goal.returns-in-Some
returns-in-Some c =
    here c.args.kind c.args.slot c.args.program.now.shader.declarations c.loop-i.i c.declaration.result c.in-Some.view _ c.declaration.ensures
    c.declared_view.ensures c.in-Some.is c.loop-i.invariant

pub loop-i-preserved : goal.loop-i-preserved
loop-i-preserved c =
    later c.args.kind c.args.slot c.args.program.now.shader.declarations c.loop-i.i c.declaration.result _ c.declaration.ensures
    c.declared_view.ensures c.in_default.is c.loop-i.invariant
