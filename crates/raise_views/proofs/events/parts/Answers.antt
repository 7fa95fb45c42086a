use Rattle.std.proofs.Common.{sym, ap, ◌∙◌}
use Rattle.raise_operands.specs.Building.{step_of}
use Rattle.raise_operands.specs.Raising.{chained_from}
use Rattle.raise_operands.specs.Vectors.{spaces_of}
use Rattle.raise_views.specs.Guarding.{parts_by}
use Rattle.raise_views.proofs.Growing.{as_step}
use Rattle.raise_views.proofs.Joining.{stores_same}
use Rattle.raise_views.proofs.events.parts.Goals as goal

pub returns-in-StoreRaw-clause-makes : goal.returns-in-StoreRaw-clause-makes
returns-in-StoreRaw-clause-makes c =
    let g = spaces_of c.args.program.now.shader in
    let s = step_of c.args.tree.now.nodes c.args.front in
    let o = c.requires.operands in
    as_step _ _ _ _ c.stores.ensures.makes
    (stores_same s c.args.reach g _ _ _ _ _ _ o.o0.argument o.o2.number o.o2.argument
    ∙ ap (λ m. chained_from s (parts_by m g c.args.reach c.args.os.now.instruction)) (sym c.in-StoreRaw.is))

pub returns-in-StoreStructured-clause-makes : goal.returns-in-StoreStructured-clause-makes
returns-in-StoreStructured-clause-makes c =
    let g = spaces_of c.args.program.now.shader in
    let s = step_of c.args.tree.now.nodes c.args.front in
    let o = c.requires.operands in
    as_step _ _ _ _ c.stores-in-StoreStructured.ensures.makes
    (stores_same s c.args.reach g _ _ _ _ _ _ o.o0.argument o.o3.number o.o3.argument
    ∙ ap (λ m. chained_from s (parts_by m g c.args.reach c.args.os.now.instruction)) (sym c.in-StoreStructured.is))
