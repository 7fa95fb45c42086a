use Rattle.std.proofs.Common.{subst}
use Rattle.binding_map.specs.Numbering.{register_in}
use Rattle.binding_map.specs.Roots.{want, place_at}
use Rattle.binding_map.specs.Joins.{MayJoin}
use Rattle.binding_map.proofs.Placed.{one_joins}
use Rattle.binding_map.proofs.root.Growing.bind.Goals as goal

pub add-requires : goal.add-requires
add-requires c = rw c.register.ensures
    (subst (λ w. MayJoin c.args.self.now.bindings (register_in c.args.group c.args.slot) (place_at c.args.self.now.next w)) c.in-Some.is
    (one_joins c.args.self.now (want (register_in c.args.group) c.args.words c.args.slot) c.requires))

pub add-requires-in-None : goal.add-requires-in-None
add-requires-in-None c = rw c.register-in-None.ensures
    (subst (λ w. MayJoin c.args.self.now.bindings (register_in c.args.group c.args.slot) (place_at c.args.self.now.next w)) c.in-None.is
    (one_joins c.args.self.now (want (register_in c.args.group) c.args.words c.args.slot) c.requires))
