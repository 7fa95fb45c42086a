use Rattle.std.proofs.Common.{◌≡◌, ap, ◌∙◌, sym, subst, ◌++◌, ◌∷◌, [], None}
use Rattle.binding_map.specs.Bindings.{binding, bindings_of, place_of, IsMap}
use Rattle.binding_map.specs.Joins.{MayJoin}
use Rattle.binding_map.proofs.Lookups.{inserted}
use Rattle.binding_map.proofs.Joined.{joined}
use Rattle.binding_map.proofs.bindings.Bindings.add.Goals as goal
use Rattle.binding_map.proofs.bindings.Bindings.add.Goals.{in-Ok, in-Err}

pub invariant_of-self : goal.invariant_of-self
invariant_of-self c =
    let free : MayJoin (bindings_of c.self.inside.map.entries) c.args.register c.args.place =
    subst (λ bindings. MayJoin bindings c.args.register c.args.place) (sym c.self.view_is) c.requires in
    elim c.match-insert.branch [
      | in-Ok w ↦
          subst IsMap (sym (inserted c.args.register c.args.place c.self.inside.map.entries c.insert.new.self.entries w.in-Ok.ensures.entries free.absent))
          (joined (bindings_of c.self.inside.map.entries) c.args.register c.args.place c.self.invariant free)
      | in-Err w ↦ subst (λ entries. IsMap (bindings_of entries)) (sym w.in-Err.ensures.err) c.self.invariant
    ]

pub returns-clause-ok : goal.returns-clause-ok
returns-clause-ok c =
    elim c.match-insert.branch [
      | in-Ok w ↦
          let absent : place_of (bindings_of c.self.inside.map.entries) c.args.register ≡ None =
          ap (λ bindings. place_of bindings c.args.register) c.self.view_is ∙ c.requires.absent in
          rw w.result-is
          (inserted c.args.register c.args.place c.self.inside.map.entries c.insert.new.self.entries w.in-Ok.ensures.entries absent
          ∙ ap (λ bindings. bindings ++ binding c.args.register c.args.place ∷ []) c.self.view_is)
      | in-Err w ↦ rw w.result-is tt
    ]
