use Rattle.std.proofs.Common.{Some, sym, ap, ◌∙◌, subst}
use Rattle.std.specs.Prelude.{Contains}
use Rattle.node_pool.specs.declared.key.Key.{Key}
use Rattle.spirv_symbols.specs.Tables.{Table, Has, Absent, id_of}
use Rattle.spirv_symbols.proofs.EntriesLaws.{found_here, first_id, not_here}
use Rattle.spirv_symbols.proofs.table.Symbols.find.Goals as goal

pub returns-in-Some-clause-found : goal.returns-in-Some-clause-found
returns-in-Some-clause-found c =
    subst (λ (t : Table). Has t.entries c.args.symbol c.get.result) c.self.view_is
    (found_here c.self.inside.keys.list c.self.inside.ids.list c.args.symbol c.in-Some.i c.get.result
    (c.in-Some.ensures.found ∙ ap (λ (k : Key). Some k) c.key.ensures) c.get.ensures)

pub returns-in-Some-clause-first : goal.returns-in-Some-clause-first
returns-in-Some-clause-first c =
    first_id c.self.inside.keys.list c.self.inside.ids.list c.args.symbol c.in-Some.i c.get.result c.key_laws.ensures.distinct
    c.self.invariant.named (c.in-Some.ensures.found ∙ ap (λ (k : Key). Some k) c.key.ensures) c.get.ensures
    ∙ ap (λ (t : Table). id_of t.entries c.args.symbol) c.self.view_is

pub returns-in-None-clause-absent : goal.returns-in-None-clause-absent
returns-in-None-clause-absent c =
    subst (λ (t : Table). Absent t.entries c.args.symbol) c.self.view_is
    (not_here c.self.inside.keys.list c.self.inside.ids.list c.args.symbol c.self.invariant.named
    (λ h. c.in-None.ensures.absent (subst (λ (k : Key). Contains c.self.inside.keys.list k) (sym c.key.ensures) h)))
