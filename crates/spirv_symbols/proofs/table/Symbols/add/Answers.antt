use Rattle.std.proofs.Common.{◌+◌, ◌∷◌, [], ◌++◌, length, sym, ap, ◌∙◌, subst, arith, length-append}
use Rattle.std.specs.Prelude.{Contains}
use Rattle.node_pool.specs.declared.key.Key.{Key}
use Rattle.spirv_symbols.specs.Tables.{Table, Absent, Adds, table, entries_of}
use Rattle.spirv_symbols.proofs.EntriesLaws.{AreNames, key_absent, entries_length, names_more, added}
use Rattle.spirv_symbols.proofs.table.Symbols.add.Goals as goal

pub add-self-inside-requires-clause-absent : goal.add-self-inside-requires-clause-absent
add-self-inside-requires-clause-absent c = λ h.
    key_absent c.self.inside.keys.list c.self.inside.ids.list c.args.symbol c.self.invariant.same
    (subst (λ (t : Table). Absent t.entries c.args.symbol) (sym c.self.view_is) c.requires.absent)
    (subst (λ (k : Key). Contains c.self.inside.keys.list k) c.key.ensures h)

pub add-self-inside-requires-clause-room : goal.add-self-inside-requires-clause-room
add-self-inside-requires-clause-room c =
    let n = entries_length c.self.inside.keys.list c.self.inside.ids.list c.self.invariant.same in
    let m = ap (λ (t : Table). length t.entries) c.self.view_is in
    let l = ap (λ (t : Table). t.limit) c.self.view_is in
    omega (arith, n, m, l, c.self.invariant.room, c.requires.free)

pub push-self-inside-requires : goal.push-self-inside-requires
push-self-inside-requires c =
    let n = entries_length c.self.inside.keys.list c.self.inside.ids.list c.self.invariant.same in
    let m = ap (λ (t : Table). length t.entries) c.self.view_is in
    let l = ap (λ (t : Table). t.limit) c.self.view_is in
    omega (arith, n, m, l, c.self.invariant.same, c.requires.free)

pub invariant_of-self : goal.invariant_of-self
invariant_of-self c =
    let k = ap length c.add-self-inside.ensures.list ∙ length-append c.self.inside.keys.list (c.key.result ∷ []) in
    let i = ap length c.push-self-inside.ensures.list ∙ length-append c.self.inside.ids.list (c.self.inside.next ∷ []) in
    record {
      same = omega (arith, k, i, c.self.invariant.same);
      room = c.add-self-inside.ensures.capacity ∙ c.self.invariant.room ∙ sym c.push-self-inside.ensures.capacity;
      named =
          subst AreNames (sym (c.add-self-inside.ensures.list ∙ ap (λ (z : Key). c.self.inside.keys.list ++ z ∷ []) c.key.ensures))
          (names_more c.self.inside.keys.list c.args.symbol c.self.invariant.named);
    }

pub returns : goal.returns
returns c =
    subst (λ (t : Table). Adds t (table (entries_of c.add-self-inside.new.self.list c.push-self-inside.new.self.list) (c.self.inside.next + 1)
    c.push-self-inside.new.self.capacity) c.args.symbol c.self.inside.next) c.self.view_is
    (added c.self.inside.keys.list c.add-self-inside.new.self.list c.self.inside.ids.list c.push-self-inside.new.self.list c.args.symbol c.key.result
    c.self.inside.next c.self.inside.ids.capacity c.push-self-inside.new.self.capacity c.self.invariant.same c.key.ensures
    c.add-self-inside.ensures.list c.push-self-inside.ensures.list c.push-self-inside.ensures.capacity)
