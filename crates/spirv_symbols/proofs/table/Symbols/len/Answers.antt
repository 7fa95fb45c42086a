use Rattle.std.proofs.Common.{length, sym, ap, ◌∙◌, arith}
use Rattle.spirv_symbols.specs.Tables.{Table}
use Rattle.spirv_symbols.proofs.EntriesLaws.{entries_length}
use Rattle.spirv_symbols.proofs.table.Symbols.len.Goals as goal

pub returns : goal.returns
returns c = record {
  len =
      c.len.ensures.len ∙ sym (entries_length c.self.inside.keys.list c.self.inside.ids.list c.self.invariant.same)
      ∙ ap (λ (t : Table). length t.entries) c.self.view_is;
  within = omega (arith, c.len.ensures.within, c.self.invariant.room, ap (λ (t : Table). t.limit) c.self.view_is);
}
