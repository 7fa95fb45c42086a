use Rattle.std.proofs.Common.{Some, length, slice_get, sym, ap, ◌∙◌, arith}
use Rattle.spirv_symbols.specs.declared.symbol.Symbol.{Symbol}
use Rattle.spirv_symbols.specs.Tables.{Table, entry}
use Rattle.spirv_symbols.proofs.EntriesLaws.{entries_length, entry_there}
use Rattle.spirv_symbols.proofs.table.Symbols.entry.Goals as goal

pub at-requires : goal.at-requires
at-requires c =
    omega (
      arith,
      c.requires,
      ap (λ (t : Table). length t.entries) c.self.view_is,
      entries_length c.self.inside.keys.list c.self.inside.ids.list
          c.self.invariant.same,
    )

pub returns : goal.returns
returns c =
    ap (λ (t : Table). slice_get t.entries c.args.i) (sym c.self.view_is)
    ∙ entry_there c.self.inside.keys.list c.self.inside.ids.list c.args.i c.at.result c.get-id.result c.at.ensures c.get-id.ensures
    ∙ ap (λ (s : Symbol). Some (entry s c.get-id.result)) (sym c.symbol_at-symbol.ensures)
