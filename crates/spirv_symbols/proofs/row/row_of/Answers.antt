use Rattle.std.proofs.Common.{sym, subst}
use Rattle.spirv_symbols.specs.declared.symbol.Symbol.{Symbol}
use Rattle.spirv_symbols.specs.Rows.{row_of}
use Rattle.spirv_symbols.specs.RowValues.{IsRow}
use Rattle.spirv_symbols.proofs.row.row_of.Goals as goal

pub returns-in-AType : goal.returns-in-AType
returns-in-AType c = subst (λ (s : Symbol). IsRow c.args.context.now (row_of c.args.context.now s) c.type_row.result) (sym c.in-AType.is)
    (c.type_row.ensures c.args.context.now)

pub returns-in-Import : goal.returns-in-Import
returns-in-Import c = subst (λ (s : Symbol). IsRow c.args.context.now (row_of c.args.context.now s) c.import.result) (sym c.in-Import.is)
    (c.import.ensures c.args.context.now)

pub returns-in-Input : goal.returns-in-Input
returns-in-Input c = subst (λ (s : Symbol). IsRow c.args.context.now (row_of c.args.context.now s) c.input.result) (sym c.in-Input.is)
    (c.input.ensures c.args.context.now)
