use Rattle.std.proofs.Common.{rules}
use Rattle.tpf_program.proofs.Tables.{no_form}
use Rattle.tpf_program.proofs.item.piece_behind.Goals as goal

pub declaration-requires-clause-form : goal.declaration-requires-clause-form
declaration-requires-clause-form c = no_form c.args.extent.code c.in-Some-default.layout (search rules)
