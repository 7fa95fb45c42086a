use Rattle.spirv_symbols.proofs.EntriesLaws.{no_id}
use Rattle.spirv_symbols.proofs.table.Symbols.id.Goals as goal

pub returns-in-None : goal.returns-in-None
returns-in-None c = no_id c.args.self.now.entries c.args.symbol c.in-None.ensures.absent
