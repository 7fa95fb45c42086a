use Rattle.spirv_symbols.proofs.Ids.{id_found}
use Rattle.spirv_symbols.proofs.laws.id_laws.Goals as goal

pub returns-clause-found : goal.returns-clause-found
returns-clause-found c = id_found
