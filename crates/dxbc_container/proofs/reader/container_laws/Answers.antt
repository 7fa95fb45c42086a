use Rattle.dxbc_container.proofs.Inside.{table_fits, chunk_inside, part_length}
use Rattle.dxbc_container.proofs.Soles.{single}
use Rattle.dxbc_container.proofs.Exactly.{sole_holds, sole_found, shex_holds, shex_found}
use Rattle.dxbc_container.proofs.reader.container_laws.Goals as goal

pub returns-clause-table : goal.returns-clause-table
returns-clause-table c = table_fits

pub returns-clause-inside : goal.returns-clause-inside
returns-clause-inside c = chunk_inside

pub returns-clause-part : goal.returns-clause-part
returns-clause-part c = part_length

pub returns-clause-single : goal.returns-clause-single
returns-clause-single c = single

pub returns-clause-sole_holds : goal.returns-clause-sole_holds
returns-clause-sole_holds c = sole_holds

pub returns-clause-sole_found : goal.returns-clause-sole_found
returns-clause-sole_found c = sole_found

pub returns-clause-shex_holds : goal.returns-clause-shex_holds
returns-clause-shex_holds c = shex_holds

pub returns-clause-shex_found : goal.returns-clause-shex_found
returns-clause-shex_found c = shex_found
