use Rattle.spirv_setup.proofs.ListedOnce.{constants_few}
use Rattle.spirv_setup.proofs.Paid.{listed_few, words_enough, ids_enough}
use Rattle.spirv_setup.proofs.sums.sum_laws.Goals as goal

pub returns-clause-listed : goal.returns-clause-listed
returns-clause-listed c = listed_few

pub returns-clause-words : goal.returns-clause-words
returns-clause-words c = words_enough

pub returns-clause-ids : goal.returns-clause-ids
returns-clause-ids c = ids_enough

pub returns-clause-constants : goal.returns-clause-constants
returns-clause-constants c = constants_few
