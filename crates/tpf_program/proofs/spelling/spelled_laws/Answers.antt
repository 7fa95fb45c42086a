use Rattle.tpf_program.proofs.Items.{program_told}
use Rattle.tpf_program.proofs.Late.{program_late}
use Rattle.tpf_program.proofs.Found.{program_found}
use Rattle.tpf_program.proofs.WellSpelled.{program_good}
use Rattle.tpf_program.proofs.spelling.spelled_laws.Goals as goal

pub returns-clause-determined : goal.returns-clause-determined
returns-clause-determined c = program_told

pub returns-clause-operands : goal.returns-clause-operands
returns-clause-operands c = program_good

pub returns-clause-sound : goal.returns-clause-sound
returns-clause-sound c = program_late

pub returns-clause-found : goal.returns-clause-found
returns-clause-found c = program_found
