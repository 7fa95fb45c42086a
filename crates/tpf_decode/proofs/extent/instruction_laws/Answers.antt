use Rattle.tpf_decode.proofs.Instructions.{instruction_same, cut_passed, cut_refused}
use Rattle.tpf_decode.proofs.extent.instruction_laws.Goals as goal

pub returns-clause-told : goal.returns-clause-told
returns-clause-told c = instruction_same

pub returns-clause-passed : goal.returns-clause-passed
returns-clause-passed c = cut_passed

pub returns-clause-refused : goal.returns-clause-refused
returns-clause-refused c = cut_refused
