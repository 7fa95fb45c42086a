use Rattle.tpf_decode.proofs.Spelled.{operand_pass}
use Rattle.tpf_decode.proofs.Same.{operand_same}
use Rattle.tpf_decode.proofs.Wholes.{operand_refused}
use Rattle.tpf_decode.proofs.Instructions.{operands_orderly}
use Rattle.tpf_decode.proofs.reading.operand_laws.Goals as goal

pub returns-clause-told : goal.returns-clause-told
returns-clause-told c = operand_same

pub returns-clause-passed : goal.returns-clause-passed
returns-clause-passed c = operand_pass

pub returns-clause-refused : goal.returns-clause-refused
returns-clause-refused c = operand_refused

pub returns-clause-orderly : goal.returns-clause-orderly
returns-clause-orderly c = operands_orderly
