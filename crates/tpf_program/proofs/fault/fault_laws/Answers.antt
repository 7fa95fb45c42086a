use Rattle.tpf_program.proofs.Reached.{told, found}
use Rattle.tpf_program.proofs.fault.fault_laws.Goals as goal

pub returns : goal.returns
returns c = λ profile words r. (told profile words r, found profile words r)
