use Rattle.word_base.specs.Words.{words_of}
use Rattle.tpf_decode.specs.Profiles.{Base}
use Rattle.tpf_program.specs.Faults.{program_faults}
use Rattle.tpf_program.proofs.Walk.{head_refused}
use Rattle.tpf_program.proofs.reader.read.Goals as goal

pub returns-in-Err-clause-halted : goal.returns-in-Err-clause-halted
returns-in-Err-clause-halted c =
    let w = words_of c.args.bytes.now in
    c.first_laws.ensures.some (program_faults Base w) c.in-Err.refusal (head_refused w c.in-Err.refusal c.in-Err.ensures.refused)

pub returns-in-Err-spelled-clause-halted : goal.returns-in-Err-spelled-clause-halted
returns-in-Err-spelled-clause-halted c = c.first_laws.ensures.some (program_faults Base (words_of c.args.bytes.now)) c.in-Err-spelled.refusal c.in-Err-spelled.ensures.refused
