use Rattle.word_base.specs.Words.{words_of}
use Rattle.tpf_program.proofs.Walk.{head_refused}
use Rattle.tpf_program.proofs.reader.read_over.Goals as goal

pub returns-in-Err-clause-refused : goal.returns-in-Err-clause-refused
returns-in-Err-clause-refused c = head_refused (words_of c.args.bytes.now) c.in-Err.refusal c.in-Err.ensures.refused
