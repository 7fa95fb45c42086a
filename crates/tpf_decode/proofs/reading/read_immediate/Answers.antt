use Rattle.std.proofs.Common.{sym, ◌∙◌, arith}
use Rattle.word_base.specs.Words.{words_of}
use Rattle.tpf_decode.proofs.Operands.{immediate_there}
use Rattle.tpf_decode.proofs.reading.read_immediate.Goals as goal

pub returns-clause-spelled : goal.returns-clause-spelled
returns-clause-spelled c = immediate_there _ (words_of c.args.bytes.now) c.args.at c.word.result (sym c.holds_immediate.ensures ∙ c.if-not-holds_immediate.false) (omega arith) c.word.ensures
