use Rattle.word_base.specs.Words.{words_of}
use Rattle.tpf_decode.proofs.Operands.{literal_there}
use Rattle.tpf_decode.proofs.reading.read_literal.Goals as goal

pub returns-else-four : goal.returns-else-four
returns-else-four c = literal_there c.args.four (words_of c.args.bytes.now) c.args.at c.word-x.result c.if-four.false c.requires.words c.word-x.ensures
