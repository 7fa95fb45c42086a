use Rattle.word_base.specs.Words.{words_of}
use Rattle.std.proofs.Common.{⊎_elim}
use Rattle.tpf_decode.proofs.Operands.{temp_place, indexable_place, constant_place}
use Rattle.tpf_decode.proofs.reading.read_place.Goals as goal

pub returns-in-Temp : goal.returns-in-Temp
returns-in-Temp c = temp_place c.args.kind (words_of c.args.bytes.now) c.args.at c.word.result c.in-Temp.is c.requires.words c.word.ensures

pub returns-in-Indexable : goal.returns-in-Indexable
returns-in-Indexable c =
    ⊎_elim
    (λ e. indexable_place c.args.kind (words_of c.args.bytes.now) c.args.at c.word-in-Indexable.result c.word-in-Indexable-2.result e c.requires.words c.word-in-Indexable.ensures c.word-in-Indexable-2.ensures)
    (λ e. constant_place c.args.kind (words_of c.args.bytes.now) c.args.at c.word-in-Indexable.result c.word-in-Indexable-2.result e c.requires.words c.word-in-Indexable.ensures c.word-in-Indexable-2.ensures)
    c.in-Indexable.is
