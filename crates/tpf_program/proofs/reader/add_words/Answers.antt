use Rattle.std.proofs.Common.{rules, ◌∙◌, arith}
use Rattle.word_base.specs.Words.{words_of}
use Rattle.tpf_program.proofs.Walk.{words_more, words_room}
use Rattle.tpf_program.proofs.reader.add_words.Goals as goal

pub push-requires : goal.push-requires
push-requires c =
    words_room (words_of c.args.bytes.now) c.args.words.now.list c.loop-place.words.list c.args.start c.loop-place.place c.args.end c.loop-place.words.capacity
    (search rules) c.loop-place-test.true c.requires.words c.loop-place.invariant.added (omega (arith, c.requires.room, c.loop-place.invariant.capacity))

pub loop-place-preserved : goal.loop-place-preserved
loop-place-preserved c = record {
  added = words_more (words_of c.args.bytes.now) c.args.words.now.list c.loop-place.words.list c.push.new.self.list c.args.start c.loop-place.place c.args.end c.word.result
      (search rules) c.loop-place-test.true c.requires.words c.loop-place.invariant.added c.word.ensures c.push.ensures.list;
  capacity = c.push.ensures.capacity ∙ c.loop-place.invariant.capacity;
}
