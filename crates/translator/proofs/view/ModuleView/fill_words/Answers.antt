use Rattle.std.proofs.Common.{◌+◌, ◌*◌, ◌-◌, arith}
use Rattle.translator.specs.Shown.{module_words}
use Rattle.translator.proofs.ViewBytes.{same_behind, word_more}
use Rattle.translator.proofs.view.ModuleView.fill_words.Goals as goal

pub loop-i-preserved : goal.loop-i-preserved
loop-i-preserved c =
    let i = c.loop-i.i in
    let n = 4 * (i - c.args.first) in
    record {
      long = cc;
      front = word_more (module_words c.args.self.now) c.loop-i.piece c.put_word.new.piece c.args.first i c.word.result (omega arith)
          c.word.ensures c.loop-i.invariant.front c.put_word.ensures.before c.put_word.ensures.bytes;
      rest = same_behind c.args.piece.now c.loop-i.piece c.put_word.new.piece n (4 * (i + 1 - c.args.first)) (omega arith)
          c.loop-i.invariant.rest c.put_word.ensures.rest;
    }
