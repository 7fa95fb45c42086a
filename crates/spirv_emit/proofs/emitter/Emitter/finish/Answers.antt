use Rattle.std.proofs.Common.{[], length, ap, arith}
use Rattle.std.proofs.lemmas.List.{length-append}
use Rattle.spirv_words.specs.Enumerants.{MagicNumber}
use Rattle.spirv_words.specs.Text.{words_of_code}
use Rattle.spirv_symbols.specs.Modules.{IsReady, front, module_code}
use Rattle.spirv_symbols.specs.ModuleWords.{kind_of, head}
use Rattle.spirv_emit.proofs.Finishing.{text_is, pieces_fit, pushed_six}
use Rattle.spirv_emit.proofs.emitter.Emitter.finish.Goals as goal

pub put_front-requires-clause-room : goal.put_front-requires-clause-room
put_front-requires-clause-room x =
    let c = x.args.self.now.frame.context in
    let t = x.args.self.now.symbols in
    let k = kind_of x.args.kind in
    let cs = x.take_from.new.self.list in
    let r : IsReady c t cs = record {
      stands = x.requires.stands;
      sorted = x.take_from.ensures.sorted;
      main = x.requires.main.0;
      has_main =
          x.requires.main.1;
      label = x.requires.label.0;
      has_label = x.requires.label.1;
    } in
    let f = pieces_fit _ (words_of_code (front c k t.entries cs)) (words_of_code (head c t.entries)) _ _
    (x.length_laws.ensures.pieces c k t.entries cs []) (x.length_laws.ensures.words c k t cs [] r) in
    let n = pushed_six _ _ _ _ _ _ _ _ _ _ _ _ _ x.push.ensures.list x.push-2.ensures.list x.push-3.ensures.list x.push-4.ensures.list
    x.push-5.ensures.list x.push-6.ensures.list in
    omega (
      arith,
      f,
      x.requires.room,
      x.push.ensures.capacity,
      x.push-2.ensures.capacity,
      x.push-3.ensures.capacity,
      x.push-4.ensures.capacity,
      x.push-5.ensures.capacity,
      x.push-6.ensures.capacity,
      n,
    )

pub put_head-requires-clause-room : goal.put_head-requires-clause-room
put_head-requires-clause-room x =
    let c = x.args.self.now.frame.context in
    let t = x.args.self.now.symbols in
    let k = kind_of x.args.kind in
    let cs = x.take_from.new.self.list in
    let r : IsReady c t cs = record {
      stands = x.requires.stands;
      sorted = x.take_from.ensures.sorted;
      main = x.requires.main.0;
      has_main =
          x.requires.main.1;
      label = x.requires.label.0;
      has_label = x.requires.label.1;
    } in
    let f = pieces_fit _ (words_of_code (front c k t.entries cs)) (words_of_code (head c t.entries)) _ _
    (x.length_laws.ensures.pieces c k t.entries cs []) (x.length_laws.ensures.words c k t cs [] r) in
    let n = pushed_six _ _ _ _ _ _ _ _ _ _ _ _ _ x.push.ensures.list x.push-2.ensures.list x.push-3.ensures.list x.push-4.ensures.list
    x.push-5.ensures.list x.push-6.ensures.list in
    omega (
      arith,
      f,
      x.requires.room,
      x.push.ensures.capacity,
      x.push-2.ensures.capacity,
      x.push-3.ensures.capacity,
      x.push-4.ensures.capacity,
      x.push-5.ensures.capacity,
      x.push-6.ensures.capacity,
      n,
      x.put_front.ensures.capacity,
      ap length x.put_front.ensures.list,
      length-append x.push-6.new.self.list (words_of_code (front c k t.entries cs)),
    )

pub returns-clause-text : goal.returns-clause-text
returns-clause-text x = λ body o.
    let c = x.args.self.now.frame.context in
    let t = x.args.self.now.symbols in
    let k = kind_of x.args.kind in
    let cs = x.take_from.new.self.list in
    text_is x.args.self.now.code.list x.push.new.self.list x.push-2.new.self.list x.push-3.new.self.list x.push-4.new.self.list x.push-5.new.self.list
    x.push-6.new.self.list
    x.put_front.new.words.list x.put_head.new.words.list (words_of_code (front c k t.entries cs)) (words_of_code (head c t.entries))
    (words_of_code (module_code c k t.entries cs body)) (words_of_code body)
    65592 MagicNumber x.args.kind.version x.next-bound.result x.args.self.now.symbols.next x.len-body.result x.push.ensures.list x.push-2.ensures.list
    x.push-3.ensures.list x.push-4.ensures.list x.push-5.ensures.list x.push-6.ensures.list
    x.put_front.ensures.list x.put_head.ensures.list x.len-body.ensures.len x.next-bound.ensures o
    (x.length_laws.ensures.pieces c k t.entries cs body)
