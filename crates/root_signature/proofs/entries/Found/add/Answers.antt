use Rattle.std.proofs.Common.{◌+◌, ◌/◌, ◌++◌, ◌∷◌, [], Some, None, sym, ap, ◌∙◌, refl}
use Rattle.std.proofs.lemmas.List.{append-nil}
use Rattle.root_signature.specs.Layout.{word, words_from}
use Rattle.root_signature.specs.Covering.{entry}
use Rattle.root_signature.proofs.Adding.{add_table, add_single}
use Rattle.root_signature.proofs.entries.Found.add.Goals as goal

pub returns-then-is_visible_table-clause-found : goal.returns-then-is_visible_table-clause-found
returns-then-is_visible_table-clause-found c = λ every h.
    add_table c.args.content.now c.args.i c.word-start.result c.word.result c.whole_records-whole.result c.min-count.result every c.args.words
    c.read_table.new.self.entries.items c.read_table.new.self.marks.items c.read_table.new.self.again (sym c.is_visible_table.ensures.test ∙ c.if-is_visible_table.true)
    (c.word-start.ensures ∙ ap (λ at. word c.args.content.now (at + 4)) c.read_parameter-record_at.ensures.pointed)
    (c.word.ensures ∙ ap (λ at. word c.args.content.now at) c.read_parameter-record_at.ensures.pointed)
    (c.whole_records-whole.ensures.count ∙ ap (λ n. words_from c.args.content.now c.word-start.result / n) c.range_words.ensures.count)
    c.min-count.ensures (c.in_ok-read_table.ensures.found every c.args.words h)

pub returns-in_ok-push-clause-found : goal.returns-in_ok-push-clause-found
returns-in_ok-push-clause-found c = λ every h.
    add_single c.args.content.now c.args.i (Some c.in-Some.covers) every c.args.words c.args.self.now.entries.items c.push.new.self.entries.items c.args.self.now.marks.items
    c.push.new.self.marks.items c.args.self.now.again c.push.new.self.again (sym c.is_visible_table.ensures.test ∙ c.if-is_visible_table.false)
    c.in-Some.ensures.spans c.in-Some.ensures.exact c.in-Some.ensures.some
    (c.in_ok-push.ensures.entries ∙ ap (λ n. c.args.self.now.entries.items ++ entry n c.in-Some.covers ∷ []) c.read_parameter-place.ensures.pointed)
    (ap (λ m. m.items) c.in_ok-push.ensures.marks) c.in_ok-push.ensures.again h

pub returns-in_default-clause-found : goal.returns-in_default-clause-found
returns-in_default-clause-found c = λ every h.
    add_single c.args.content.now c.args.i None every c.args.words c.args.self.now.entries.items c.args.self.now.entries.items c.args.self.now.marks.items
    c.args.self.now.marks.items c.args.self.now.again c.args.self.now.again (sym c.is_visible_table.ensures.test ∙ c.if-is_visible_table.false)
    c.in_default.ensures.spans c.in_default.ensures.exact c.in_default.ensures.some (sym (append-nil c.args.self.now.entries.items)) refl refl h
