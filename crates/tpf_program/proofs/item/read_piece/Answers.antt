use Rattle.std.proofs.Common.{◌≡◌, true, nat_eq, false, sym, ◌∙◌, arith}
use Rattle.std.proofs.lemmas.Bool.Decides.{nat_tests}
use Rattle.std.proofs.lemmas.Result.{err_from_is_err_and}
use Rattle.word_base.specs.Words.{words_of}
use Rattle.tpf_program.proofs.Behind.{tokens_refused, custom_sound, tokens_passed}
use Rattle.tpf_program.proofs.item.read_piece.Goals as goal

pub returns-in_err-extent-clause-refused : goal.returns-in_err-extent-clause-refused
returns-in_err-extent-clause-refused c =
    let p = err_from_is_err_and c.from_residual.result c.from_residual.ensures.1 in
    rw (p.1, p.2) (tokens_refused (words_of c.args.bytes.now) c.args.n c.args.at c.in_err-extent.field-0.0 c.in_err-extent.ensures.refused)

pub returns-then-extent-eq-CUSTOM_DATA-clause-refused : goal.returns-then-extent-eq-CUSTOM_DATA-clause-refused
returns-then-extent-eq-CUSTOM_DATA-clause-refused c =
    let o = c.in_ok-extent in
    let custom : nat_eq o.extent.code 53 ≡ true = grind (arith, nat_tests) in
    custom_sound (words_of c.args.bytes.now) c.args.n c.args.at o.extent c.requires.inside c.requires.words o.ensures.extent custom o.ensures.refused

pub returns-in_err-piece-clause-refused : goal.returns-in_err-piece-clause-refused
returns-in_err-piece-clause-refused c =
    let o = c.in_ok-extent in
    let other : nat_eq o.extent.code 53 ≡ false = grind (arith, nat_tests) in
    let p = err_from_is_err_and c.from_residual-in_err-piece.result c.from_residual-in_err-piece.ensures.1 in
    rw (p.1, p.2)
    (c.in_err-piece.ensures.refused ∙ sym (tokens_passed (words_of c.args.bytes.now) c.args.n c.args.at o.extent c.requires.inside c.requires.words o.ensures.extent other o.ensures.refused))

pub returns-clause-refused : goal.returns-clause-refused
returns-clause-refused c =
    let o = c.in_ok-extent in
    let other : nat_eq o.extent.code 53 ≡ false = grind (arith, nat_tests) in
    c.in_ok-piece.ensures.refused ∙ sym (tokens_passed (words_of c.args.bytes.now) c.args.n c.args.at o.extent c.requires.inside c.requires.words o.ensures.extent other o.ensures.refused)
