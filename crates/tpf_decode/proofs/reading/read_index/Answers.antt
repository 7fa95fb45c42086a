use Rattle.std.proofs.Common.{◌≡◌, Some, None, true, false, refl, sym, ap, ◌∙◌, subst, arith}
use Rattle.std.specs.Prelude.{slice_range}
use Rattle.std.proofs.lemmas.Result.{err_from_is_err_and}
use Rattle.word_base.specs.Words.{words_of}
use Rattle.word_base.specs.Rules.{first}
use Rattle.tpf_decode.specs.Tokens.{has_relative, immediate_count}
use Rattle.tpf_decode.specs.Spelling.{SpellsAddend}
use Rattle.tpf_decode.specs.Refusals.{nothing, relative_faults}
use Rattle.tpf_decode.proofs.Ranges.{range_split, range_none}
use Rattle.tpf_decode.proofs.Operands.{behind_missing, behind_place_there}
use Rattle.tpf_decode.proofs.reading.read_index.Goals as goal

pub returns-in_err-index-clause-refused : goal.returns-in_err-index-clause-refused
returns-in_err-index-clause-refused c =
    let r = c.args.representation in
    let p = err_from_is_err_and c.from_residual.result c.from_residual.ensures.1 in
    let m = c.in_err-index.ensures.missing in
    rw (p.1, p.2)
    (ap (λ x. Some x) m.0
    ∙ sym (ap first (behind_missing (words_of c.args.bytes.now) c.args.at c.args.end (immediate_count r) (relative_faults (has_relative r) nothing) c.requires.order c.requires.words m.1)))

pub returns-then-not-holds_relative-clause-refused : goal.returns-then-not-holds_relative-clause-refused
returns-then-not-holds_relative-clause-refused c =
    let w = words_of c.args.bytes.now in
    let r = c.args.representation in
    let f : has_relative r ≡ false = sym c.holds_relative.ensures ∙ c.if-not-holds_relative.true in
    let m = c.in_ok-index.ensures.place in
    sym (ap first (behind_place_there w c.args.at c.args.end c.in_ok-index.place (immediate_count r) (relative_faults (has_relative r) nothing) m.0 m.1 c.requires.words
    ∙ ap (λ b. relative_faults b nothing c.in_ok-index.place (slice_range w c.in_ok-index.place c.args.end)) f))

pub returns-then-not-holds_relative-clause-spelled : goal.returns-then-not-holds_relative-clause-spelled
returns-then-not-holds_relative-clause-spelled c =
    let w = words_of c.args.bytes.now in
    let r = c.args.representation in
    let place = c.in_ok-index.place in
    let f : has_relative r ≡ false = sym c.holds_relative.ensures ∙ c.if-not-holds_relative.true in
    let m = c.in_ok-index.ensures.place in
    record {
      front = slice_range w c.args.at place;
      back = slice_range w place place;
      parts = range_split w c.args.at place place (omega (arith, m.0)) (omega arith);
      immediate = c.in_ok-index.ensures.spelled;
      addend = subst (λ b. SpellsAddend b None (slice_range w place place)) (sym f) (range_none w place, refl);
    }

pub returns-in_err-relative-clause-refused : goal.returns-in_err-relative-clause-refused
returns-in_err-relative-clause-refused c =
    let w = words_of c.args.bytes.now in
    let r = c.args.representation in
    let p = err_from_is_err_and c.from_residual-in_err-relative.result c.from_residual-in_err-relative.ensures.1 in
    let f : has_relative r ≡ true = sym c.holds_relative.ensures ∙ c.if-not-holds_relative.false in
    let m = c.in_ok-index.ensures.place in
    rw (p.1, p.2)
    (c.in_err-relative.ensures.refused
    ∙ sym (ap first (behind_place_there w c.args.at c.args.end c.in_ok-index.place (immediate_count r) (relative_faults (has_relative r) nothing) m.0 m.1 c.requires.words
    ∙ ap (λ b. relative_faults b nothing c.in_ok-index.place (slice_range w c.in_ok-index.place c.args.end)) f)))

pub returns-clause-refused : goal.returns-clause-refused
returns-clause-refused c =
    let w = words_of c.args.bytes.now in
    let r = c.args.representation in
    let f : has_relative r ≡ true = sym c.holds_relative.ensures ∙ c.if-not-holds_relative.false in
    let m = c.in_ok-index.ensures.place in
    c.in_ok-relative.ensures.refused
    ∙ sym (ap first (behind_place_there w c.args.at c.args.end c.in_ok-index.place (immediate_count r) (relative_faults (has_relative r) nothing) m.0 m.1 c.requires.words
    ∙ ap (λ b. relative_faults b nothing c.in_ok-index.place (slice_range w c.in_ok-index.place c.args.end)) f))

pub returns-clause-spelled : goal.returns-clause-spelled
returns-clause-spelled c =
    let w = words_of c.args.bytes.now in
    let r = c.args.representation in
    let place = c.in_ok-index.place in
    let next = c.in_ok-relative.next in
    let f : has_relative r ≡ true = sym c.holds_relative.ensures ∙ c.if-not-holds_relative.false in
    let m = c.in_ok-index.ensures.place in
    record {
      front = slice_range w c.args.at place;
      back = slice_range w place next;
      parts = range_split w c.args.at place next (omega (arith, m.0)) c.in_ok-relative.ensures.within.0;
      immediate = c.in_ok-index.ensures.spelled;
      addend = subst (λ b. SpellsAddend b (Some c.in_ok-relative.relative) (slice_range w place next)) (sym f) c.in_ok-relative.ensures.spelled;
    }
