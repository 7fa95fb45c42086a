use Rattle.std.proofs.Common.{◌≡◌, ◌<◌, ◌+◌, ◌-◌, Some, sym, ap, ◌∙◌, subst, arith}
use Rattle.std.specs.Prelude.{slice_range}
use Rattle.std.proofs.lemmas.Result.{err_from_is_err_and}
use Rattle.word_base.specs.Words.{words_of}
use Rattle.word_base.specs.Rules.{first}
use Rattle.tpf_decode.specs.Tokens.{fixed_of, fixed_count, element_of}
use Rattle.tpf_decode.specs.Spelling.{SpellsFixed, SpellsElement}
use Rattle.tpf_decode.specs.Refusals.{nothing, element_faults}
use Rattle.tpf_decode.proofs.Ranges.{range_split}
use Rattle.tpf_decode.proofs.Operands.{behind_missing, behind_place_there}
use Rattle.tpf_decode.proofs.reading.read_behind.Goals as goal

pub returns-in_err-place-clause-refused : goal.returns-in_err-place-clause-refused
returns-in_err-place-clause-refused c =
    let k = c.args.head.kind in
    let p = err_from_is_err_and c.from_residual.result c.from_residual.ensures.1 in
    let m = c.in_err-place.ensures.missing in
    let n : c.args.end - c.args.at < fixed_count (fixed_of k c.args.token) = omega (arith, m.1, c.fixed_words.ensures) in
    rw (p.1, p.2)
    (ap (λ x. Some x) m.0
    ∙ sym (ap first (behind_missing (words_of c.args.bytes.now) c.args.at c.args.end (fixed_count (fixed_of k c.args.token)) (element_faults (element_of k c.args.token) nothing) c.requires.order c.requires.words n)))

pub returns-in_err-index-clause-refused : goal.returns-in_err-index-clause-refused
returns-in_err-index-clause-refused c =
    let w = words_of c.args.bytes.now in
    let k = c.args.head.kind in
    let t = c.args.token in
    let p = err_from_is_err_and c.from_residual-in_err-index.result c.from_residual-in_err-index.ensures.1 in
    let m = c.in_ok-place.ensures.place in
    let e = m.0 ∙ ap (λ n. c.args.at + n) c.fixed_words.ensures in
    rw (p.1, p.2)
    (c.in_err-index.ensures.refused
    ∙ (ap (λ o. first (element_faults o nothing c.in_ok-place.place (slice_range w c.in_ok-place.place c.args.end))) c.element_representation.ensures
    ∙ sym (ap first (behind_place_there w c.args.at c.args.end c.in_ok-place.place (fixed_count (fixed_of k t)) (element_faults (element_of k t) nothing) e m.1 c.requires.words))))

pub returns-clause-refused : goal.returns-clause-refused
returns-clause-refused c =
    let w = words_of c.args.bytes.now in
    let k = c.args.head.kind in
    let t = c.args.token in
    let m = c.in_ok-place.ensures.place in
    let e = m.0 ∙ ap (λ n. c.args.at + n) c.fixed_words.ensures in
    c.in_ok-index.ensures.refused
    ∙ (ap (λ o. first (element_faults o nothing c.in_ok-place.place (slice_range w c.in_ok-place.place c.args.end))) c.element_representation.ensures
    ∙ sym (ap first (behind_place_there w c.args.at c.args.end c.in_ok-place.place (fixed_count (fixed_of k t)) (element_faults (element_of k t) nothing) e m.1 c.requires.words)))

pub returns-clause-spelled : goal.returns-clause-spelled
returns-clause-spelled c =
    let w = words_of c.args.bytes.now in
    let k = c.args.head.kind in
    let t = c.args.token in
    let f = c.read_fixed-slot.result in
    let place = c.in_ok-place.place in
    let next = c.in_ok-index.next in
    let m = c.in_ok-place.ensures.place in
    let e : place ≡ c.args.at + fixed_count (fixed_of k t) = m.0 ∙ ap (λ n. c.args.at + n) c.fixed_words.ensures in
    record {
      fixed = slice_range w c.args.at place;
      element = slice_range w place next;
      parts = range_split w c.args.at place next (omega arith) c.in_ok-index.ensures.within.0;
      fixed_is = subst (λ n. SpellsFixed (fixed_of k t) f.slot f.x f.y f.z f.w (slice_range w c.args.at n)) (sym e) c.read_fixed-slot.ensures;
      element_is = subst (λ o. SpellsElement o c.in_ok-index.index c.in_ok-index.relative (slice_range w place next)) c.element_representation.ensures c.in_ok-index.ensures.spelled;
    }
