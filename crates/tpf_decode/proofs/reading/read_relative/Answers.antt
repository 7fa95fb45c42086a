use Rattle.std.proofs.Common.{◌≡◌, ◌<◌, ◌≤◌, ◌+◌, ◌-◌, ◌∷◌, Some, length, sym, ap, ◌∙◌, subst, arith}
use Rattle.std.specs.Prelude.{slice_range}
use Rattle.std.proofs.lemmas.Result.{err_from_is_err_and}
use Rattle.word_base.specs.Words.{words_of}
use Rattle.word_base.specs.Rules.{first}
use Rattle.tpf_decode.specs.Roles.{index_count}
use Rattle.tpf_decode.specs.Spelling.{SpellsPlace}
use Rattle.tpf_decode.specs.Refusals.{refusal_of, nothing}
use Rattle.tpf_decode.proofs.Ranges.{range_cons}
use Rattle.tpf_decode.proofs.Chains.{nothing_orderly}
use Rattle.tpf_decode.proofs.Operands.{behind_missing, behind_there, relative_some, relative_none, first_not_relative, relative_passes}
use Rattle.tpf_decode.proofs.reading.read_relative.Goals as goal

pub returns-in_default-clause-refused : goal.returns-in_default-clause-refused
returns-in_default-clause-refused c =
    let l : c.args.at < c.args.end = omega arith in
    ap refusal_of c.refuse-in_default.ensures
    ∙ sym (first_not_relative (words_of c.args.bytes.now) c.args.at c.args.end c.word-token.result nothing nothing_orderly l c.requires.words c.word-token.ensures
    (relative_none c.word-token.result (sym c.relative_kind.ensures ∙ c.in_default.is)))

pub returns-in_err-next-clause-refused : goal.returns-in_err-next-clause-refused
returns-in_err-next-clause-refused c =
    let w = words_of c.args.bytes.now in
    let p = err_from_is_err_and c.from_residual.result c.from_residual.ensures.1 in
    let l : c.args.at < c.args.end = omega arith in
    let r = relative_some c.word-token.result c.in-Some.kind (sym c.relative_kind.ensures ∙ c.in-Some.is) in
    let m = c.in_err-next.ensures.missing in
    let n : c.args.end - (c.args.at + 1) < index_count c.in-Some.kind = omega (arith, m.1, c.places.ensures) in
    rw (p.1, p.2)
    (ap (λ x. Some x) m.0
    ∙ sym (ap first (relative_passes w c.args.at c.args.end c.word-token.result c.in-Some.kind nothing l c.requires.words c.word-token.ensures r.0 r.1
    ∙ behind_missing w (c.args.at + 1) c.args.end (index_count c.in-Some.kind) nothing (omega arith) c.requires.words n)))

pub returns-clause-refused : goal.returns-clause-refused
returns-clause-refused c =
    let w = words_of c.args.bytes.now in
    let l : c.args.at < c.args.end = omega arith in
    let r = relative_some c.word-token.result c.in-Some.kind (sym c.relative_kind.ensures ∙ c.in-Some.is) in
    let n : c.args.at + 1 + index_count c.in-Some.kind ≤ c.args.end = omega (arith, c.in_ok-next.ensures.place, c.places.ensures) in
    sym (ap first (relative_passes w c.args.at c.args.end c.word-token.result c.in-Some.kind nothing l c.requires.words c.word-token.ensures r.0 r.1
    ∙ behind_there w (c.args.at + 1) c.args.end (index_count c.in-Some.kind) nothing n c.requires.words))

pub returns-clause-spelled : goal.returns-clause-spelled
returns-clause-spelled c =
    let w = words_of c.args.bytes.now in
    let r = relative_some c.word-token.result c.in-Some.kind (sym c.relative_kind.ensures ∙ c.in-Some.is) in
    let e : c.in_ok-next.next ≡ c.args.at + 1 + index_count c.in-Some.kind = omega (arith, c.in_ok-next.ensures.place, c.places.ensures) in
    let k : c.in_ok-next.next ≤ length w = omega (arith, c.in_ok-next.ensures.place) in
    record {
      token = c.word-token.result;
      place = slice_range w (c.args.at + 1) c.in_ok-next.next;
      parts = range_cons w c.args.at c.in_ok-next.next (omega arith) k ∙ ap (λ t. t ∷ slice_range w (c.args.at + 1) c.in_ok-next.next) (sym c.word-token.ensures);
      form = r.0;
      kind = r.1;
      component = c.component-component.ensures;
      indices = subst (λ n. SpellsPlace c.in-Some.kind c.read_place-slot.result.0 c.read_place-slot.result.1 (slice_range w (c.args.at + 1) n)) (sym e) c.read_place-slot.ensures;
    }
