use Rattle.std.proofs.Common.{◌≡◌, ◌≢◌, ℕ, ◌+◌, ◌*◌, ◌<◌, ◌≤◌, Bool, true, false, List, Some, subst, sym, ap, ◌∙◌, arith, min}
use Rattle.std.specs.Prelude.{Contains}
use Rattle.word_base.specs.declared.rule.Rule.TheVariants.{G2}
use Rattle.word_base.specs.declared.rule.Refusal.{Refusal}
use Rattle.word_base.specs.Rules.{refusal}
use Rattle.root_signature.specs.Layout.{word, words_from, is_whole, parameter_at, parameter_type, record_at, record_words, words_of_type}
use Rattle.root_signature.specs.Refusals.{parameter_refusals}
use Rattle.root_signature.specs.Bests.{IsBest}
use Rattle.root_signature.proofs.Whole.{whole}
use Rattle.root_signature.proofs.Records.{record_list}
use Rattle.root_signature.proofs.Parameters.{unknown_type, cut_record, single_record, table_record}
use Rattle.root_signature.proofs.refusals.parameter_refusal.Goals as goal

tested : (content : List ℕ) (i at w kind : ℕ) (t r : Bool) → r ≡ is_whole content at w → r ≡ t → at ≡ record_at content i → w ≡ words_of_type content kind
    → kind ≡ parameter_type content i → is_whole content (record_at content i) (record_words content i) ≡ t
tested content i at w kind t r er et ea ew ek =
    subst (λ k. is_whole content (record_at content i) (words_of_type content k) ≡ t) ek
    (subst (λ n. is_whole content (record_at content i) n ≡ t) ew (subst (λ a. is_whole content a w ≡ t) ea (sym er ∙ et)))

placed : (content : List ℕ) (at to there : ℕ) (r : Refusal) → at ≡ to → there ≡ words_from content at → r ≡ refusal G2 (min (at + 4 * there) 4294967295)
    → refusal G2 (min (to + 4 * words_from content to) 4294967295) ≡ r
placed content at to there r e f g =
    subst (λ a. refusal G2 (min (a + 4 * words_from content a) 4294967295) ≡ r) e (subst (λ n. refusal G2 (min (at + 4 * n) 4294967295) ≡ r) f (sym g))

pub returns-then-kind-gt4 : goal.returns-then-kind-gt4
returns-then-kind-gt4 c =
    unknown_type c.args.content.now c.args.i c.record_refusal.result (whole c.args.content.now (parameter_at c.args.content.now c.args.i) 3 c.requires.whole)
    (subst (λ n. 4 < n) c.read_parameter-kind.ensures.kind c.if-kind-gt4.true)
    (subst (λ at. IsBest (Contains (record_list c.args.content.now at 3 4)) c.record_refusal.result) c.parameter_at.ensures c.record_refusal.ensures)

pub missing-requires-clause-place : goal.missing-requires-clause-place
missing-requires-clause-place c = omega (arith, c.read_parameter-kind.ensures.near)

pub returns-then-not-is_whole : goal.returns-then-not-is_whole
returns-then-not-is_whole c =
    subst (λ r. IsBest (Contains (parameter_refusals c.args.content.now c.args.i)) (Some r))
    (placed c.args.content.now c.read_parameter-kind.result.record_at (record_at c.args.content.now c.args.i) c.words_from.result c.missing.result
    c.read_parameter-kind.ensures.pointed c.words_from.ensures.count c.missing.ensures)
    (cut_record c.args.content.now c.args.i (whole c.args.content.now (parameter_at c.args.content.now c.args.i) 3 c.requires.whole)
    (subst (λ n. n ≤ 4) c.read_parameter-kind.ensures.kind c.if-kind-gt4.false)
    (tested c.args.content.now c.args.i c.read_parameter-kind.result.record_at c.words_of_type-words.result c.read_parameter-kind.result.kind false c.is_whole.result
    c.is_whole.ensures.test c.if-not-is_whole.true c.read_parameter-kind.ensures.pointed c.words_of_type-words.ensures.count c.read_parameter-kind.ensures.kind))

pub returns-then-kind-ne0 : goal.returns-then-kind-ne0
returns-then-kind-ne0 c =
    single_record c.args.content.now c.args.i (whole c.args.content.now (parameter_at c.args.content.now c.args.i) 3 c.requires.whole)
    (subst (λ n. n ≤ 4) c.read_parameter-kind.ensures.kind c.if-kind-gt4.false)
    (tested c.args.content.now c.args.i c.read_parameter-kind.result.record_at c.words_of_type-words.result c.read_parameter-kind.result.kind true c.is_whole.result
    c.is_whole.ensures.test c.if-not-is_whole.false c.read_parameter-kind.ensures.pointed c.words_of_type-words.ensures.count c.read_parameter-kind.ensures.kind)
    (subst (λ n. n ≢ 0) c.read_parameter-kind.ensures.kind c.if-kind-ne0.true)

pub returns : goal.returns
returns c =
    table_record c.args.content.now c.args.i c.table_refusal.result c.word-start.result c.word.result
    (whole c.args.content.now (parameter_at c.args.content.now c.args.i) 3 c.requires.whole)
    (tested c.args.content.now c.args.i c.read_parameter-kind.result.record_at c.words_of_type-words.result c.read_parameter-kind.result.kind true c.is_whole.result
    c.is_whole.ensures.test c.if-not-is_whole.false c.read_parameter-kind.ensures.pointed c.words_of_type-words.ensures.count c.read_parameter-kind.ensures.kind)
    (subst (λ n. n ≡ 0) c.read_parameter-kind.ensures.kind c.if-kind-ne0.false)
    (c.word-start.ensures ∙ ap (λ at. word c.args.content.now (at + 4)) c.read_parameter-kind.ensures.pointed)
    (c.word.ensures ∙ ap (λ at. word c.args.content.now at) c.read_parameter-kind.ensures.pointed)
    c.table_refusal.ensures
