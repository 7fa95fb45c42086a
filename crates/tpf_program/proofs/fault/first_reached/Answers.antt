use Rattle.std.proofs.Common.{◌≡◌, ◌+◌, Some, None, sym, ap, ◌∙◌, arith}
use Rattle.std.specs.Prelude.{slice_index, slice_range}
use Rattle.word_base.specs.Words.{words_of}
use Rattle.word_base.specs.Rules.{refusal}
use Rattle.tpf_decode.specs.Tokens.{length_of}
use Rattle.tpf_program.specs.Faults.{early_rule}
use Rattle.tpf_program.proofs.Stops.{stays_first, next_first}
use Rattle.tpf_program.proofs.fault.first_reached.Goals as goal

pub returns-then-refusal-end : goal.returns-then-refusal-end
returns-then-refusal-end c =
    let w = words_of c.args.bytes.now in
    let l = c.field.ensures ∙ ap length_of c.word.ensures in
    stays_first w c.args.at c.args.n c.args.refusal c.requires.inside c.requires.words c.requires.refused (λ p q. absurd (c.if-refusal-end.true (p ∙ ap (λ k. c.args.at + k) (sym l))))

pub returns-then-n-end : goal.returns-then-n-end
returns-then-n-end c =
    let w = words_of c.args.bytes.now in
    let l = c.field.ensures ∙ ap length_of c.word.ensures in
    stays_first w c.args.at c.args.n c.args.refusal c.requires.inside c.requires.words c.requires.refused (λ p q. absurd (omega (arith, q, l, c.if-n-end.true)))

pub returns-in-Some : goal.returns-in-Some
returns-in-Some c =
    let w = words_of c.args.bytes.now in
    let at = c.args.at in
    let l = c.field.ensures ∙ ap length_of c.word.ensures in
    let place = c.if-refusal-end.false ∙ ap (λ k. at + k) l in
    let early : early_rule (slice_range w (at + length_of (slice_index w at)) c.args.n) ≡ Some c.in-Some.rule =
    ap (λ k. early_rule (slice_range w (at + k) c.args.n)) (sym l) ∙ (sym c.rule_at.ensures ∙ c.in-Some.is) in
    next_first w at c.args.n c.args.refusal c.in-Some.rule c.requires.inside c.requires.words c.requires.refused place early
    ∙ ap (λ k. Some (refusal c.in-Some.rule (at + k))) (sym l)

pub returns-in-None : goal.returns-in-None
returns-in-None c =
    let w = words_of c.args.bytes.now in
    let at = c.args.at in
    let l = c.field.ensures ∙ ap length_of c.word.ensures in
    let early : early_rule (slice_range w (at + length_of (slice_index w at)) c.args.n) ≡ None =
    ap (λ k. early_rule (slice_range w (at + k) c.args.n)) (sym l) ∙ (sym c.rule_at.ensures ∙ c.in-None.is) in
    stays_first w at c.args.n c.args.refusal c.requires.inside c.requires.words c.requires.refused (λ p q. early)
