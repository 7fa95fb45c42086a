use Rattle.std.proofs.Common.{◌≡◌, ◌+◌, ◌-◌, ◌*◌, take, None, sym, ap, ◌∙◌, subst}
use Rattle.std.specs.Prelude.{slice_range, slice_index}
use Rattle.std.proofs.lemmas.Result.{err_from_is_err_and}
use Rattle.word_base.specs.Words.{words_of}
use Rattle.word_base.specs.Rules.{first}
use Rattle.tpf_decode.specs.Profiles.{Base}
use Rattle.tpf_decode.specs.declared.chain.Extended.TheVariants.{Opcode}
use Rattle.tpf_decode.specs.Tokens.{follows, length_of, opcode_of, controls_of}
use Rattle.tpf_decode.specs.Spelling.{IsChain}
use Rattle.tpf_decode.specs.Refusals.{refusal_of, nothing, first_rule, head_tests, chain_faults}
use Rattle.tpf_decode.proofs.Order.{by_rule}
use Rattle.tpf_decode.proofs.Heads.{first_in_program, head_in_program, head_spelled}
use Rattle.tpf_decode.proofs.extent.cut_head.Goals as goal

pub returns-in-Some-clause-refused : goal.returns-in-Some-clause-refused
returns-in-Some-clause-refused c =
    let w = words_of c.args.bytes.now in
    ap refusal_of c.refuse.ensures
    ∙ sym (first_in_program Base w c.args.n c.args.at c.args.token c.requires.inside c.requires.words
    ∙ ap (λ o. by_rule o c.args.at (first (chain_faults Opcode (follows c.args.token) nothing (c.args.at + 1) (take (length_of c.args.token - 1) (slice_range w (c.args.at + 1) c.args.n)))))
    (sym c.head_rule.ensures ∙ c.in-Some.is))

pub returns-in_err-first-clause-refused : goal.returns-in_err-first-clause-refused
returns-in_err-first-clause-refused c =
    let w = words_of c.args.bytes.now in
    let p = err_from_is_err_and c.from_residual.result c.from_residual.ensures.1 in
    let none : first_rule (head_tests Base (c.args.n - c.args.at) c.args.token) ≡ None = sym c.head_rule.ensures ∙ c.in_default.is in
    rw (p.1, p.2)
    (c.in_err-first.ensures.refused
    ∙ (ap (λ b. first (chain_faults Opcode b nothing (c.args.at + 1) (slice_range w (c.args.at + 1) (c.args.at + c.field.result)))) c.is_set.ensures
    ∙ (ap (λ l. first (chain_faults Opcode (follows c.args.token) nothing (c.args.at + 1) (slice_range w (c.args.at + 1) (c.args.at + l)))) c.field.ensures
    ∙ sym (head_in_program Base w c.args.n c.args.at c.args.token c.requires.inside c.requires.words none))))

pub returns-clause-refused : goal.returns-clause-refused
returns-clause-refused c =
    let w = words_of c.args.bytes.now in
    let none : first_rule (head_tests Base (c.args.n - c.args.at) c.args.token) ≡ None = sym c.head_rule.ensures ∙ c.in_default.is in
    c.in_ok-first.ensures.refused
    ∙ (ap (λ b. first (chain_faults Opcode b nothing (c.args.at + 1) (slice_range w (c.args.at + 1) (c.args.at + c.field.result)))) c.is_set.ensures
    ∙ (ap (λ l. first (chain_faults Opcode (follows c.args.token) nothing (c.args.at + 1) (slice_range w (c.args.at + 1) (c.args.at + l)))) c.field.ensures
    ∙ sym (head_in_program Base w c.args.n c.args.at c.args.token c.requires.inside c.requires.words none)))

pub returns-clause-extent : goal.returns-clause-extent
returns-clause-extent c =
    let w = words_of c.args.bytes.now in
    let e = c.requires.token in
    let none : first_rule (head_tests Base (c.args.n - c.args.at) (slice_index w c.args.at)) ≡ None =
    ap (λ t. first_rule (head_tests Base (c.args.n - c.args.at) t)) (sym e) ∙ (sym c.head_rule.ensures ∙ c.in_default.is) in
    head_spelled Base w c.args.n c.args.at (record { code = c.field-2.result; controls = c.field-3.result * 2048; first = c.in_ok-first.first; end = c.args.at + c.field.result })
    c.requires.inside c.requires.words (λ o. c.requires.other (ap opcode_of e ∙ o)) none
    (c.field-2.ensures ∙ ap opcode_of e)
    (ap (λ k. k * 2048) c.field-3.ensures ∙ ap controls_of e)
    (ap (λ l. c.args.at + l) (c.field.ensures ∙ ap length_of e))
    c.in_ok-first.ensures.within.0 c.in_ok-first.ensures.within.1
    (subst (λ b. IsChain b (slice_range w (c.args.at + 1) c.in_ok-first.first)) (c.is_set.ensures ∙ ap follows e) c.in_ok-first.ensures.chain)
    c.in_ok-first.ensures.taken
