use Rattle.std.proofs.Common.{◌≡◌, ◌<◌, ◌≤◌, ◌+◌, ◌∷◌, ℕ, List, true, false, length, not, nat_eq, sym, ap, ◌∙◌, arith}
use Rattle.std.specs.Prelude.{slice_range, slice_index, if◌then◌else◌}
use Rattle.std.proofs.lemmas.Bool.Decides.{nat_tests}
use Rattle.word_base.specs.declared.rule.Rule.TheVariants.{K13}
use Rattle.word_base.specs.Words.{words_of}
use Rattle.word_base.specs.Rules.{broken, first}
use Rattle.tpf_decode.specs.Profiles.{Base}
use Rattle.tpf_decode.specs.Tokens.{opcode_of}
use Rattle.tpf_decode.specs.Refusals.{cut_faults, head_faults, is_custom, nothing}
use Rattle.tpf_decode.proofs.Ranges.{range_cons}
use Rattle.tpf_decode.proofs.extent.cut.Goals as goal

-- the words from a place on, by what its opcode is
at_place : (words : List ℕ) (n at token : ℕ) → at < n → n ≤ length words → token ≡ slice_index words at
    → cut_faults Base at (slice_range words at n) ≡ (if nat_eq (opcode_of token) 53 then broken (not (is_custom token (slice_range words (at + 1) n))) K13 at else head_faults Base nothing at token (slice_range words (at + 1) n))
at_place words n at token h k e =
    ap (cut_faults Base at) (range_cons words at n h k) ∙ ap (λ t. cut_faults Base at (t ∷ slice_range words (at + 1) n)) (sym e)

pub returns-then-field-eq-CUSTOM_DATA-clause-refused : goal.returns-then-field-eq-CUSTOM_DATA-clause-refused
returns-then-field-eq-CUSTOM_DATA-clause-refused c =
    let w = words_of c.args.bytes.now in
    let t = c.word-token.result in
    let b : nat_eq (opcode_of t) 53 ≡ true = ap (λ k. nat_eq k 53) (sym c.field.ensures ∙ c.if-field-eq-CUSTOM_DATA.true) in
    c.cut_custom.ensures.refused
    ∙ sym (ap first (at_place w c.args.n c.args.at t c.requires.inside c.requires.words c.word-token.ensures
    ∙ ap (λ b. if b then broken (not (is_custom t (slice_range w (c.args.at + 1) c.args.n))) K13 c.args.at else head_faults Base nothing c.args.at t (slice_range w (c.args.at + 1) c.args.n)) b))

pub returns-else-field-eq-CUSTOM_DATA-clause-refused : goal.returns-else-field-eq-CUSTOM_DATA-clause-refused
returns-else-field-eq-CUSTOM_DATA-clause-refused c =
    let w = words_of c.args.bytes.now in
    let t = c.word-token.result in
    let b : nat_eq (opcode_of t) 53 ≡ false = grind (arith, nat_tests, c.field.ensures) in
    c.cut_head.ensures.refused
    ∙ sym (ap first (at_place w c.args.n c.args.at t c.requires.inside c.requires.words c.word-token.ensures
    ∙ ap (λ b. if b then broken (not (is_custom t (slice_range w (c.args.at + 1) c.args.n))) K13 c.args.at else head_faults Base nothing c.args.at t (slice_range w (c.args.at + 1) c.args.n)) b))
