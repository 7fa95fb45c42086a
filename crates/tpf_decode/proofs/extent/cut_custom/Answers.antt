use Rattle.std.proofs.Common.{◌≡◌, ◌<◌, ◌+◌, ◌-◌, ◌*◌, true, false, not, refl, sym, ap, ◌∙◌, arith}
use Rattle.std.specs.Prelude.{slice_range, slice_index}
use Rattle.word_base.specs.declared.rule.Rule.TheVariants.{K13}
use Rattle.word_base.specs.Words.{words_of}
use Rattle.word_base.specs.Rules.{broken, first}
use Rattle.tpf_decode.specs.Tokens.{class_of, opcode_of, controls_of}
use Rattle.tpf_decode.specs.Refusals.{refusal_of, is_custom, is_custom_size}
use Rattle.tpf_decode.specs.Profiles.{Base}
use Rattle.tpf_decode.proofs.Heads.{custom_size, no_size, custom_spelled}
use Rattle.tpf_decode.proofs.extent.cut_custom.Goals as goal

pub returns-then-n-at-lt2-clause-refused : goal.returns-then-n-at-lt2-clause-refused
returns-then-n-at-lt2-clause-refused c =
    ap refusal_of c.refuse.ensures
    ∙ sym (ap (λ b. first (broken (not b) K13 c.args.at)) (no_size (words_of c.args.bytes.now) c.args.n c.args.at c.args.token c.if-n-at-lt2.true))

pub returns-then-not-is_sound_size-clause-refused : goal.returns-then-not-is_sound_size-clause-refused
returns-then-not-is_sound_size-clause-refused c =
    let h : c.args.at + 1 < c.args.n = omega arith in
    let t : is_custom c.args.token (slice_range (words_of c.args.bytes.now) (c.args.at + 1) c.args.n) ≡ false =
    custom_size (words_of c.args.bytes.now) c.args.n c.args.at c.args.token h c.requires.words
    ∙ (ap (λ s. is_custom_size (class_of c.args.token) s (c.args.n - c.args.at)) (sym c.word-size.ensures)
    ∙ (ap (λ k. is_custom_size k c.word-size.result (c.args.n - c.args.at)) (sym c.field.ensures)
    ∙ (sym c.is_sound_size.ensures ∙ c.if-not-is_sound_size.true))) in
    ap refusal_of c.refuse-then-not-is_sound_size.ensures ∙ sym (ap (λ b. first (broken (not b) K13 c.args.at)) t)

pub returns-clause-refused : goal.returns-clause-refused
returns-clause-refused c =
    let h : c.args.at + 1 < c.args.n = omega arith in
    let t : is_custom c.args.token (slice_range (words_of c.args.bytes.now) (c.args.at + 1) c.args.n) ≡ true =
    custom_size (words_of c.args.bytes.now) c.args.n c.args.at c.args.token h c.requires.words
    ∙ (ap (λ s. is_custom_size (class_of c.args.token) s (c.args.n - c.args.at)) (sym c.word-size.ensures)
    ∙ (ap (λ k. is_custom_size k c.word-size.result (c.args.n - c.args.at)) (sym c.field.ensures)
    ∙ (sym c.is_sound_size.ensures ∙ c.if-not-is_sound_size.false))) in
    sym (ap (λ b. first (broken (not b) K13 c.args.at)) t)

pub returns-clause-extent : goal.returns-clause-extent
returns-clause-extent c =
    let w = words_of c.args.bytes.now in
    let h : c.args.at + 1 < c.args.n = omega arith in
    let t : is_custom_size (class_of (slice_index w c.args.at)) (slice_index w (c.args.at + 1)) (c.args.n - c.args.at) ≡ true =
    ap (λ s. is_custom_size (class_of (slice_index w c.args.at)) s (c.args.n - c.args.at)) (sym c.word-size.ensures)
    ∙ (ap (λ k. is_custom_size (class_of k) c.word-size.result (c.args.n - c.args.at)) (sym c.requires.token)
    ∙ (ap (λ k. is_custom_size k c.word-size.result (c.args.n - c.args.at)) (sym c.field.ensures)
    ∙ (sym c.is_sound_size.ensures ∙ c.if-not-is_sound_size.false))) in
    custom_spelled Base w c.args.n c.args.at (record { code = c.field-2.result; controls = c.field-3.result * 2048; first = c.args.at + 1; end = c.args.at + c.word-size.result })
    h c.requires.words (ap opcode_of (sym c.requires.token) ∙ c.requires.custom) t
    (c.field-2.ensures ∙ ap opcode_of c.requires.token)
    (ap (λ k. k * 2048) c.field-3.ensures ∙ ap controls_of c.requires.token)
    refl (ap (λ s. c.args.at + s) c.word-size.ensures)
