use Rattle.std.proofs.Common.{◌<◌, ◌+◌, Some, sym, ap, ◌∙◌, subst, arith}
use Rattle.std.specs.Prelude.{slice_range}
use Rattle.word_base.specs.Words.{words_of}
use Rattle.word_base.specs.Rules.{first, refusal}
use Rattle.tpf_decode.specs.Refusals.{refusal_of, nothing}
use Rattle.tpf_decode.proofs.Chains.{Leads, chain_of, walked_further, Walked, first_at_end, first_not_taken, first_behind, nothing_orderly}
use Rattle.tpf_decode.proofs.chain.chain_end.Goals as goal

pub returns-then-place-end-clause-refused : goal.returns-then-place-end-clause-refused
returns-then-place-end-clause-refused c =
    ap refusal_of c.refuse.ensures
    ∙ sym (first_at_end c.args.of (words_of c.args.bytes.now) c.args.follows c.loop-more.more c.args.start c.loop-more.place c.args.end nothing c.loop-more.invariant c.requires.words c.loop-more-test.true c.if-place-end.true)

pub returns-then-not-takes-clause-refused : goal.returns-then-not-takes-clause-refused
returns-then-not-takes-clause-refused c =
    let l : c.loop-more.place < c.args.end = omega arith in
    ap refusal_of c.refuse-then-not-takes.ensures
    ∙ (ap (λ r. Some (refusal r c.loop-more.place)) c.rule.ensures ∙ sym (first_not_taken c.args.of (words_of c.args.bytes.now) c.args.follows c.loop-more.more c.args.start c.loop-more.place c.args.end c.word-token.result nothing nothing_orderly c.loop-more.invariant c.requires.words c.loop-more-test.true l c.word-token.ensures (sym c.takes.ensures ∙ c.if-not-takes.true)))

pub loop-more-preserved : goal.loop-more-preserved
loop-more-preserved c =
    let l : c.loop-more.place < c.args.end = omega arith in
    let w = subst (λ b. Walked c.args.of (words_of c.args.bytes.now) c.args.follows b c.args.start c.loop-more.place c.args.end) c.loop-more-test.true c.loop-more.invariant in
    subst (λ b. Walked c.args.of (words_of c.args.bytes.now) c.args.follows b c.args.start (c.loop-more.place + 1) c.args.end) (sym c.is_set-more.ensures)
    (walked_further c.args.of (words_of c.args.bytes.now) c.args.follows c.args.start c.loop-more.place c.args.end c.word-token.result w l c.requires.words c.word-token.ensures (sym c.takes.ensures ∙ c.if-not-takes.false))

pub returns-clause-refused : goal.returns-clause-refused
returns-clause-refused c =
    sym (ap first (first_behind c.args.of (words_of c.args.bytes.now) c.args.follows c.loop-more.more c.args.start c.loop-more.place c.args.end nothing c.loop-more.invariant c.requires.words c.loop-more-test.false))

pub returns-clause-chain : goal.returns-clause-chain
returns-clause-chain c =
    chain_of c.args.follows (slice_range (words_of c.args.bytes.now) c.args.start c.loop-more.place)
    (subst (λ b. Leads c.args.follows (slice_range (words_of c.args.bytes.now) c.args.start c.loop-more.place) b) c.loop-more-test.false c.loop-more.invariant.leads)
