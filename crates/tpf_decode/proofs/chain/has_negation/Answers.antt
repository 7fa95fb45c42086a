use Rattle.std.proofs.Common.{◌≡◌, ℕ, ◌+◌, ◌-◌, ◌<◌, ◌≤◌, List, length, take, drop, Bool, true, false, ◌||◌, sym, ap, ◌∙◌, arith}
use Rattle.std.specs.Prelude.{slice_index, slice_range}
use Rattle.std.specs.List.{list_any}
use Rattle.word_base.specs.Words.{words_of}
use Rattle.tpf_decode.specs.Tokens.{is_negation}
use Rattle.tpf_decode.proofs.Ranges.{range_cons}
use Rattle.tpf_decode.proofs.chain.has_negation.Goals as goal

-- a word, and those behind it
passed : (words : List ℕ) (place end word : ℕ) (negates : Bool) → negates ≡ is_negation word → word ≡ slice_index words place → place < end → end ≤ length words
    → (negates || list_any is_negation (slice_range words (place + 1) end)) ≡ list_any is_negation (slice_range words place end)
passed words place end word negates e w h k =
    ap (λ t. t || list_any is_negation (slice_range words (place + 1) end)) (e ∙ ap is_negation w)
    ∙ sym (ap (list_any is_negation) (range_cons words place end h k))

pub returns-then-negates : goal.returns-then-negates
returns-then-negates c =
    passed (words_of c.args.bytes.now) c.loop-place.place c.args.end c.word.result true (sym c.if-negates.true ∙ c.negates.ensures)
    c.word.ensures c.loop-place-test.true c.requires.words
    ∙ c.loop-place.invariant

pub loop-place-preserved : goal.loop-place-preserved
loop-place-preserved c =
    passed (words_of c.args.bytes.now) c.loop-place.place c.args.end c.word.result false (sym c.if-negates.false ∙ c.negates.ensures)
    c.word.ensures c.loop-place-test.true c.requires.words
    ∙ c.loop-place.invariant

pub returns : goal.returns
returns c =
    let e : c.args.end - c.loop-place.place ≡ 0 = omega arith in
    ap (λ k. list_any is_negation (take k (drop c.loop-place.place (words_of c.args.bytes.now)))) (sym e) ∙ c.loop-place.invariant
