use Rattle.std.proofs.Common.{◌≡◌, ℕ, ◌+◌, ◌/◌, ◌<◌, ◌≤◌, ◌++◌, subst, sym, ap, ◌∙◌, arith, min}
use Rattle.std.specs.Prelude.{Contains}
use Rattle.std.proofs.lemmas.List.{append-nil}
use Rattle.root_signature.specs.Layout.{words_from}
use Rattle.root_signature.specs.Covering.{each}
use Rattle.root_signature.specs.Refusals.{part_refusals, head_refusals, listed_refusals}
use Rattle.root_signature.specs.Bests.{IsBest, merged}
use Rattle.root_signature.proofs.Records.{record_list}
use Rattle.root_signature.proofs.Listed.{step, words_more, words_none, with_cut, listed}
use Rattle.root_signature.proofs.refusals.listed_refusal.Goals as goal

at_least : (a b m : ℕ) → m ≡ min a b → b < a → m ≡ b
at_least a b m e l = omega arith

at_most : (a b m : ℕ) → m ≡ min a b → a ≤ b → m ≡ a
at_most a b m e l = omega arith

together : (words more n before at : ℕ) → words ≡ before → more ≡ n → n ≡ at → words + more ≡ before + at
together words more n before at e f g = omega arith

pub loop-i-init : goal.loop-i-init
loop-i-init c = record {
  best = subst (λ xs. IsBest (Contains xs) c.head_refusal-best.result) (sym (append-nil (head_refusals c.args.content.now))) c.head_refusal-best.ensures;
  words = sym (words_none c.args.content.now);
  bound = omega arith;
}

pub loop-i-preserved : goal.loop-i-preserved
loop-i-preserved c = record {
  best = subst (IsBest (Contains (head_refusals c.args.content.now ++ each (c.loop-i.i + 1) (part_refusals c.args.content.now)))) (sym c.merged-best.ensures)
      (step (head_refusals c.args.content.now) (part_refusals c.args.content.now) c.loop-i.i c.loop-i.best c.part_refusal.result c.loop-i.invariant.best c.part_refusal.ensures);
  words = together c.loop-i.words c.from-words.result c.words_at.result _ _ c.loop-i.invariant.words c.from-words.ensures c.words_at.ensures ∙ sym (words_more c.args.content.now c.loop-i.i);
  bound = omega (arith, c.loop-i.invariant.bound, c.from-words.ensures, c.words_at.type_inv);
}

pub returns-then-whole-count : goal.returns-then-whole-count
returns-then-whole-count c =
    subst (IsBest (Contains (listed_refusals c.args.content.now))) (sym c.merged-best-then-whole-count.ensures)
    (listed c.args.content.now (merged c.loop-i.best c.record_refusal-cut.result) c.requires.header
    (subst (λ n. IsBest (Contains (head_refusals c.args.content.now ++ each n (part_refusals c.args.content.now))) (merged c.loop-i.best c.record_refusal-cut.result)) c.word-count.ensures
    (with_cut c.args.content.now c.whole_records-whole.result c.word-count.result c.loop-i.best c.record_refusal-cut.result c.requires.small
    (c.whole_records-whole.ensures.count ∙ ap (λ at. words_from c.args.content.now at / 3) c.word.ensures) c.if-whole-count.true
    (subst (λ n. IsBest (Contains (head_refusals c.args.content.now ++ each n (part_refusals c.args.content.now))) c.loop-i.best)
    (at_least c.word-count.result c.whole_records-whole.result c.loop-i.i (omega (arith, c.min-i-end.ensures, c.loop-i-test.false, c.loop-i.auto.i-end)) c.if-whole-count.true)
    c.loop-i.invariant.best)
    (subst (λ at. IsBest (Contains (record_list c.args.content.now at 3 4)) c.record_refusal-cut.result) c.parameter_at.ensures c.record_refusal-cut.ensures))))

pub returns-else-whole-count : goal.returns-else-whole-count
returns-else-whole-count c =
    listed c.args.content.now c.loop-i.best c.requires.header
    (subst (λ n. IsBest (Contains (head_refusals c.args.content.now ++ each n (part_refusals c.args.content.now))) c.loop-i.best)
    (at_most c.word-count.result c.whole_records-whole.result c.loop-i.i (omega (arith, c.min-i-end.ensures, c.loop-i-test.false, c.loop-i.auto.i-end)) c.if-whole-count.false ∙ c.word-count.ensures)
    c.loop-i.invariant.best)
