use Rattle.std.proofs.Common.{◌≡◌, ℕ, suc, ◌+◌, ◌/◌, ◌≤◌, [], List, min, Option, subst, sym, ap, ◌∙◌, arith, refl}
use Rattle.word_base.specs.declared.rule.Refusal.{Refusal}
use Rattle.root_signature.specs.declared.covers.Entry.{Entry}
use Rattle.root_signature.specs.Layout.{word, words_from}
use Rattle.root_signature.specs.Covering.{covered_below, all_covered, words_before}
use Rattle.root_signature.specs.Thinning.{FindsIn}
use Rattle.root_signature.proofs.Listed.{words_more, words_none, one_more}
use Rattle.root_signature.proofs.Finding.{finds_fewer}
use Rattle.root_signature.proofs.Covered.{all_there, words_grow}
use Rattle.root_signature.proofs.entries.all_entries.Goals as goal

next : (content : List ℕ) (i words : ℕ) (entries : List Entry) (marks : List ℕ) (again : Option Refusal) → words ≡ words_before content i
    → FindsIn content (covered_below content (suc i)) words entries marks again → FindsIn content (covered_below content (i + 1)) (words_before content (i + 1)) entries marks again
next content i words entries marks again e h =
    subst (λ n. FindsIn content (covered_below content n) (words_before content (i + 1)) entries marks again) (one_more i)
    (finds_fewer content (covered_below content (suc i)) words (words_before content (i + 1)) entries marks again (omega (arith, e, words_grow content i)) h)

last : (i n m : ℕ) → i ≤ n → n ≤ i → n ≡ m → i ≡ m
last i n m l k e = omega arith

pub loop-i-init : goal.loop-i-init
loop-i-init c = record {
  found = subst (λ n. FindsIn c.args.content.now [] n c.in_ok-found.found.entries.items c.in_ok-found.found.marks.items c.in_ok-found.found.again) (sym (words_none c.args.content.now))
      (c.in_ok-found.ensures.found c.args.content.now refl);
  ready = (c.in_ok-found.ensures.found c.args.content.now refl).ready;
  words = sym (words_none c.args.content.now);
  bound = omega arith;
  room = omega (arith, c.in_ok-found.ensures.room);
}

pub loop-i-preserved : goal.loop-i-preserved
loop-i-preserved c = record {
  found = next c.args.content.now c.loop-i.i c.loop-i.words c.add.new.self.entries.items c.add.new.self.marks.items c.add.new.self.again c.loop-i.invariant.words
      (c.in_ok-add.ensures.found (covered_below c.args.content.now c.loop-i.i)
      (subst (λ n. FindsIn c.args.content.now (covered_below c.args.content.now c.loop-i.i) n c.loop-i.found.entries.items c.loop-i.found.marks.items c.loop-i.found.again)
      (sym c.loop-i.invariant.words) c.loop-i.invariant.found));
  ready = c.in_ok-add.ensures.ready;
  words = ap (λ n. n + c.from-words.result) c.loop-i.invariant.words
      ∙ (ap (λ n. words_before c.args.content.now c.loop-i.i + n) (c.from-words.ensures ∙ c.words_at.ensures) ∙ sym (words_more c.args.content.now c.loop-i.i));
  bound = omega (arith, c.loop-i.invariant.bound, c.from-words.ensures, c.words_at.type_inv);
  room = omega (arith, c.loop-i.invariant.room, c.in_ok-add.ensures.room);
}

pub returns-clause-found : goal.returns-clause-found
returns-clause-found c =
    let done : c.loop-i.i ≡ min (word c.args.content.now 4) c.whole_records-whole.result =
    last c.loop-i.i c.min-i-end.result (min (word c.args.content.now 4) c.whole_records-whole.result) (omega (arith, c.loop-i.auto.i-end)) (omega (arith, c.loop-i-test.false))
    (c.min-i-end.ensures ∙ ap (λ n. min n c.whole_records-whole.result) c.word-2.ensures) in
    let there = all_there c.args.content.now c.whole_records-whole.result c.loop-i.i c.requires.header
    (c.whole_records-whole.ensures.count ∙ ap (λ at. words_from c.args.content.now at / 3) c.word.ensures) done in
    subst (λ n. FindsIn c.args.content.now (all_covered c.args.content.now) n c.loop-i.found.entries.items c.loop-i.found.marks.items c.loop-i.found.again) there.1
    (subst (λ xs. FindsIn c.args.content.now xs (words_before c.args.content.now c.loop-i.i) c.loop-i.found.entries.items c.loop-i.found.marks.items c.loop-i.found.again) there.0
    c.loop-i.invariant.found)
