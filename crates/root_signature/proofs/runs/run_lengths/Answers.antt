use Rattle.std.proofs.Common.{◌≡◌, ℕ, ◌+◌, ◌-◌, ◌*◌, ◌<◌, ◌≤◌, Bool, length, true, false, List, get_or, set, subst, sym, ◌∙◌, arith}
use Rattle.root_signature.specs.Layout.{range_words}
use Rattle.root_signature.specs.Runs.{passes}
use Rattle.root_signature.specs.Lengths.{RunsFrom}
use Rattle.root_signature.proofs.Filled.{nothing_yet, fails_here, passes_here, filled}
use Rattle.root_signature.proofs.Whole.{passes_past}
use Rattle.root_signature.proofs.runs.run_lengths.Goals as goal

next : (test : ℕ → Bool) (step n at m : ℕ) (runs : List ℕ) → RunsFrom test step n at runs → 0 < at → 0 < step → test (at - 1) ≡ true
    → m ≡ get_or runs (at - 1 + step) 0 → RunsFrom test step n (at - 1) (set runs (at - 1) (m + 1))
next test step n at m runs h p s e r =
    subst (λ x. RunsFrom test step n (at - 1) (set runs (at - 1) (x + 1))) (sym r)
    (passes_here test step n (at - 1) runs (subst (λ x. RunsFrom test step n x runs) (one at p) h) s (omega (arith, h.within)) e) where
      one : (a : ℕ) → 0 < a → a ≡ a - 1 + 1
      one a p = omega arith

passed_over : (test : ℕ → Bool) (step n at : ℕ) (runs : List ℕ) → RunsFrom test step n at runs → 0 < at → test (at - 1) ≡ false → RunsFrom test step n (at - 1) runs
passed_over test step n at runs h p e = fails_here test step n (at - 1) runs (subst (λ x. RunsFrom test step n x runs) (one at p) h) e where
  one : (a : ℕ) → 0 < a → a ≡ a - 1 + 1
  one a p = omega arith

pub loop-at-init : goal.loop-at-init
loop-at-init c =
    subst (λ runs. RunsFrom (passes c.args.test c.args.content.now) (4 * c.range_words-step.result) (length c.args.content.now) (length c.args.content.now) runs)
    (sym c.in_ok-runs.ensures)
    (nothing_yet (passes c.args.test c.args.content.now) (4 * c.range_words-step.result) (length c.args.content.now) (passes_past c.args.test c.args.content.now))

pub passes-requires-clause-small : goal.passes-requires-clause-small
passes-requires-clause-small c = omega (arith, c.requires.small, c.loop-at.invariant.within)

pub loop-at-preserved-then-passes : goal.loop-at-preserved-then-passes
loop-at-preserved-then-passes c =
    next (passes c.args.test c.args.content.now) (4 * c.range_words-step.result) (length c.args.content.now) c.loop-at.at c.number_at.result c.loop-at.runs.items
    c.loop-at.invariant (omega arith) (omega (arith, c.range_words-step.ensures.least)) (sym c.passes.ensures ∙ c.if-passes.true)
    (subst (λ runs. c.number_at.result ≡ get_or runs (c.loop-at.at - 1 + 4 * c.range_words-step.result) 0) c.deref.ensures.value c.number_at.ensures)

pub loop-at-preserved : goal.loop-at-preserved
loop-at-preserved c =
    passed_over (passes c.args.test c.args.content.now) (4 * c.range_words-step.result) (length c.args.content.now) c.loop-at.at c.loop-at.runs.items
    c.loop-at.invariant (omega arith) (sym c.passes.ensures ∙ c.if-passes.false)

pub returns : goal.returns
returns c =
    filled (passes c.args.test c.args.content.now) (4 * range_words c.args.content.now) (length c.args.content.now) c.loop-at.runs.items
    (subst (λ n. RunsFrom (passes c.args.test c.args.content.now) (4 * n) (length c.args.content.now) 0 c.loop-at.runs.items) c.range_words-step.ensures.count
    (subst (λ n. RunsFrom (passes c.args.test c.args.content.now) (4 * c.range_words-step.result) (length c.args.content.now) n c.loop-at.runs.items)
    (none c.loop-at.at (omega (arith, c.loop-at-test.false))) c.loop-at.invariant)) where
      none : (n : ℕ) → n ≤ 0 → n ≡ 0
      none n h = omega arith
