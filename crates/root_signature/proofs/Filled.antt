-- Tables that are filled from the end on: one more place.
use Rattle.std.proofs.Common.{◌≡◌, ◌≢◌, ℕ, zero, suc, ◌+◌, ◌-◌, ◌*◌, ◌<◌, ◌≤◌, ◌⊎◌, ⊎_elim, Bool, true, false, List, get_or, set, replicate, sym, ap, ◌∙◌, subst, arith, length-set}
use Rattle.std.proofs.Math.Nat.{mul-add}
use Rattle.std.proofs.lemmas.Bool.Decides.{nat_tests}
use Rattle.std.proofs.lemmas.List.{get_or-set_same, get_or-set_other, get_or-replicate, get_or_past, length-replicate}
use Rattle.root_signature.specs.Lengths.{RunsFrom}
use Rattle.root_signature.specs.Runs.{AreRuns}

same_or_not : (a b : ℕ) → (a ≡ b) ⊎ (a ≢ b)
same_or_not a b = grind (arith, nat_tests)

within_or_past : (a b : ℕ) → (a < b) ⊎ (b ≤ a)
within_or_past a b = grind (arith, nat_tests)

at_start : (step at : ℕ) → at + step * 0 ≡ at
at_start step at = omega arith

one_on : (step at k : ℕ) → at + step + step * k ≡ at + step * (k + 1)
one_on step at k = omega (arith, mul-add step k 1)

pub zeros : (n at : ℕ) → get_or {A = ℕ} (replicate n 0) at 0 ≡ 0
zeros n at = ⊎_elim (λ l. get_or-replicate n at 0 0 l) (λ l. get_or_past (replicate n 0) at 0 (omega (arith, length-replicate {A = ℕ} n 0))) (within_or_past at n)

pub nothing_yet : (test : ℕ → Bool) (step n : ℕ) → ((at : ℕ) → n ≤ at → test at ≡ false) → RunsFrom test step n n (replicate n 0)
nothing_yet test step n past = record {
  size = length-replicate n 0;
  within = omega arith;
  empty = λ at l. zeros n at;
  bound = λ at. omega (arith, zeros n at);
  passed = λ at k l. absurd (omega (arith, zeros n at));
  ended = λ at l. subst (λ x. test (at + step * x) ≡ false) (sym (zeros n at)) (subst (λ x. test x ≡ false) (sym (at_start step at)) (past at l));
}

-- a place that does not pass
pub fails_here : (test : ℕ → Bool) (step n at : ℕ) (runs : List ℕ) → RunsFrom test step n (at + 1) runs → test at ≡ false → RunsFrom test step n at runs
fails_here test step n at runs h e = record {
  size = h.size;
  within = omega (arith, h.within);
  empty = λ i l. h.empty i (omega arith);
  bound = h.bound;
  passed = h.passed;
  ended = λ i l. ⊎_elim
      (λ (s : i ≡ at). subst (λ x. test (x + step * get_or runs x 0) ≡ false) (sym s)
      (subst (λ x. test (at + step * x) ≡ false) (sym (h.empty at (omega arith))) (subst (λ x. test x ≡ false) (sym (at_start step at)) e)))
      (λ d. h.ended i (omega arith)) (same_or_not i at);
}

module _ (test : ℕ → Bool) (step n at : ℕ) (runs : List ℕ) (h : RunsFrom test step n (at + 1) runs) (some : 0 < step) (l : at < n) (e : test at ≡ true) where
  behind : ℕ
  behind = get_or runs (at + step) 0

  table : List ℕ
  table = set runs at (get_or runs (at + step) 0 + 1)

  here : get_or (set runs at (get_or runs (at + step) 0 + 1)) at 0 ≡ get_or runs (at + step) 0 + 1
  here = get_or-set_same runs at (get_or runs (at + step) 0 + 1) 0 (omega (arith, h.size))

  elsewhere : (i : ℕ) → i ≢ at → get_or (set runs at (get_or runs (at + step) 0 + 1)) i 0 ≡ get_or runs i 0
  elsewhere i d = get_or-set_other runs at i (get_or runs (at + step) 0 + 1) 0 d

  bound_here : get_or runs (at + step) 0 + 1 ≤ n - at
  bound_here = omega (arith, h.bound (at + step))

  passed_here : (k : ℕ) → k < get_or runs (at + step) 0 + 1 → test (at + step * k) ≡ true
  passed_here zero b = subst (λ x. test x ≡ true) (sym (at_start step at)) e
  passed_here (suc k) b = subst (λ x. test x ≡ true) (one_on step at k ∙ ap (λ x. at + step * x) (add_one k)) (h.passed (at + step) k (omega arith)) where
    add_one : (k : ℕ) → k + 1 ≡ suc k
    add_one k = omega arith

  pub passes_here : RunsFrom test step n at (set runs at (get_or runs (at + step) 0 + 1))
  passes_here = record {
    size = length-set runs at (get_or runs (at + step) 0 + 1) ∙ h.size;
    within = omega (arith, h.within);
    empty = λ i b. elsewhere i (omega arith) ∙ h.empty i (omega arith);
    bound = λ i. ⊎_elim
        (λ (s : i ≡ at). subst (λ x. get_or (set runs at (get_or runs (at + step) 0 + 1)) x 0 ≤ n - x) (sym s) (omega (arith, here, bound_here)))
        (λ d. omega (arith, elsewhere i d, h.bound i)) (same_or_not i at);
    passed = λ i k b. ⊎_elim
        (λ (s : i ≡ at). subst (λ x. test (x + step * k) ≡ true) (sym s)
        (passed_here k (subst (λ x. k < x) here (subst (λ x. k < get_or (set runs at (get_or runs (at + step) 0 + 1)) x 0) s b))))
        (λ d. h.passed i k (subst (λ x. k < x) (elsewhere i d) b)) (same_or_not i at);
    ended = λ i b. ⊎_elim
        (λ (s : i ≡ at). subst (λ x. test (x + step * get_or (set runs at (get_or runs (at + step) 0 + 1)) x 0) ≡ false) (sym s)
        (subst (λ x. test (at + step * x) ≡ false) (sym here)
        (subst (λ x. test x ≡ false) (one_on step at (get_or runs (at + step) 0)) (h.ended (at + step) (omega arith)))))
        (λ d. subst (λ x. test (i + step * x) ≡ false) (sym (elsewhere i d)) (h.ended i (omega arith))) (same_or_not i at);
  }

pub filled : (test : ℕ → Bool) (step n : ℕ) (runs : List ℕ) → RunsFrom test step n 0 runs → AreRuns test step runs
filled test step n runs h = record { passed = h.passed; ended = λ at. h.ended at (omega arith) }
