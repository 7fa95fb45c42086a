-- Marks: one more step of marking, and the whole.
use Rattle.std.proofs.Common.{◌≡◌, ◌≢◌, ℕ, ◌+◌, ◌-◌, ◌*◌, ◌<◌, ◌≤◌, ◌⊎◌, inl, inr, ⊎_elim, cond, List, length, get_or, set, refl, sym, ◌∙◌, subst, arith, length-set}
use Rattle.std.specs.Prelude.{nat_eq}
use Rattle.std.proofs.Math.Nat.{mul-add, le_of_mul-le-mul_left}
use Rattle.std.proofs.lemmas.Bool.Decides.{nat_tests}
use Rattle.std.proofs.lemmas.List.{get_or-set_same, get_or-set_other}
use Rattle.std.proofs.lemmas.List.Sums.{sum_by-set}
use Rattle.root_signature.specs.Runs.{AreMarks, Marks, Marking, unmarked}

same_or_not : (a b : ℕ) → (a ≡ b) ⊎ (a ≢ b)
same_or_not a b = grind (arith, nat_tests)

none_of : (n : ℕ) → 0 < n → cond {A = ℕ} (nat_eq n 0) 1 0 ≡ 0
none_of n h = grind (arith, nat_tests)

some_of : (n : ℕ) → n ≡ 0 → cond {A = ℕ} (nat_eq n 0) 1 0 ≡ 1
some_of n h = grind (arith, nat_tests)

-- a number above 0 is written
pub fewer_set : (marks : List ℕ) (at n : ℕ) → at < length marks → 0 < n → unmarked (set marks at n) ≤ unmarked marks
fewer_set marks at n l h = omega (arith, sum_by-set (λ x. cond (nat_eq x 0) 1 0) marks at n 0 l, none_of n h)

-- a place that was not marked is
pub one_fewer : (marks : List ℕ) (at n : ℕ) → at < length marks → 0 < n → get_or marks at 0 ≡ 0 → unmarked (set marks at n) + 1 ≡ unmarked marks
one_fewer marks at n l h e = omega (arith, sum_by-set (λ x. cond (nat_eq x 0) 1 0) marks at n 0 l, none_of n h, some_of (get_or marks at 0) e)

cancelled : (s m j : ℕ) → 0 < s → s * m ≡ s * j → m ≡ j
cancelled s m j p e =
    omega (arith, le_of_mul-le-mul_left {m = m} {n = j} {k = s} (omega (arith, e)) p, le_of_mul-le-mul_left {m = j} {n = m} {k = s} (omega (arith, e)) p)

-- the place with the number m, counted from the one with the number j
pub further : (s a j m k : ℕ) → m ≡ j + k → a + s * j + s * k ≡ a + s * m
further s a j m k e = subst (λ x. a + s * j + s * k ≡ a + s * x) (sym e) (omega (arith, mul-add s j k))

module _ (step start count j : ℕ) (old new : List ℕ) (h : Marking step start count j old new) (are : AreMarks step old) (some : 0 < step) (l : j < count)
    (inside : start + step * j < length new) where
  apart : (m : ℕ) → m ≢ j → (start + step * m) ≢ (start + step * j)
  apart m n e = n (cancelled step m j some (omega (arith, e)))

  below : (i m : ℕ) → j < m → m < i → (i ≤ j + 1) ⊎ (i ≤ j + get_or new (start + step * j) 0) → m - j < get_or old (start + step * j) 0
  below i m a b (inl e) = absurd (omega arith)
  below i m a b (inr e) = omega (arith, h.ahead j (omega arith) l)

  -- what stands behind, by the number that was there
  from_run : (i m : ℕ) → j < m → m < i → (i ≤ j + 1) ⊎ (i ≤ j + get_or new (start + step * j) 0) → 0 < get_or old (start + step * m) 0
  from_run i m a b r =
      subst (λ x. 0 < get_or old x 0) (further step start j m (m - j) (omega arith)) (are (start + step * j) (m - j) (below i m a b r))

  left_at : (n : ℕ) → get_or (set new (start + step * j) n) (start + step * j) 0 ≡ n
  left_at n = get_or-set_same new (start + step * j) n 0 inside

  other_at : (n at : ℕ) → at ≢ (start + step * j) → get_or (set new (start + step * j) n) at 0 ≡ get_or new at 0
  other_at n at d = get_or-set_other new (start + step * j) at n 0 d

  more_kept : (n at : ℕ) → 0 < n → 0 < get_or new at 0 → 0 < get_or (set new (start + step * j) n) at 0
  more_kept n at p q = ⊎_elim
      (λ (e : at ≡ start + step * j). subst (λ x. 0 < get_or (set new (start + step * j) n) x 0) (sym e) (omega (arith, left_at n)))
      (λ d. omega (arith, other_at n at d)) (same_or_not at (start + step * j))

  added_by : (i m : ℕ) (next : List ℕ) → ((at : ℕ) → 0 < get_or new at 0 → 0 < get_or next at 0) → 0 < get_or next (start + step * j) 0
      → (i ≤ j + 1) ⊎ (i ≤ j + get_or new (start + step * j) 0) → m < i → (m < j) ⊎ ((m ≡ j) ⊎ (j < m)) → 0 < get_or next (start + step * m) 0
  added_by i m next f p r b (inl a) = f (start + step * m) (h.added m a)
  added_by i m next f p r b (inr (inl e)) = subst (λ x. 0 < get_or next (start + step * x) 0) (sym e) p
  added_by i m next f p r b (inr (inr a)) = f (start + step * m) (h.kept (start + step * m) (from_run i m a b r))

  three : (m : ℕ) → (m < j) ⊎ ((m ≡ j) ⊎ (j < m))
  three m = grind (arith, nat_tests)

  -- the number of the places from here on is written
  pub more_written : (i : ℕ) → j < i → i ≤ count → (i ≤ j + 1) ⊎ (i ≤ j + get_or new (start + step * j) 0)
      → Marking step start count i old (set new (start + step * j) (count - j))
  more_written i a b r = record {
    size = length-set new (start + step * j) (count - j) ∙ h.size;
    kept = λ at p. more_kept (count - j) at (omega arith) (h.kept at p);
    reaches = λ at k p. ⊎_elim
        (λ (e : at ≡ start + step * j).
        let q : k < count - j = subst (λ x. k < x) (left_at (count - j)) (subst (λ x. k < get_or (set new (start + step * j) (count - j)) x 0) e p) in
        inr (j + k, omega arith, subst (λ x. x + step * k ≡ start + step * (j + k)) (sym e) (further step start j (j + k) k refl)))
        (λ d. h.reaches at k (omega (arith, other_at (count - j) at d))) (same_or_not at (start + step * j));
    ahead = λ m p q. other_at (count - j) (start + step * m) (apart m (omega arith)) ∙ h.ahead m (omega arith) q;
    added = λ m p. added_by i m (set new (start + step * j) (count - j)) (λ at q. more_kept (count - j) at (omega arith) q) (omega (arith, left_at (count - j))) r p (three m);
    only = λ at p. ⊎_elim
        (λ (e : at ≡ start + step * j). inr (j, l, e))
        (λ d. h.only at (omega (arith, other_at (count - j) at d))) (same_or_not at (start + step * j));
    fewer = omega (arith, fewer_set new (start + step * j) (count - j) inside (omega arith), h.fewer);
    within = b;
  }

  -- the number that is there reaches as far
  pub more_passed : (i : ℕ) → j < i → i ≤ count → (i ≤ j + 1) ⊎ (i ≤ j + get_or new (start + step * j) 0) → 0 < get_or new (start + step * j) 0
      → Marking step start count i old new
  more_passed i a b r p = record {
    size = h.size;
    kept = h.kept;
    reaches = h.reaches;
    ahead = λ m q s. h.ahead m (omega arith) s;
    added = λ m q. added_by i m new (λ at s. s) p r q (three m);
    only = h.only;
    fewer = h.fewer;
    within = b;
  }

pub none_yet : (step start count : ℕ) (marks : List ℕ) → Marking step start count 0 marks marks
none_yet step start count marks = record {
  size = refl;
  kept = λ at p. p;
  reaches = λ at k p. inl p;
  ahead = λ m p q. refl;
  added = λ m p. absurd (omega arith);
  only = λ at p. inl p;
  fewer = omega arith;
  within = omega arith;
}

pub all_marked : (step start count j : ℕ) (old new : List ℕ) → AreMarks step old → count ≤ j → Marking step start count j old new → Marks step start count old new
all_marked step start count j old new are l h = record {
  marks = λ at k p. ⊎_elim
      (λ (q : k < get_or old at 0). h.kept (at + step * k) (are at k q))
      (λ w. subst (λ x. 0 < get_or new x 0) (sym w.2) (h.added w.0 (omega (arith, w.1)))) (h.reaches at k p);
  size = h.size;
  kept = h.kept;
  added = λ m p. h.added m (omega arith);
  only = h.only;
  fewer = h.fewer;
}
