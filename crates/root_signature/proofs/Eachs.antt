-- Lists of lists, one for each number below another.
use Rattle.std.proofs.Common.{◌≡◌, ℕ, zero, suc, ◌+◌, ◌<◌, ◌≤◌, ◌⊎◌, inl, inr, ⊎_elim, List, [], ◌++◌, refl, sym, ap, ◌∙◌, subst, arith, append_assoc}
use Rattle.std.specs.Prelude.{Contains}
use Rattle.std.proofs.lemmas.Bool.Decides.{nat_tests}
use Rattle.std.proofs.lemmas.List.Elements.{Contains-append_left, Contains-append_right, Contains-append_cases}
use Rattle.std.proofs.lemmas.List.{append-nil}
use Rattle.root_signature.specs.Covering.{each}

pub in_each : {X : Type 0} (n : ℕ) (f : ℕ → List X) (x : X) → Contains (each n f) x → (j : ℕ) × (j < n) × Contains (f j) x
in_each zero f x h = absurd (omega (arith, h.1))
in_each {X} (suc n) f x h = ⊎_elim
    (λ m. let w : (j : ℕ) × (j < n) × Contains (f j) x = in_each n f x m in (w.0, omega (arith, w.1), w.2))
    (λ m. (n, omega arith, m)) (Contains-append_cases (each n f) (f n) x h)

pub each_in : {X : Type 0} (n : ℕ) (f : ℕ → List X) (x : X) (j : ℕ) → j < n → Contains (f j) x → Contains (each n f) x
each_in zero f x j l h = absurd (omega arith)
each_in {X} (suc n) f x j l h = at (cases j n) (λ b. each_in n f x j b h) where
  cases : (j n : ℕ) → (j < n) ⊎ (n ≤ j)
  cases j n = grind (arith, nat_tests)

  at : (j < n) ⊎ (n ≤ j) → (j < n → Contains (each n f) x) → Contains (each (suc n) f) x
  at (inl b) r = Contains-append_left (each n f) (f n) x (r b)
  at (inr b) r = Contains-append_right (each n f) (f n) x (subst (λ i. Contains (f i) x) (same j n b l) h) where
    same : (j n : ℕ) → n ≤ j → j < suc n → j ≡ n
    same j n b l = omega arith

-- what is empty behind a number adds nothing
pub each_short : {X : Type 0} (n m : ℕ) (f : ℕ → List X) → n ≤ m → ((j : ℕ) → n ≤ j → f j ≡ []) → each m f ≡ each n f
each_short n zero f l e = ap (λ x. each x f) (none n l) where
  none : (n : ℕ) → n ≤ 0 → 0 ≡ n
  none n l = omega arith
each_short {X} n (suc m) f l e = at (cases n m) (λ b. each_short n m f b e) where
  cases : (n m : ℕ) → (n ≤ m) ⊎ (m < n)
  cases n m = grind (arith, nat_tests)

  at : (n ≤ m) ⊎ (m < n) → (n ≤ m → each m f ≡ each n f) → each (suc m) f ≡ each n f
  at (inl b) r = ap (λ x. each m f ++ x) (e m b) ∙ (append-nil (each m f) ∙ r b)
  at (inr b) r = ap (λ x. each x f) (same n m l b) where
    same : (n m : ℕ) → n ≤ suc m → m < n → suc m ≡ n
    same n m l b = omega arith

-- so many, and so many more behind them
pub each_more : {X : Type 0} (n m : ℕ) (f : ℕ → List X) → each (n + m) f ≡ each n f ++ each m (λ j. f (n + j))
each_more n zero f = ap (λ x. each x f) (zero_more n) ∙ sym (append-nil (each n f)) where
  zero_more : (n : ℕ) → n + 0 ≡ n
  zero_more n = omega arith
each_more n (suc m) f =
    ap (λ x. each x f) (suc_more n m) ∙ (ap (λ x. x ++ f (n + m)) (each_more n m f) ∙ append_assoc (each n f) (each m (λ j. f (n + j))) (f (n + m))) where
      suc_more : (n m : ℕ) → n + suc m ≡ suc (n + m)
      suc_more n m = omega arith

pub each_same : {X : Type 0} (n : ℕ) (f g : ℕ → List X) → ((j : ℕ) → j < n → f j ≡ g j) → each n f ≡ each n g
each_same zero f g e = refl
each_same {X} (suc n) f g e = ap (λ x. x ++ f n) (each_same n f g (λ j l. e j (omega arith))) ∙ ap (λ x. each n g ++ x) (e n (omega arith))
