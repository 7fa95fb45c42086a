-- Tests that go over a list, and what they have met.
use Rattle.std.proofs.Common.{◌≡◌, ℕ, zero, suc, ◌+◌, Bool, true, false, List, [], ◌∷◌, take, Some, refl, sym, ap, ◌∙◌, arith}
use Rattle.std.specs.Prelude.{slice_get, ◌||◌}
use Rattle.std.specs.List.{list_any}

module _ {X : Type 0} (f : X → Bool) where
  any_suc : (xs : List X) (k : ℕ) (x : X) → slice_get xs k ≡ Some x → f x ≡ false → list_any f (take k xs) ≡ false
      → list_any f (take (suc k) xs) ≡ false
  any_suc [] k x g e h = absurd (cc g)
  any_suc (y ∷ ys) zero x g e h = let q : f y ≡ false = ap f (cc g) ∙ e in ap (λ b. b || false) q
  any_suc (y ∷ ys) (suc k) x g e h = by (f y) refl h (any_suc ys k x g e) where
    by : (b : Bool) → f y ≡ b → (f y || list_any f (take k ys)) ≡ false
        → (list_any f (take k ys) ≡ false → list_any f (take (suc k) ys) ≡ false) → (f y || list_any f (take (suc k) ys)) ≡ false
    by true q i r = absurd (cc (sym (ap (λ b. b || list_any f (take k ys)) q) ∙ i))
    by false q i r =
        ap (λ b. b || list_any f (take (suc k) ys)) q ∙ r (sym (ap (λ b. b || list_any f (take k ys)) q) ∙ i)

  pub any_next : (xs : List X) (k : ℕ) (x : X) → slice_get xs k ≡ Some x → f x ≡ false → list_any f (take k xs) ≡ false
      → list_any f (take (k + 1) xs) ≡ false
  any_next xs k x g e h = let s : k + 1 ≡ suc k = omega arith in ap (λ n. list_any f (take n xs)) s ∙ any_suc xs k x g e h

  or_true : (b : Bool) → (b || true) ≡ true
  or_true true = refl
  or_true false = refl

  pub any_met : (xs : List X) (k : ℕ) (x : X) → slice_get xs k ≡ Some x → f x ≡ true → list_any f xs ≡ true
  any_met [] k x g h = absurd (cc g)
  any_met (y ∷ ys) zero x g h = let e : f y ≡ true = ap f (cc g) ∙ h in ap (λ b. b || list_any f ys) e
  any_met (y ∷ ys) (suc k) x g h = ap (λ b. f y || b) (any_met ys k x g h) ∙ or_true (f y)
