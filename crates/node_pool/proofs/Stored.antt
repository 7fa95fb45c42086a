-- What the first places hold, as places are written.
use Rattle.std.proofs.Common.{◌≡◌, ℕ, zero, suc, ◌+◌, ◌<◌, ◌≤◌, List, [], ◌∷◌, ◌++◌, length, set, get_or, slice_get, Option, Some, None, refl, ap, ◌∙◌, arith}
use Rattle.node_pool.specs.Places.{Holds, IsStored, stored}

module _ {X : Type 0} where
  at_most : (n : ℕ) (cs : List (Option X)) → length (stored n cs) ≤ n
  at_most zero cs = omega arith
  at_most (suc n) [] = omega arith
  at_most (suc n) (None ∷ cs) = omega (arith, at_most n cs)
  at_most (suc n) (Some x ∷ cs) = omega (arith, at_most n cs)

  one_more : (n : ℕ) (cs : List (Option X)) (x : X) → n < length cs → IsStored n cs → stored (suc n) (set cs n (Some x)) ≡ stored n cs ++ x ∷ []
  one_more zero [] x lt is = absurd (omega arith)
  one_more zero (c ∷ cs) x lt is = refl
  one_more (suc n) [] x lt is = absurd (omega arith)
  one_more (suc n) (None ∷ cs) x lt is = absurd (omega (arith, at_most n cs))
  one_more (suc n) (Some y ∷ cs) x lt is = ap (λ xs. y ∷ xs) (one_more n cs x (omega arith) (omega arith))

  -- a value in the next place is one at the end
  pub stored_next : (n : ℕ) (cs : List (Option X)) (x : X) → n < length cs → IsStored n cs → stored (n + 1) (set cs n (Some x)) ≡ stored n cs ++ x ∷ []
  stored_next n cs x lt is = let up : n + 1 ≡ suc n = omega arith in ap (λ k. stored k (set cs n (Some x))) up ∙ one_more n cs x lt is

  -- a value in a place below is one in the list
  pub stored_again : (n : ℕ) (cs : List (Option X)) (i : ℕ) (x : X) → i < n → IsStored n cs → stored n (set cs i (Some x)) ≡ set (stored n cs) i x
  stored_again zero cs i x lt is = absurd (omega arith)
  stored_again (suc n) [] i x lt is = absurd (omega arith)
  stored_again (suc n) (None ∷ cs) i x lt is = absurd (omega (arith, at_most n cs))
  stored_again (suc n) (Some y ∷ cs) zero x lt is = refl
  stored_again (suc n) (Some y ∷ cs) (suc i) x lt is = ap (λ xs. y ∷ xs) (stored_again n cs i x (omega arith) (omega arith))

  -- a place below holds the list's item
  pub stored_at : (n : ℕ) (cs : List (Option X)) (i : ℕ) → i < n → IsStored n cs → slice_get (stored n cs) i ≡ get_or cs i None
  stored_at zero cs i lt is = absurd (omega arith)
  stored_at (suc n) [] i lt is = absurd (omega arith)
  stored_at (suc n) (None ∷ cs) i lt is = absurd (omega (arith, at_most n cs))
  stored_at (suc n) (Some y ∷ cs) zero lt is = refl
  stored_at (suc n) (Some y ∷ cs) (suc i) lt is = stored_at n cs i (omega arith) (omega arith)

  pub stored_holds : (n : ℕ) (cs : List (Option X)) (i : ℕ) → i < n → IsStored n cs → Holds cs i
  stored_holds zero cs i lt is = absurd (omega arith)
  stored_holds (suc n) [] i lt is = absurd (omega arith)
  stored_holds (suc n) (None ∷ cs) i lt is = absurd (omega (arith, at_most n cs))
  stored_holds (suc n) (Some y ∷ cs) zero lt is = (y, refl)
  stored_holds (suc n) (Some y ∷ cs) (suc i) lt is = stored_holds n cs i (omega arith) (omega arith)
