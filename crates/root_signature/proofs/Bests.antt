-- The best refusal of two lists, and of more than a list.
use Rattle.std.proofs.Common.{◌≡◌, ℕ, zero, suc, ◌<◌, ◌⊎◌, inl, inr, ⊎_elim, List, [], ◌∷◌, ◌++◌, Option, Some, None, Bool, true, false, cond, refl, subst, arith}
use Rattle.std.specs.Prelude.{Contains, slice_index_or}
use Rattle.std.proofs.lemmas.Bool.Decides.{nat_tests}
use Rattle.std.proofs.lemmas.List.Elements.{Contains-append_left, Contains-append_right, Contains-append_cases}
use Rattle.word_base.specs.declared.rule.Refusal.{Refusal}
use Rattle.word_base.specs.Rules.{Key, key_of, is_below, order_of, comes_before}
use Rattle.root_signature.specs.Bests.{IsBest, Yields, merged, AreNinth}

below_itself : (a : Key) → is_below a a ≡ false
below_itself a = grind (arith, nat_tests)

not_below : (a b c : Key) → is_below b a ≡ false → is_below c b ≡ false → is_below c a ≡ false
not_below a b c h k = grind (arith, nat_tests)

not_both : (a b : Key) → is_below b a ≡ true → is_below a b ≡ false
not_both a b h = grind (arith, nat_tests)

pub itself : (r : Refusal) → comes_before r r ≡ false
itself r = below_itself (key_of r)

pub through : (a b c : Refusal) → comes_before b a ≡ false → comes_before c b ≡ false → comes_before c a ≡ false
through a b c h k = not_below (key_of a) (key_of b) (key_of c) h k

pub ninth : (P : Refusal → Type 0) (a : Option Refusal) → IsBest P a → AreNinth a
ninth P None h = tt
ninth P (Some r) h = h.phase

pub merged_ninth : (a b : Option Refusal) → AreNinth a → AreNinth b → AreNinth (merged a b)
merged_ninth None b h k = k
merged_ninth (Some a) None h k = h
merged_ninth (Some a) (Some b) h k = at (comes_before b a) where
  at : (t : Bool) → AreNinth (cond t (Some b) (Some a))
  at true = k
  at false = h

-- what is broken yields to the best
pub yields : (P : Refusal → Type 0) (a : Option Refusal) (q : Refusal) → IsBest P a → P q → Yields a q
yields P None q h p = h q p
yields P (Some r) q h p = h.first.is_least q p

pub yields_first : (a b : Option Refusal) (q : Refusal) → Yields a q → Yields (merged a b) q
yields_first None b q h = absurd h
yields_first (Some a) None q h = h
yields_first (Some a) (Some b) q h = at (comes_before b a) refl where
  at : (t : Bool) → comes_before b a ≡ t → Yields (cond t (Some b) (Some a)) q
  at true e = through b a q (not_both (key_of a) (key_of b) e) h
  at false e = h

pub yields_second : (a b : Option Refusal) (q : Refusal) → Yields b q → Yields (merged a b) q
yields_second None b q h = h
yields_second (Some a) None q h = absurd h
yields_second (Some a) (Some b) q h = at (comes_before b a) refl where
  at : (t : Bool) → comes_before b a ≡ t → Yields (cond t (Some b) (Some a)) q
  at true e = h
  at false e = through a b q e h

-- the best of two is one of them
pub one_of : (a b : Option Refusal) (r : Refusal) → merged a b ≡ Some r → (a ≡ Some r) ⊎ (b ≡ Some r)
one_of None b r e = inr e
one_of (Some a) None r e = inl e
one_of (Some a) (Some b) r e = at (comes_before b a) e where
  at : (t : Bool) → cond t (Some b) (Some a) ≡ Some r → (Some a ≡ Some r) ⊎ (Some b ≡ Some r)
  at true e = inr e
  at false e = inl e

-- without a best neither was there
pub neither : (a b : Option Refusal) → merged a b ≡ None → (a ≡ None) × (b ≡ None)
neither None b e = (refl, e)
neither (Some a) None e = (e, refl)
neither (Some a) (Some b) e = at (comes_before b a) e where
  at : (t : Bool) → cond t (Some b) (Some a) ≡ None → (Some a ≡ None) × (Some b ≡ None)
  at true e = absurd cc
  at false e = absurd cc

-- from what a best has to be
pub is_best : (P : Refusal → Type 0) (a : Option Refusal) → AreNinth a → ((r : Refusal) → a ≡ Some r → P r) → ((q : Refusal) → P q → Yields a q) → IsBest P a
is_best P None n h k = λ q p. k q p
is_best P (Some r) n h k = record { phase = n; first = record { is_broken = h r refl; is_least = k } }

pub is_broken : (P : Refusal → Type 0) (a : Option Refusal) (r : Refusal) → IsBest P a → a ≡ Some r → P r
is_broken P None r h e = absurd cc
is_broken P (Some b) r h e = subst P (at e) h.first.is_broken where
  at : Some b ≡ Some r → b ≡ r
  at e = cc

pub best_merged : (P Q : Refusal → Type 0) (a b : Option Refusal) → IsBest P a → IsBest Q b → IsBest (λ q. P q ⊎ Q q) (merged a b)
best_merged P Q a b h k =
    is_best (λ q. P q ⊎ Q q) (merged a b) (merged_ninth a b (ninth P a h) (ninth Q b k))
    (λ r e. ⊎_elim (λ s. inl (is_broken P a r h s)) (λ s. inr (is_broken Q b r k s)) (one_of a b r e))
    (λ q. ⊎_elim (λ p. yields_first a b q (yields P a q h p)) (λ p. yields_second a b q (yields Q b q k p)))

-- of more, each of which yields
pub best_more : (P Q : Refusal → Type 0) (a : Option Refusal) → IsBest P a → ((q : Refusal) → P q → Q q) → ((q : Refusal) → Q q → P q ⊎ Yields a q) → IsBest Q a
best_more P Q a h f g =
    is_best Q a (ninth P a h) (λ r e. f r (is_broken P a r h e))
    (λ q p. ⊎_elim (λ s. yields P a q h s) (λ s. s) (g q p))

pub best_same : (P Q : Refusal → Type 0) (a : Option Refusal) → IsBest P a → ((q : Refusal) → P q → Q q) → ((q : Refusal) → Q q → P q) → IsBest Q a
best_same P Q a h f g = best_more P Q a h f (λ q p. inl (g q p))

pub best_appended : (xs ys : List Refusal) (a b : Option Refusal) → IsBest (Contains xs) a → IsBest (Contains ys) b → IsBest (Contains (xs ++ ys)) (merged a b)
best_appended xs ys a b h k =
    best_same (λ q. Contains xs q ⊎ Contains ys q) (Contains (xs ++ ys)) (merged a b) (best_merged (Contains xs) (Contains ys) a b h k)
    (λ q. ⊎_elim (λ p. Contains-append_left xs ys q p) (λ p. Contains-append_right xs ys q p))
    (λ q p. Contains-append_cases xs ys q p)

pub none_in : (q : Refusal) → Contains [] q → ⊥
none_in q h = absurd (omega (arith, h.1))

pub the_one : (r q : Refusal) → Contains (r ∷ []) q → r ≡ q
the_one r q h = at h.0 h.1 h.2 where
  at : (k : ℕ) → k < 1 → slice_index_or (r ∷ []) k q ≡ q → r ≡ q
  at zero l e = e
  at (suc k) l e = absurd (omega arith)

pub one_in : (r : Refusal) → Contains (r ∷ []) r
one_in r = (0, omega arith, refl)

pub best_one : (r : Refusal) → (order_of r.rule).phase ≡ 9 → IsBest (Contains (r ∷ [])) (Some r)
best_one r n = record {
  phase = n;
  first = record {
    is_broken = one_in r;
    is_least = λ q h. subst (λ x. comes_before x r ≡ false) (the_one r q h) (itself r);
  };
}
