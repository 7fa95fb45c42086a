-- The first of a list by a key is the least of it.
use Rattle.std.proofs.Common.{◌≡◌, ℕ, zero, suc, ◌<◌, ◌⊎◌, inl, inr, ⊎_elim, List, [], ◌∷◌, length, Option, Some, None, Bool, true, false, refl, sym, ◌∙◌, subst, arith}
use Rattle.std.specs.Prelude.{Contains, slice_index_or, cond}
use Rattle.std.proofs.lemmas.Bool.Decides.{nat_tests}
use Rattle.word_base.specs.declared.rule.Refusal.{Refusal}
use Rattle.word_base.specs.Firsts.{Key, is_below, comes_before_by, IsFirstBy, earlier_by, first_by}
use Rattle.word_base.specs.Rules.{key_of, IsFirst, first}

pub below_itself : (a : Key) → is_below a a ≡ false
below_itself a = grind (arith, nat_tests)

-- what is not below the middle is not below the upper one
pub not_below : (a b c : Key) → is_below b a ≡ false → is_below c b ≡ false → is_below c a ≡ false
not_below a b c h k = grind (arith, nat_tests)

-- of two keys one is not below the other
pub not_both : (a b : Key) → is_below b a ≡ true → is_below a b ≡ false
not_both a b h = grind (arith, nat_tests)

module _ {A : Type 0} (key : A → Key) where
  abbrev before : A → A → Bool
  before a b = comes_before_by key a b

  pub single : (a : A) → before a a ≡ false
  single a = below_itself (key a)

  at_front : (a : A) (rest : List A) → Contains (a ∷ rest) a
  at_front a rest = (0, omega arith, refl)

  at_back : (a q : A) (rest : List A) → Contains rest q → Contains (a ∷ rest) q
  at_back a q rest h = (suc h.0, omega (arith, h.1), h.2)

  front_or_back : (a q : A) (rest : List A) (k : ℕ) → k < length (a ∷ rest) → slice_index_or (a ∷ rest) k q ≡ q → (a ≡ q) ⊎ Contains rest q
  front_or_back a q rest zero h e = inl e
  front_or_back a q rest (suc k) h e = inr (k, omega arith, e)

  keeps_least : (a b : A) (rest : List A) → IsFirstBy key (Contains rest) b → (t : Bool) → before b a ≡ t
      → IsFirstBy key (Contains (a ∷ rest)) (cond t b a)
  keeps_least a b rest h true e = record {
    holds = at_back a b rest h.holds;
    is_least = λ q m. ⊎_elim
        (λ (s : a ≡ q). subst (λ x. before x b ≡ false) s (not_both (key a) (key b) e))
        (λ m. h.is_least q m) (front_or_back a q rest m.0 m.1 m.2);
  }
  keeps_least a b rest h false e = record {
    holds = at_front a rest;
    is_least = λ q m. ⊎_elim
        (λ (s : a ≡ q). subst (λ x. before x a ≡ false) s (single a))
        (λ m. not_below (key a) (key b) (key q) e (h.is_least q m)) (front_or_back a q rest m.0 m.1 m.2);
  }

  alone : (a : A) → IsFirstBy key (Contains (a ∷ [])) a
  alone a = record {
    holds = at_front a [];
    is_least = λ q m. ⊎_elim
        (λ (s : a ≡ q). subst (λ x. before x a ≡ false) s (single a))
        (λ m. absurd (omega (arith, m.1))) (front_or_back a q [] m.0 m.1 m.2);
  }

  pub none : (qs : List A) → first_by key qs ≡ None → qs ≡ []
  none [] h = refl
  none (a ∷ rest) h = cc

  -- one more before the rest, whose first is known
  before_rest : (a r : A) (rest : List A) (o : Option A) → first_by key rest ≡ o
      → ((b : A) → o ≡ Some b → IsFirstBy key (Contains rest) b)
      → Some (earlier_by key a o) ≡ Some r → IsFirstBy key (Contains (a ∷ rest)) r
  before_rest a r rest None k h e =
      let s : a ≡ r = cc in
      let l : rest ≡ [] = none rest k in
      subst (λ x. IsFirstBy key (Contains (a ∷ rest)) x) s
      (subst (λ x. IsFirstBy key (Contains (a ∷ x)) a) (sym l) (alone a))
  before_rest a r rest (Some b) k h e =
      let s : earlier_by key a (Some b) ≡ r = cc in
      subst (λ x. IsFirstBy key (Contains (a ∷ rest)) x) s (keeps_least a b rest (h b refl) (before b a) refl)

  least : (qs : List A) (o : Option A) → first_by key qs ≡ o → (r : A) → o ≡ Some r → IsFirstBy key (Contains qs) r
  least [] o h r e = cc
  least (a ∷ rest) o h r e = before_rest a r rest (first_by key rest) refl (least rest (first_by key rest) refl) (h ∙ e)

  pub some : (qs : List A) (r : A) → first_by key qs ≡ Some r → IsFirstBy key (Contains qs) r
  some qs r h = least qs (first_by key qs) refl r h

-- the same of refusals
pub first_some : (qs : List Refusal) (r : Refusal) → first qs ≡ Some r → IsFirst (Contains qs) r
first_some qs r h = let k = some key_of qs r h in record { is_broken = k.holds; is_least = k.is_least }
