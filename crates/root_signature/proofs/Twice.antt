-- What is covered twice, by one more span or more.
use Rattle.std.proofs.Common.{◌≡◌, ℕ, zero, suc, ◌+◌, ◌-◌, ◌<◌, ◌≤◌, ◌⊎◌, inl, inr, ⊎_elim, true, List, [], ◌∷◌, ◌++◌, length, Some, refl, sym, ap, ◌∙◌, subst, arith}
use Rattle.std.specs.Prelude.{Contains, slice_get}
use Rattle.std.proofs.lemmas.Bool.Decides.{nat_tests}
use Rattle.std.proofs.lemmas.Option.{slice_get_within, slice_get-get_or, get_or_from_slice_get}
use Rattle.word_base.specs.declared.rule.Rule.TheVariants.{G4}
use Rattle.word_base.specs.declared.rule.Refusal.{Refusal}
use Rattle.word_base.specs.Rules.{refusal}
use Rattle.root_signature.specs.Covers.{Span, overlaps}
use Rattle.root_signature.specs.Refusals.{IsCoveredTwice}

pub get_front : {X : Type 0} (xs ys : List X) (k : ℕ) → k < length xs → slice_get (xs ++ ys) k ≡ slice_get xs k
get_front [] ys k l = absurd (omega arith)
get_front (x ∷ xs) ys zero l = refl
get_front (x ∷ xs) ys (suc k) l = get_front xs ys k (omega arith)

pub get_back : {X : Type 0} (xs ys : List X) (k : ℕ) → slice_get (xs ++ ys) (length xs + k) ≡ slice_get ys k
get_back {X} [] ys k = ap (λ n. slice_get ys n) (none k) where
  none : (k : ℕ) → 0 + k ≡ k
  none k = omega arith
get_back {X} (x ∷ xs) ys k = ap (λ n. slice_get (x ∷ (xs ++ ys)) n) (more (length xs) k) ∙ get_back xs ys k where
  more : (n k : ℕ) → suc n + k ≡ suc (n + k)
  more n k = omega arith

-- between membership and a place
pub at_of : {X : Type 0} (xs : List X) (x : X) → Contains xs x → (k : ℕ) × (slice_get xs k ≡ Some x)
at_of xs x h = (h.0, slice_get-get_or xs h.0 x h.1 ∙ ap (λ y. Some y) h.2)

pub of_at : {X : Type 0} (xs : List X) (x : X) (k : ℕ) → slice_get xs k ≡ Some x → Contains xs x
of_at xs x k e = (k, slice_get_within xs k x e, get_or_from_slice_get xs k x x e)

front_or_back : (n k : ℕ) → (k < n) ⊎ ((j : ℕ) × (k ≡ n + j))
front_or_back n k = ⊎_elim (λ l. inl l) (λ l. inr (k - n, omega (arith, l))) (cases n k) where
  cases : (n k : ℕ) → (k < n) ⊎ (n ≤ k)
  cases n k = grind (arith, nat_tests)

pub twice_front : (xs ys : List Span) (q : Refusal) → IsCoveredTwice xs q → IsCoveredTwice (xs ++ ys) q
twice_front xs ys q h = record {
  i = h.i;
  k = h.k;
  earlier = h.earlier;
  later = h.later;
  order = h.order;
  earlier_there = get_front xs ys h.i (slice_get_within xs h.i h.earlier h.earlier_there) ∙ h.earlier_there;
  later_there = get_front xs ys h.k (slice_get_within xs h.k h.later h.later_there) ∙ h.later_there;
  overlap = h.overlap;
  refused = h.refused;
}

-- one of the front and one of the back that overlap
pub twice_across : (xs ys : List Span) (a c : Span) → Contains xs a → Contains ys c → overlaps a c ≡ true → IsCoveredTwice (xs ++ ys) (refusal G4 c.place)
twice_across xs ys a c h k o =
    let m : (i : ℕ) × (slice_get xs i ≡ Some a) = at_of xs a h in
    let n : (j : ℕ) × (slice_get ys j ≡ Some c) = at_of ys c k in
    record {
      i = m.0;
      k = length xs + n.0;
      earlier = a;
      later = c;
      order = omega (arith, slice_get_within xs m.0 a m.1);
      earlier_there = get_front xs ys m.0 (slice_get_within xs m.0 a m.1) ∙ m.1;
      later_there = get_back xs ys n.0 ∙ n.1;
      overlap = o;
      refused = refl;
    }

-- what is covered twice in the front, or the later one is of the back
pub twice_cases : (xs ys : List Span) (q : Refusal) → IsCoveredTwice (xs ++ ys) q → IsCoveredTwice xs q ⊎ ((c : Span) × (Contains ys c × (q ≡ refusal G4 c.place)))
twice_cases xs ys q h = ⊎_elim
    (λ (l : h.k < length xs). inl (record {
      i = h.i;
      k = h.k;
      earlier = h.earlier;
      later = h.later;
      order = h.order;
      earlier_there = sym (get_front xs ys h.i (omega (arith, h.order))) ∙ h.earlier_there;
      later_there = sym (get_front xs ys h.k l) ∙ h.later_there;
      overlap = h.overlap;
      refused = h.refused;
    }))
    (λ w. inr (h.later, (of_at ys h.later w.0 (sym (get_back xs ys w.0) ∙ (ap (λ n. slice_get (xs ++ ys) n) (sym w.1) ∙ h.later_there)), h.refused)))
    (front_or_back (length xs) h.k)

-- behind one more span that one is the later, or it was so before
pub twice_more : (xs : List Span) (c : Span) (q : Refusal) → IsCoveredTwice (xs ++ c ∷ []) q
    → IsCoveredTwice xs q ⊎ ((a : Span) × (Contains xs a × (overlaps a c ≡ true) × (q ≡ refusal G4 c.place)))
twice_more xs c q h = ⊎_elim
    (λ (l : h.k < length xs). inl (record {
      i = h.i;
      k = h.k;
      earlier = h.earlier;
      later = h.later;
      order = h.order;
      earlier_there = sym (get_front xs (c ∷ []) h.i (omega (arith, h.order))) ∙ h.earlier_there;
      later_there = sym (get_front xs (c ∷ []) h.k l) ∙ h.later_there;
      overlap = h.overlap;
      refused = h.refused;
    }))
    (λ w. at w.0 w.1 (sym (get_back xs (c ∷ []) w.0) ∙ (ap (λ n. slice_get (xs ++ c ∷ []) n) (sym w.1) ∙ h.later_there)))
    (front_or_back (length xs) h.k) where
      at : (j : ℕ) → h.k ≡ length xs + j → slice_get (c ∷ []) j ≡ Some h.later → IsCoveredTwice xs q ⊎ ((a : Span) × (Contains xs a × (overlaps a c ≡ true) × (q ≡ refusal G4 c.place)))
      at zero e s =
          let same : c ≡ h.later = cc in
          inr (
            h.earlier,
            (
              of_at xs h.earlier h.i (sym (get_front xs (c ∷ []) h.i (omega (arith, h.order))) ∙ h.earlier_there),
              subst (λ x. overlaps h.earlier x ≡ true) (sym same) h.overlap,
              subst (λ x. q ≡ refusal G4 x.place) (sym same) h.refused,
            ),
          )
      at (suc j) e s = absurd cc
