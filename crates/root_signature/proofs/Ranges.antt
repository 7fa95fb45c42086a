-- What a range covers.
use Rattle.std.proofs.Common.{◌≡◌, ◌≢◌, ℕ, ◌+◌, ◌<◌, ◌≤◌, ◌⊎◌, inl, inr, Bool, true, false, List, [], ◌∷◌, map, refl, sym, ap, ◌∙◌, subst, arith}
use Rattle.std.specs.Prelude.{Contains, ◌&&◌, not, nat_lt, nat_eq}
use Rattle.std.proofs.lemmas.Bool.Decides.{nat_tests}
use Rattle.root_signature.specs.declared.covers.Covers.{Covers}
use Rattle.root_signature.specs.declared.covers.Covers.TheVariants.{Srv, Uav, Cbv}
use Rattle.root_signature.specs.declared.covers.Entry.{Entry}
use Rattle.root_signature.specs.declared.runs.Test.TheVariants.{Bare}
use Rattle.root_signature.specs.Layout.{word, is_whole, range_words}
use Rattle.root_signature.specs.Covering.{cut, entry, is_range, range_covers, range_covered}
use Rattle.root_signature.specs.Runs.{passes}
use Rattle.root_signature.proofs.Parameters.{if_true, if_false}
use Rattle.root_signature.proofs.Members.{mapped, from_mapped}

alone : {X : Type 0} (x : X) → Contains (x ∷ []) x
alone x = (0, omega arith, refl)

nothing : {X : Type 0} (x : X) → Contains [] x → ⊥
nothing x h = absurd (omega (arith, h.1))

is_type : (type n : ℕ) → type ≡ n → nat_eq type n ≡ true
is_type type n e = grind (arith, nat_tests)

is_other : (type n : ℕ) → type ≢ n → nat_eq type n ≡ false
is_other type n e = grind (arith, nat_tests)

none_of : (type base count : ℕ) → 3 ≤ type → range_covers type base count ≡ []
none_of type base count l =
    if_false (nat_eq type 0) _ _ (is_other type 0 (λ e. absurd (omega (arith, e))))
    ∙ (if_false (nat_eq type 1) _ _ (is_other type 1 (λ e. absurd (omega (arith, e))))
    ∙ if_false (nat_eq type 2) (Cbv base (cut base count) ∷ []) [] (is_other type 2 (λ e. absurd (omega (arith, e)))))

some_of : (type base count : ℕ) → type < 3 → (c : Covers) × Contains (range_covers type base count) c
some_of type base count l = at (cases type l) where
  cases : (type : ℕ) → type < 3 → (type ≡ 0) ⊎ ((type ≡ 1) ⊎ (type ≡ 2))
  cases type l = grind (arith, nat_tests)

  at : (type ≡ 0) ⊎ ((type ≡ 1) ⊎ (type ≡ 2)) → (c : Covers) × Contains (range_covers type base count) c
  at (inl e) = subst (λ t. (c : Covers) × Contains (range_covers t base count) c) (sym e) (Srv base (cut base count), alone (Srv base (cut base count)))
  at (inr (inl e)) = subst (λ t. (c : Covers) × Contains (range_covers t base count) c) (sym e) (Uav base (cut base count), alone (Uav base (cut base count)))
  at (inr (inr e)) = subst (λ t. (c : Covers) × Contains (range_covers t base count) c) (sym e) (Cbv base (cut base count), alone (Cbv base (cut base count)))

covered_when : (content : List ℕ) (at : ℕ) → is_range content at ≡ true → range_covered content at ≡ map (entry at) (range_covers (word content at) (word content (at + 8)) (word content (at + 4)))
covered_when content at e = if_true (is_range content at) (map (entry at) (range_covers (word content at) (word content (at + 8)) (word content (at + 4)))) [] e

pub covers_none : (content : List ℕ) (at : ℕ) → passes Bare content at ≡ true → range_covered content at ≡ []
covers_none content at e = cases (is_range content at) refl where
  type_past : is_range content at ≡ true → 3 ≤ word content at
  type_past r = from (is_whole content at (range_words content)) (is_range content at) (word content at) e r where
    from : (w r : Bool) (n : ℕ) → (w && not (r && nat_lt n 3)) ≡ true → r ≡ true → 3 ≤ n
    from true true n e f = grind (arith, nat_tests)
    from true false n e f = absurd cc
    from false r n e f = absurd cc

  cases : (t : Bool) → is_range content at ≡ t → range_covered content at ≡ []
  cases false r = if_false (is_range content at) (map (entry at) (range_covers (word content at) (word content (at + 8)) (word content (at + 4)))) [] r
  cases true r = covered_when content at r ∙ ap (map (entry at)) (none_of (word content at) (word content (at + 8)) (word content (at + 4)) (type_past r))

pub covers_some : (content : List ℕ) (at : ℕ) → is_whole content at (range_words content) ≡ true → passes Bare content at ≡ false → (e : Entry) × Contains (range_covered content at) e
covers_some content at w e =
    let c : (c : Covers) × Contains (range_covers (word content at) (word content (at + 8)) (word content (at + 4))) c =
    some_of (word content at) (word content (at + 8)) (word content (at + 4)) below in
    (entry at c.0, subst (λ xs. Contains xs (entry at c.0)) (sym (covered_when content at range)) (mapped (entry at) (range_covers (word content at) (word content (at + 8)) (word content (at + 4))) c.0 c.1)) where
      is_true : (w r : Bool) (n : ℕ) → w ≡ true → (w && not (r && nat_lt n 3)) ≡ false → r ≡ true
      is_true true true n f e = refl
      is_true true false n f e = absurd cc
      is_true false r n f e = absurd cc

      is_below : (w r : Bool) (n : ℕ) → w ≡ true → (w && not (r && nat_lt n 3)) ≡ false → n < 3
      is_below true true n f e = grind (arith, nat_tests)
      is_below true false n f e = absurd cc
      is_below false r n f e = absurd cc

      range : is_range content at ≡ true
      range = is_true (is_whole content at (range_words content)) (is_range content at) (word content at) w e

      below : word content at < 3
      below = is_below (is_whole content at (range_words content)) (is_range content at) (word content at) w e

pub its_place : (content : List ℕ) (at : ℕ) (e : Entry) → Contains (range_covered content at) e → e.place ≡ at
its_place content at e h = cases (is_range content at) refl where
  cases : (t : Bool) → is_range content at ≡ t → e.place ≡ at
  cases false r = absurd (nothing e (subst (λ xs. Contains xs e) (if_false (is_range content at) (map (entry at) (range_covers (word content at) (word content (at + 8)) (word content (at + 4)))) [] r) h))
  cases true r =
      let w : (c : Covers) × (Contains (range_covers (word content at) (word content (at + 8)) (word content (at + 4))) c × (entry at c ≡ e)) =
      from_mapped (entry at) (range_covers (word content at) (word content (at + 8)) (word content (at + 4))) e (subst (λ xs. Contains xs e) (covered_when content at r) h) in
      sym (ap (λ x. x.place) w.1.1)
