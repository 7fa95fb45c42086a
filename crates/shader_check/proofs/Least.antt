-- The first of refusals that are found one after the other is the first of all.
use Rattle.std.proofs.Common.{◌≡◌, ℕ, List, [], ◌∷◌, ◌++◌, Option, Some, None, Bool, true, false, ◌||◌, ◌&&◌, refl, sym, ap, ◌∙◌, arith}
use Rattle.std.specs.Prelude.{cond, nat_lt, nat_eq}
use Rattle.std.proofs.lemmas.Bool.Decides.{nat_tests}
use Rattle.word_base.specs.declared.rule.Refusal.{Refusal}
use Rattle.word_base.specs.Rules.{Key, key_of, is_below, comes_before, earlier, first}

-- the first of two refusals, where there may be none
abbrev pub joined : Option Refusal → Option Refusal → Option Refusal
joined None other = other
joined (Some r) other = Some (earlier r other)

below_through : (a b c : Key) → is_below c b ≡ true → is_below b a ≡ true → is_below c a ≡ true
below_through a b c h k = grind (arith, nat_tests)

not_below : (a b c : Key) → is_below b a ≡ false → is_below c b ≡ false → is_below c a ≡ false
not_below a b c h k = grind (arith, nat_tests)

-- the earlier of two refusals, as the test decides
pick : (a b : Refusal) (t : Bool) → comes_before b a ≡ t → earlier a (Some b) ≡ cond t b a
pick a b t h = ap (λ u. cond u b a) h

-- of three the first is the first, whichever two are compared before
of_three : (a b c : Refusal) (s t : Bool) → comes_before c b ≡ s → comes_before b a ≡ t
    → earlier a (Some (cond s c b)) ≡ earlier (cond t b a) (Some c)
of_three a b c true true p q = pick a c true (below_through (key_of a) (key_of b) (key_of c) p q) ∙ sym (pick b c true p)
of_three a b c true false p q = refl
of_three a b c false true p q = pick a b true q ∙ sym (pick b c false p)
of_three a b c false false p q = pick a b false q ∙ sym (pick a c false (not_below (key_of a) (key_of b) (key_of c) q p))

joined_earlier : (a : Refusal) (p q : Option Refusal) → Some (earlier a (joined p q)) ≡ joined (Some (earlier a p)) q
joined_earlier a None q = refl
joined_earlier a (Some b) None = refl
joined_earlier a (Some b) (Some c) = ap Some (of_three a b c (comes_before c b) (comes_before b a) refl refl)

pub first_append : (qs rs : List Refusal) → first (qs ++ rs) ≡ joined (first qs) (first rs)
first_append [] rs = refl
first_append (q ∷ qs) rs = ap (λ o. Some (earlier q o)) (first_append qs rs) ∙ joined_earlier q (first qs) (first rs)

-- of two rules at one place the one with the lower number comes before the other one
pub same_place : (place : ℕ) → (nat_lt place place || (nat_eq place place && false)) ≡ false
same_place place = grind (arith, nat_tests)
