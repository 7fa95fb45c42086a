-- The first of two lists of refusals.
use Rattle.std.proofs.Common.{◌≡◌, List, [], ◌∷◌, ◌++◌, Option, Some, None, Bool, true, false, refl, sym, ap, ◌∙◌, arith}
use Rattle.std.specs.Prelude.{if◌then◌else◌}
use Rattle.std.proofs.lemmas.Bool.Decides.{nat_tests}
use Rattle.word_base.specs.declared.rule.Refusal.{Refusal}
use Rattle.word_base.specs.Rules.{Key, key_of, is_below, comes_before, earlier, first}
use Rattle.tpf_decode.proofs.Order.{NotBefore, first_kept}

joined : Option Refusal → Option Refusal → Option Refusal
joined None o = o
joined (Some a) o = Some (earlier a o)

goes_on : (a b c : Key) → is_below a b ≡ true → is_below b c ≡ true → is_below a c ≡ true
goes_on a b c h k = grind (arith, nat_tests)

stays : (a b c : Key) → is_below b a ≡ false → is_below c b ≡ false → is_below c a ≡ false
stays a b c h k = grind (arith, nat_tests)

in_turn : (a s : Refusal) (o : Option Refusal) → earlier a (Some (earlier s o)) ≡ earlier (earlier a (Some s)) o
in_turn a s None = refl
in_turn a s (Some q) = by_tests (comes_before q s) (comes_before s a) refl refl
  where
    by_tests : (t u : Bool) → t ≡ comes_before q s → u ≡ comes_before s a
        → (if comes_before (if t then q else s) a then (if t then q else s) else a) ≡ (if comes_before q (if u then s else a) then q else (if u then s else a))
    by_tests true true e f =
        let x : comes_before q a ≡ true = goes_on (key_of q) (key_of s) (key_of a) (sym e) (sym f) in
        ap (λ b. if b then q else a) x ∙ ap (λ b. if b then q else s) e
    by_tests true false e f = refl
    by_tests false true e f = ap (λ b. if b then s else a) (sym f) ∙ ap (λ b. if b then q else s) e
    by_tests false false e f =
        let x : comes_before q a ≡ false = stays (key_of a) (key_of s) (key_of q) (sym f) (sym e) in
        ap (λ b. if b then s else a) (sym f) ∙ sym (ap (λ b. if b then q else a) x)

first_joined : (ps qs : List Refusal) → first (ps ++ qs) ≡ joined (first ps) (first qs)
unfolding joined
first_joined [] qs = refl
first_joined (a ∷ ps) qs = ap (λ o. Some (earlier a o)) (first_joined ps qs) ∙ by_first (first ps)
  where
    by_first : (o : Option Refusal) → Some (earlier a (joined o (first qs))) ≡ Some (earlier (earlier a o) (first qs))
    by_first None = refl
    by_first (Some s) = ap (λ x. Some x) (in_turn a s (first qs))

-- the first of the front stays, or that of the rest comes before it
pub front_first : (ps qs : List Refusal) (r : Refusal) → first ps ≡ Some r → NotBefore r qs → first (ps ++ qs) ≡ Some r
unfolding joined
front_first ps qs r h n = first_joined ps qs ∙ (ap (λ o. joined o (first qs)) h ∙ first_kept r qs n)

pub rest_first : (ps qs : List Refusal) (r q : Refusal) → first ps ≡ Some r → first qs ≡ Some q → comes_before q r ≡ true → first (ps ++ qs) ≡ Some q
unfolding joined
rest_first ps qs r q h k c = first_joined ps qs ∙ (ap (λ o. joined o (first qs)) h ∙ (ap (λ o. Some (earlier r o)) k ∙ ap (λ b. Some (if b then q else r)) c))
