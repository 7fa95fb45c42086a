-- The first of the rules that a container breaks.
use Rattle.std.proofs.Common.{◌≡◌, ℕ, zero, suc, ◌+◌, ◌<◌, ◌≤◌, ◌⊎◌, ⊎_elim, List, [], ◌∷◌, ◌++◌, Some, None, Bool, true, false, refl, sym, ap, ◌∙◌, subst, arith}
use Rattle.std.proofs.lemmas.Bool.Decides.{nat_tests}
use Rattle.word_base.specs.declared.rule.Rule.TheVariants.{C6}
use Rattle.word_base.specs.declared.rule.Refusal.{Refusal}
use Rattle.word_base.specs.Rules.{refusal, broken, earlier, first}
use Rattle.dxbc_container.specs.Layout.{place_of, count_of}
use Rattle.dxbc_container.specs.Refusals.{after, header_refusals, head_refusals, is_outside, outside_from}

-- rules behind others count where none of those is broken
pub after_none : (rs qs : List Refusal) → None ≡ first rs → after rs qs ≡ qs
after_none [] qs h = refl
after_none (a ∷ rest) qs h = cc

pub after_some : (rs qs : List Refusal) (r : Refusal) → Some r ≡ first rs → Some r ≡ first (after rs qs)
after_some [] qs r h = cc
after_some (a ∷ rest) qs r h = h

pub both_none : (rs qs : List Refusal) → rs ≡ [] → qs ≡ [] → after rs qs ≡ []
both_none [] qs h k = k
both_none (a ∷ rest) qs h k = cc

pub earlier_none : (rs qs : List Refusal) → after rs qs ≡ [] → rs ≡ []
earlier_none [] qs h = refl
earlier_none (a ∷ rest) qs h = cc

pub later_none : (rs qs : List Refusal) → after rs qs ≡ [] → qs ≡ []
later_none [] qs h = h
later_none (a ∷ rest) qs h = cc

pub no_first : (rs : List Refusal) → None ≡ first rs → rs ≡ []
no_first [] h = refl
no_first (a ∷ rest) h = cc

-- a rule that holds adds nothing
holds : (b : Bool) (p : ℕ) (rest : List Refusal) → b ≡ false → broken b C6 p ++ rest ≡ rest
holds true p rest e = cc
holds false p rest e = refl

-- of two chunks outside the first counts
stays : (p q : ℕ) → p ≤ q → earlier (refusal C6 p) (Some (refusal C6 q)) ≡ refusal C6 p
stays p q h = grind (arith, nat_tests)

earliest_step : (p q : ℕ) (b : Bool) (rest : List Refusal) → p ≤ q → earlier (refusal C6 q) (first rest) ≡ refusal C6 q
    → earlier (refusal C6 p) (first rest) ≡ refusal C6 p → earlier (refusal C6 p) (first (broken b C6 q ++ rest)) ≡ refusal C6 p
earliest_step p q true rest h e f = ap (λ r. earlier (refusal C6 p) (Some r)) e ∙ stays p q h
earliest_step p q false rest h e f = f

earliest : (bytes : List ℕ) (p i n : ℕ) → p ≤ place_of i → earlier (refusal C6 p) (first (outside_from bytes i n)) ≡ refusal C6 p
earliest bytes p i zero h = refl
earliest bytes p i (suc n) h =
    earliest_step p (place_of i) (is_outside bytes i) (outside_from bytes (suc i) n) h
    (earliest bytes (place_of i) (suc i) n (omega arith)) (earliest bytes p (suc i) n (omega arith))

outside_here : (bytes : List ℕ) (i n : ℕ) (b : Bool) → b ≡ true
    → first (broken b C6 (place_of i) ++ outside_from bytes (suc i) n) ≡ Some (refusal C6 (place_of i))
outside_here bytes i n true e = ap Some (earliest bytes (place_of i) (suc i) n (omega arith))
outside_here bytes i n false e = cc

here_or_later : (i j : ℕ) → i ≤ j → (i ≡ j) ⊎ (i < j)
here_or_later i j h = grind arith

-- the first chunk outside, where those before it are inside
pub outside_found : (bytes : List ℕ) (j i n : ℕ) → i ≤ j → j < i + n → ((k : ℕ) → k < j → is_outside bytes k ≡ false) → is_outside bytes j ≡ true
    → first (outside_from bytes i n) ≡ Some (refusal C6 (place_of j))
outside_found bytes j i zero a b p t = absurd (omega arith)
outside_found bytes j i (suc n) a b p t = ⊎_elim
    (λ (e : i ≡ j). subst (λ k. first (outside_from bytes i (suc n)) ≡ Some (refusal C6 (place_of k))) e
    (outside_here bytes i n (is_outside bytes i) (subst (λ k. is_outside bytes k ≡ true) (sym e) t)))
    (λ (l : i < j). ap first (holds (is_outside bytes i) (place_of i) (outside_from bytes (suc i) n) (p i l))
    ∙ outside_found bytes j (suc i) n (omega arith) (omega arith) p t)
    (here_or_later i j a)

pub outside_none : (bytes : List ℕ) (i n : ℕ) → ((k : ℕ) → k < i + n → is_outside bytes k ≡ false) → outside_from bytes i n ≡ []
outside_none bytes i zero p = refl
outside_none bytes i (suc n) p =
    holds (is_outside bytes i) (place_of i) (outside_from bytes (suc i) n) (p i (omega arith))
    ∙ outside_none bytes (suc i) n (λ k h. p k (omega arith))

-- and back: where no rule on the places is broken each chunk is inside
none_here : (bytes : List ℕ) (i n : ℕ) (b : Bool) → broken b C6 (place_of i) ++ outside_from bytes (suc i) n ≡ [] → b ≡ false
none_here bytes i n true h = cc
none_here bytes i n false h = refl

none_later : (bytes : List ℕ) (i n : ℕ) (b : Bool) → broken b C6 (place_of i) ++ outside_from bytes (suc i) n ≡ [] → outside_from bytes (suc i) n ≡ []
none_later bytes i n true h = cc
none_later bytes i n false h = h

pub inside_each : (bytes : List ℕ) (i n : ℕ) → outside_from bytes i n ≡ [] → (k : ℕ) → i ≤ k → k < i + n → is_outside bytes k ≡ false
inside_each bytes i zero h k a b = absurd (omega arith)
inside_each bytes i (suc n) h k a b = ⊎_elim
    (λ (e : i ≡ k). subst (λ j. is_outside bytes j ≡ false) e (none_here bytes i n (is_outside bytes i) h))
    (λ (l : i < k). inside_each bytes (suc i) n (none_later bytes i n (is_outside bytes i) h) k (omega arith) (omega arith))
    (here_or_later i k a)

-- what the loop over the chunks finds, at its end and before
pub all_inside : (bytes : List ℕ) → None ≡ first (header_refusals bytes) → ((k : ℕ) → k < count_of bytes → is_outside bytes k ≡ false)
    → head_refusals bytes ≡ []
all_inside bytes h p =
    both_none (header_refusals bytes) (outside_from bytes 0 (count_of bytes)) (no_first (header_refusals bytes) h)
    (outside_none bytes 0 (count_of bytes) (λ k l. p k (omega arith)))

pub one_outside : (bytes : List ℕ) (j : ℕ) → None ≡ first (header_refusals bytes) → j < count_of bytes
    → ((k : ℕ) → k < j → is_outside bytes k ≡ false) → is_outside bytes j ≡ true → Some (refusal C6 (place_of j)) ≡ first (head_refusals bytes)
one_outside bytes j h l p t =
    sym (ap first (after_none (header_refusals bytes) (outside_from bytes 0 (count_of bytes)) h)
    ∙ outside_found bytes j 0 (count_of bytes) (omega arith) (omega arith) p t)
