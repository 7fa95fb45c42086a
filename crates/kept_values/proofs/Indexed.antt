-- Lists of distinct numbers with the places of their numbers.
use Rattle.std.proofs.Common.{◌≡◌, ◌≢◌, ℕ, zero, suc, ◌+◌, ◌<◌, ◌≤◌, Bool, true, false, ◌||◌, nat_eq, List, [], ◌∷◌, ◌++◌, length, take, set, slice_get, Some, ◌⊎◌, ⊎_elim, inl, inr, refl, sym, ap, ◌∙◌, subst, arith, eqb, get_or, length-append, length-set}
use Rattle.std.specs.List.{IsDistinct}
use Rattle.std.proofs.lemmas.Bool.{eqb-true, eq-eqb, eqb-false}
use Rattle.std.proofs.lemmas.Option.{slice_get_within, slice_get-get_or}
use Rattle.std.proofs.lemmas.List.{length-take, take_more_set}
use Rattle.std.proofs.lemmas.List.Elements.{recursion_from_All}
use Rattle.std.proofs.lemmas.Map.Steps.{length-le_from_distinct_below}
use Rattle.kept_values.specs.Numbers.{has, IsIndexed}

pub bool_cases : (b : Bool) → (b ≡ true) ⊎ (b ≡ false)
bool_cases true = inl refl
bool_cases false = inr refl

some_same : (i j : ℕ) → Some i ≡ Some j → i ≡ j
some_same i j e = cc e

-- a number that the list has stands at a place, and what stands at a place the list has
pub place_of : (xs : List ℕ) (n : ℕ) → has xs n ≡ true → (i : ℕ) × (slice_get xs i ≡ Some n)
place_of [] n h = absurd (cc h)
place_of (x ∷ xs) n h =
    ⊎_elim
    (λ (e : eqb n x ≡ true). let same : n ≡ x = eqb-true n x e in (zero, ap Some (sym same)))
    (λ (e : eqb n x ≡ false). let rest : has xs n ≡ true = sym (ap (λ b. b || has xs n) e) ∙ h in
    let there = place_of xs n rest in (suc there.0, there.1))
    (bool_cases (eqb n x))

pub has_from : (xs : List ℕ) (i n : ℕ) → slice_get xs i ≡ Some n → has xs n ≡ true
has_from [] i n h = absurd (cc h)
has_from (x ∷ xs) zero n h = let same : n ≡ x = sym (some_same x n h) in ap (λ b. b || has xs n) (eq-eqb n x same)
has_from (x ∷ xs) (suc i) n h =
    ⊎_elim (λ (e : eqb n x ≡ true). ap (λ b. b || has xs n) e) (λ (e : eqb n x ≡ false). ap (λ b. b || has xs n) e ∙ has_from xs i n h)
    (bool_cases (eqb n x))

pub has_take : (k : ℕ) (xs : List ℕ) (n : ℕ) → has (take k xs) n ≡ true → has xs n ≡ true
has_take zero xs n h = absurd (cc h)
has_take (suc k) [] n h = absurd (cc h)
has_take (suc k) (x ∷ xs) n h =
    ⊎_elim (λ (e : eqb n x ≡ true). ap (λ b. b || has xs n) e)
    (λ (e : eqb n x ≡ false). ap (λ b. b || has xs n) e ∙ has_take k xs n (sym (ap (λ b. b || has (take k xs) n) e) ∙ h))
    (bool_cases (eqb n x))

module _ {X : Type 0} where
  pub at_take : (c : ℕ) (xs : List X) (i : ℕ) → i < c → slice_get (take c xs) i ≡ slice_get xs i
  at_take zero xs i lt = absurd (omega arith)
  at_take (suc c) [] i lt = refl
  at_take (suc c) (x ∷ xs) zero lt = refl
  at_take (suc c) (x ∷ xs) (suc i) lt = at_take c xs i (omega arith)

  pub at_set_same : (xs : List X) (i : ℕ) (x : X) → i < length xs → slice_get (set xs i x) i ≡ Some x
  at_set_same [] i x lt = absurd (omega arith)
  at_set_same (y ∷ ys) zero x lt = refl
  at_set_same (y ∷ ys) (suc i) x lt = at_set_same ys i x (omega arith)

  pub at_set_other : (xs : List X) (i j : ℕ) (x : X) → j ≢ i → slice_get (set xs i x) j ≡ slice_get xs j
  at_set_other [] i j x ne = refl
  at_set_other (y ∷ ys) zero zero x ne = absurd (ne refl)
  at_set_other (y ∷ ys) zero (suc j) x ne = refl
  at_set_other (y ∷ ys) (suc i) zero x ne = refl
  at_set_other (y ∷ ys) (suc i) (suc j) x ne = at_set_other ys i j x (λ e. ne (ap suc e))

  -- an item of a list with one more at its end
  pub at_more : (xs : List X) (x y : X) (i : ℕ) → slice_get (xs ++ x ∷ []) i ≡ Some y
      → (slice_get xs i ≡ Some y) ⊎ ((i ≡ length xs) × (x ≡ y))
  at_more [] x y zero h = inr (refl, cc h)
  at_more [] x y (suc i) h = absurd (cc h)
  at_more (z ∷ zs) x y zero h = inl h
  at_more (z ∷ zs) x y (suc i) h =
      ⊎_elim inl (λ (q : (i ≡ length zs) × (x ≡ y)). inr (omega (arith, q.0), q.1)) (at_more zs x y i h)

-- a number that the list has is below how many places there are
pub within : (places xs : List ℕ) (n : ℕ) → IsIndexed places xs → has xs n ≡ true → n < length places
within places xs n is h = let there = place_of xs n h in slice_get_within places n there.0 (is there.0 n there.1)

-- one more number, whose place is written
pub index_more : (places xs : List ℕ) (n : ℕ) → IsIndexed places xs → has xs n ≡ false → n < length places
    → IsIndexed (set places n (length xs)) (xs ++ n ∷ [])
index_more places xs n is none lt = λ i m h.
    ⊎_elim
    (λ (e : slice_get xs i ≡ Some m).
    let apart : m ≢ n = λ q. absurd (cc (sym (has_from xs i n (e ∙ ap Some q)) ∙ none)) in
    at_set_other places n m (length xs) apart ∙ is i m e)
    (λ (q : (i ≡ length xs) × (n ≡ m)).
    subst (λ k. slice_get (set places n (length xs)) k ≡ Some i) q.1
    (at_set_same places n (length xs) lt ∙ ap Some (sym q.0)))
    (at_more xs n m i h)

apart : (d x k y : ℕ) (places : List ℕ) → slice_get places x ≡ Some d → slice_get places y ≡ Some (suc k + d) → eqb x y ≡ false
apart d x k y places here there =
    ⊎_elim
    (λ (e : eqb x y ≡ true).
    let same : d ≡ suc k + d = some_same d (suc k + d) (sym here ∙ (ap (slice_get places) (eqb-true x y e) ∙ there)) in
    absurd (omega (arith, same)))
    (λ (e : eqb x y ≡ false). e) (bool_cases (eqb x y))

distinct : (d : ℕ) (places xs : List ℕ) → ((i n : ℕ) → slice_get xs i ≡ Some n → slice_get places n ≡ Some (i + d)) → IsDistinct eqb xs
unfolding IsDistinct
distinct d places [] is = tt
distinct d places (x ∷ xs) is =
    let first : d ≡ zero + d = omega arith in
    let later : (k : ℕ) → suc k + d ≡ k + suc d = λ k. omega arith in (
      recursion_from_All (λ y. eqb x y ≡ false) xs
          (λ k e lt. apart d x k (get_or xs k e) places (is zero x refl ∙ ap Some (sym first)) (is (suc k) (get_or xs k e) (slice_get-get_or xs k e lt))),
      distinct (suc d) places xs (λ i n h. is (suc i) n h ∙ ap Some (later i)),
    )

-- a number that is not there, and is below how many places there are, leaves room
pub room : (places xs : List ℕ) (n : ℕ) → IsIndexed places xs → has xs n ≡ false → n < length places → length xs < length places
room places xs n is none lt =
    let more = set places n (length xs) in let all = xs ++ n ∷ [] in
    let next : IsIndexed more all = index_more places xs n is none lt in
    let none_more : (i : ℕ) → i ≡ i + zero = λ i. omega arith in
    let few : length all ≤ length more = length-le_from_distinct_below all (length more)
    (distinct zero more all (λ i m h. next i m h ∙ ap Some (none_more i))) (λ q h. within more all q next h) in
    let long : length all ≡ length xs + 1 = length-append xs (n ∷ []) in
    let same : length more ≡ length places = length-set places n (length xs) in
    omega (arith, few, long, same)

-- whether the list has a number, by the place that the number has
pub by_place : (places items : List ℕ) (c n p x : ℕ) → IsIndexed places (take c items) → slice_get places n ≡ Some p
    → slice_get items p ≡ Some x → p < c → nat_eq x n ≡ has (take c items) n
by_place places items c n p x is here there lt =
    ⊎_elim
    (λ (e : eqb x n ≡ true).
    e ∙ sym (has_from (take c items) p n (at_take c items p lt ∙ (there ∙ ap Some (eqb-true x n e)))))
    (λ (e : eqb x n ≡ false).
    ⊎_elim
    (λ (h : has (take c items) n ≡ true).
    let at = place_of (take c items) n h in
    let same : at.0 ≡ p = some_same at.0 p (sym (is at.0 n at.1) ∙ here) in
    let item : x ≡ n = some_same x n (sym there ∙ (sym (at_take c items p lt) ∙ (ap (slice_get (take c items)) (sym same) ∙ at.1))) in
    absurd (eqb-false x n e item))
    (λ (h : has (take c items) n ≡ false). e ∙ sym h) (bool_cases (has (take c items) n)))
    (bool_cases (eqb x n))

pub past : (places items : List ℕ) (c n p : ℕ) → IsIndexed places (take c items) → slice_get places n ≡ Some p → c ≤ p
    → false ≡ has (take c items) n
past places items c n p is here le =
    ⊎_elim
    (λ (h : has (take c items) n ≡ true).
    let at = place_of (take c items) n h in
    let same : at.0 ≡ p = some_same at.0 p (sym (is at.0 n at.1) ∙ here) in
    let lt : at.0 < length (take c items) = slice_get_within (take c items) at.0 n at.1 in
    absurd (omega (arith, same, lt, length-take c items, le)))
    (λ (h : has (take c items) n ≡ false). sym h) (bool_cases (has (take c items) n))

pub beyond : (places xs : List ℕ) (n : ℕ) → IsIndexed places xs → length places ≤ n → false ≡ has xs n
beyond places xs n is le =
    ⊎_elim (λ (h : has xs n ≡ true). absurd (omega (arith, le, within places xs n is h))) (λ (h : has xs n ≡ false). sym h)
    (bool_cases (has xs n))

-- what a number that is added is to find, and what it leaves
pub record Added (places items : List ℕ) (c n : ℕ) : Type 0 where
  pub free : c < length items
  pub list : take (c + 1) (set items c n) ≡ take c items ++ n ∷ []
  pub indexed : IsIndexed (set places n c) (take (c + 1) (set items c n))

pub added : (places items : List ℕ) (c n : ℕ) → length items ≡ length places → c ≤ length items → IsIndexed places (take c items)
    → has (take c items) n ≡ false → n < length places → Added places items c n
added places items c n same le is none lt =
    let long : length (take c items) ≡ c = omega (arith, length-take c items, le) in
    let free : c < length items = omega (arith, room places (take c items) n is none lt, long, same) in
    let list : take (c + 1) (set items c n) ≡ take c items ++ n ∷ [] = take_more_set items c n free in
    record {
      free = free;
      list = list;
      indexed = subst (IsIndexed (set places n c)) (sym list)
          (subst (λ k. IsIndexed (set places n k) (take c items ++ n ∷ [])) long (index_more places (take c items) n is none lt));
    }
