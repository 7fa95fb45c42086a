-- Words that wait, among those of all sorts.
use Rattle.std.proofs.Common.{◌≡◌, ◌≢◌, ℕ, zero, suc, ◌+◌, ◌-◌, ◌<◌, ◌≤◌, true, false, ◌||◌, List, [], ◌∷◌, ◌++◌, length, take, set, slice_get, get_or, map, Some, None, ◌⊎◌, ⊎_elim, inl, inr, refl, sym, ap, ◌∙◌, subst, arith, eqb, length-append, get_or-set_same, get_or-set_other}
use Rattle.std.specs.Prelude.{if◌then◌else◌, IsTrue, sum_by}
use Rattle.std.proofs.lemmas.Bool.{eqb-true, eq-eqb, ltb-true}
use Rattle.std.proofs.lemmas.List.{append_assoc, append-nil, length-map, take-map, map-append}
use Rattle.std.proofs.Math.Seq.{take-append-add, get_or-append_seam}
use Rattle.std.proofs.lemmas.Option.{slice_get-get_or}
use Rattle.std.proofs.lemmas.List.Folds.{list_any-append}
use Rattle.std.proofs.lemmas.List.Sums.{sum_by-append, sum_by_push}
use Rattle.kept_values.specs.declared.word.Word.{Word}
use Rattle.kept_values.specs.declared.word.Word.TheVariants.{Scratch, Register, Element}
use Rattle.kept_values.specs.Numbers.{has}
use Rattle.kept_values.specs.Shelves.{Shelved, shelved, id_of, joined, all_but_last}
use Rattle.kept_values.specs.Tables.{Table, table, id_in, dirty_in, elements_in, limits_in, holds, Among, Puts, IsLast, Pops}
use Rattle.kept_values.proofs.Indexed.{bool_cases}

-- a list with a number that is added where it is not there
has_end : (xs : List ℕ) (n : ℕ) → has (xs ++ n ∷ []) n ≡ true
has_end xs n =
    list_any-append (eqb n) xs (n ∷ [])
    ∙ ⊎_elim (λ (e : has xs n ≡ true). ap (λ b. b || has (n ∷ []) n) e)
    (λ (e : has xs n ≡ false). ap (λ b. b || has (n ∷ []) n) e ∙ ap (λ b. b || false) (eq-eqb n n refl)) (bool_cases (has xs n))

has_front : (xs : List ℕ) (n m : ℕ) → m ≢ n → has (xs ++ n ∷ []) m ≡ has xs m
has_front xs n m ne =
    let none : eqb m n ≡ false = ⊎_elim (λ (e : eqb m n ≡ true). absurd (ne (eqb-true m n e))) (λ (e : eqb m n ≡ false). e) (bool_cases (eqb m n)) in
    list_any-append (eqb m) xs (n ∷ []) ∙ ap (λ b. has xs m || (b || false)) none
    ∙ ⊎_elim (λ (e : has xs m ≡ true). ap (λ b. b || false) e ∙ sym e) (λ (e : has xs m ≡ false). ap (λ b. b || false) e ∙ sym e) (bool_cases (has xs m))

-- what the list is, by whether the number was there
pub joined_by : (xs : List ℕ) (n : ℕ) → ((has xs n ≡ true) × (joined xs n ≡ xs)) ⊎ (joined xs n ≡ xs ++ n ∷ [])
joined_by xs n =
    ⊎_elim (λ (e : has xs n ≡ true). inl (e, ap (λ b. if b then xs else xs ++ n ∷ []) e))
    (λ (e : has xs n ≡ false). inr (ap (λ b. if b then xs else xs ++ n ∷ []) e)) (bool_cases (has xs n))

has_joined : (xs : List ℕ) (n : ℕ) → has (joined xs n) n ≡ true
has_joined xs n =
    ⊎_elim (λ (q : (has xs n ≡ true) × (joined xs n ≡ xs)). ap (λ l. has l n) q.1 ∙ q.0)
    (λ (e : joined xs n ≡ xs ++ n ∷ []). ap (λ l. has l n) e ∙ has_end xs n) (joined_by xs n)

has_joined_other : (xs : List ℕ) (n m : ℕ) → m ≢ n → has (joined xs n) m ≡ has xs m
has_joined_other xs n m ne =
    ⊎_elim (λ (q : (has xs n ≡ true) × (joined xs n ≡ xs)). ap (λ l. has l m) q.1)
    (λ (e : joined xs n ≡ xs ++ n ∷ []). ap (λ l. has l m) e ∙ has_front xs n m ne) (joined_by xs n)

-- the ids after a word got one
id_here : (s : Shelved) (n id : ℕ) (waiting : List ℕ) → n < length s.ids → id_of (shelved (joined s.kept n) (set s.ids n id) waiting) n ≡ Some id
id_here s n id waiting lt =
    ap (λ b. if b then Some (get_or (set s.ids n id) n 0) else None) (has_joined s.kept n) ∙ ap Some (get_or-set_same s.ids n id 0 lt)

id_other : (s : Shelved) (n id : ℕ) (waiting : List ℕ) (m : ℕ) → m ≢ n → id_of (shelved (joined s.kept n) (set s.ids n id) waiting) m ≡ id_of s m
id_other s n id waiting m ne =
    ap (λ b. if b then Some (get_or (set s.ids n id) m 0) else None) (has_joined_other s.kept n m ne)
    ∙ ap (λ i. if has s.kept m then Some i else None) (get_or-set_other s.ids n m id 0 ne)

-- words among those of two lists
pub among_left : (xs ys : List Word) (k : Word) → Among xs k → Among (xs ++ ys) k
among_left [] ys k h = absurd h
among_left (x ∷ xs) ys k (inl e) = inl e
among_left (x ∷ xs) ys k (inr h) = inr (among_left xs ys k h)

pub among_right : (xs ys : List Word) (k : Word) → Among ys k → Among (xs ++ ys) k
among_right [] ys k h = h
among_right (x ∷ xs) ys k h = inr (among_right xs ys k h)

pub among_either : (xs ys : List Word) (k : Word) → Among (xs ++ ys) k → Among xs k ⊎ Among ys k
among_either [] ys k h = inr h
among_either (x ∷ xs) ys k (inl e) = inl (inl e)
among_either (x ∷ xs) ys k (inr h) = ⊎_elim (λ a. inl (inr a)) inr (among_either xs ys k h)

module _ (f : ℕ → Word) where
  pub among_from : (xs : List ℕ) (n : ℕ) → has xs n ≡ true → Among (map f xs) (f n)
  among_from [] n h = absurd (cc h)
  among_from (x ∷ xs) n h =
      ⊎_elim (λ (e : eqb n x ≡ true). inl (ap f (sym (eqb-true n x e))))
      (λ (e : eqb n x ≡ false). inr (among_from xs n (sym (ap (λ b. b || has xs n) e) ∙ h))) (bool_cases (eqb n x))

  pub has_of : ((m n : ℕ) → f m ≡ f n → m ≡ n) → (xs : List ℕ) (n : ℕ) → Among (map f xs) (f n) → has xs n ≡ true
  has_of same [] n h = absurd h
  has_of same (x ∷ xs) n (inl e) = ap (λ b. b || has xs n) (eq-eqb n x (sym (same x n e)))
  has_of same (x ∷ xs) n (inr h) =
      ⊎_elim (λ (e : eqb n x ≡ true). ap (λ b. b || has xs n) e)
      (λ (e : eqb n x ≡ false). ap (λ b. b || has xs n) e ∙ has_of same xs n h) (bool_cases (eqb n x))

  pub among_none : (k : Word) → ((m : ℕ) → f m ≢ k) → (xs : List ℕ) → Among (map f xs) k → ⊥
  among_none k ne [] h = h
  among_none k ne (x ∷ xs) (inl e) = ne x e
  among_none k ne (x ∷ xs) (inr h) = among_none k ne xs h

  -- the words of one sort after one more waits
  pub joined_either : (xs : List ℕ) (n : ℕ) (k : Word) → Among (map f (joined xs n)) k → (k ≡ f n) ⊎ Among (map f xs) k
  joined_either xs n k h =
      ⊎_elim (λ (q : (has xs n ≡ true) × (joined xs n ≡ xs)). inr (subst (λ l. Among (map f l) k) q.1 h))
      (λ (e : joined xs n ≡ xs ++ n ∷ []).
      ⊎_elim inr (λ (g : Among (f n ∷ []) k). ⊎_elim (λ (q : f n ≡ k). inl (sym q)) (λ (g : ⊥). absurd g) g)
      (among_either (map f xs) (f n ∷ []) k (subst (λ l. Among l k) (ap (map f) e ∙ map-append f xs (n ∷ [])) h)))
      (joined_by xs n)

  pub joined_still : (xs : List ℕ) (n : ℕ) (k : Word) → Among (map f xs) k → Among (map f (joined xs n)) k
  joined_still xs n k h =
      ⊎_elim (λ (q : (has xs n ≡ true) × (joined xs n ≡ xs)). subst (λ l. Among (map f l) k) (sym q.1) h)
      (λ (e : joined xs n ≡ xs ++ n ∷ []).
      subst (λ l. Among l k) (sym (ap (map f) e ∙ map-append f xs (n ∷ []))) (among_left (map f xs) (f n ∷ []) k h))
      (joined_by xs n)

  pub joined_marked : (xs : List ℕ) (n : ℕ) → Among (map f (joined xs n)) (f n)
  joined_marked xs n = among_from (joined xs n) n (has_joined xs n)

  pub joined_count : (xs : List ℕ) (n : ℕ) → length (map f (joined xs n)) ≤ length (map f xs) + 1
  joined_count xs n =
      ⊎_elim (λ (q : (has xs n ≡ true) × (joined xs n ≡ xs)). let e = ap (λ l. length (map f l)) q.1 in omega (arith, e))
      (λ (e : joined xs n ≡ xs ++ n ∷ []).
      let long = ap (λ l. length (map f l)) e in
      omega (arith, long, length-map (xs ++ n ∷ []) f, length-map xs f, length-append xs (n ∷ [])))
      (joined_by xs n)

  pub joined_sum : (g : Word → ℕ) (xs : List ℕ) (n : ℕ) → sum_by g (map f (joined xs n)) ≤ sum_by g (map f xs) + g (f n)
  joined_sum g xs n =
      ⊎_elim (λ (q : (has xs n ≡ true) × (joined xs n ≡ xs)). let e = ap (λ l. sum_by g (map f l)) q.1 in omega (arith, e))
      (λ (e : joined xs n ≡ xs ++ n ∷ []).
      let all : sum_by g (map f (joined xs n)) ≡ sum_by g (map f xs) + g (f n) =
      ap (λ l. sum_by g (map f l)) e ∙ ap (sum_by g) (map-append f xs (n ∷ [])) ∙ sum_by_push g (map f xs) (f n) in
      omega (arith, all))
      (joined_by xs n)

same_scratch : (m n : ℕ) → Scratch m ≡ Scratch n → m ≡ n
same_scratch m n e = cc e

same_register : (m n : ℕ) → Register m ≡ Register n → m ≡ n
same_register m n e = cc e

same_element : (m n : ℕ) → Element m ≡ Element n → m ≡ n
same_element m n e = cc e

-- a sort after a word of it got an id and waits
abbrev pub given : Shelved → ℕ → ℕ → Shelved
given s n id = shelved (joined s.kept n) (set s.ids n id) (joined s.waiting n)

pub puts_scratch : (s r e : Shelved) (n id : ℕ) → n < length s.ids → Puts (table s r e) (table (given s n id) r e) (Scratch n) id
unfolding id_in dirty_in
puts_scratch s r e n id lt =
    let rest = map Register r.waiting ++ map Element e.waiting in
    record {
      here = id_here s n id (joined s.waiting n) lt;
      other = other;
      dirty = λ k h. ⊎_elim
          (λ a. ⊎_elim inl (λ b. inr (among_left (map Scratch s.waiting) rest k b)) (joined_either Scratch s.waiting n k a))
          (λ b. inr (among_right (map Scratch s.waiting) rest k b)) (among_either (map Scratch (joined s.waiting n)) rest k h);
      still = λ k h. ⊎_elim
          (λ a. among_left (map Scratch (joined s.waiting n)) rest k (joined_still Scratch s.waiting n k a))
          (λ b. among_right (map Scratch (joined s.waiting n)) rest k b) (among_either (map Scratch s.waiting) rest k h);
      marked = among_left (map Scratch (joined s.waiting n)) rest (Scratch n) (joined_marked Scratch s.waiting n);
      count = omega (arith, joined_count Scratch s.waiting n, length-append (map Scratch (joined s.waiting n)) rest, length-append (map Scratch s.waiting) rest);
      sum = λ f. omega (arith, joined_sum Scratch f s.waiting n, sum_by-append f (map Scratch (joined s.waiting n)) rest, sum_by-append f (map Scratch s.waiting) rest);
    }
  where
    other : (k : Word) → k ≢ Scratch n → id_in (table (given s n id) r e) k ≡ id_in (table s r e) k
    other (Scratch m) ne = id_other s n id (joined s.waiting n) m (λ q. ne (ap Scratch q))
    other (Register m) ne = refl
    other (Element m) ne = refl

pub puts_register : (s r e : Shelved) (n id : ℕ) → n < length r.ids → Puts (table s r e) (table s (given r n id) e) (Register n) id
unfolding id_in dirty_in
puts_register s r e n id lt =
    let front = map Scratch s.waiting in let back = map Element e.waiting in
    let old = map Register r.waiting in let new = map Register (joined r.waiting n) in
    record {
      here = id_here r n id (joined r.waiting n) lt;
      other = other;
      dirty = λ k h. ⊎_elim (λ a. inr (among_left front (old ++ back) k a))
          (λ b. ⊎_elim
          (λ c. ⊎_elim inl (λ d. inr (among_right front (old ++ back) k (among_left old back k d))) (joined_either Register r.waiting n k c))
          (λ c. inr (among_right front (old ++ back) k (among_right old back k c))) (among_either new back k b))
          (among_either front (new ++ back) k h);
      still = λ k h. ⊎_elim (λ a. among_left front (new ++ back) k a)
          (λ b. among_right front (new ++ back) k (⊎_elim (λ c. among_left new back k (joined_still Register r.waiting n k c))
          (λ c. among_right new back k c) (among_either old back k b)))
          (among_either front (old ++ back) k h);
      marked = among_right front (new ++ back) (Register n) (among_left new back (Register n) (joined_marked Register r.waiting n));
      count = omega (
        arith,
        joined_count Register r.waiting n,
        length-append front (new ++ back),
        length-append front (old ++ back),
        length-append new back,
        length-append old back,
      );
      sum = λ f. omega (arith, joined_sum Register f r.waiting n, sum_by-append f front (new ++ back), sum_by-append f front (old ++ back), sum_by-append f new back, sum_by-append f old back);
    }
  where
    other : (k : Word) → k ≢ Register n → id_in (table s (given r n id) e) k ≡ id_in (table s r e) k
    other (Scratch m) ne = refl
    other (Register m) ne = id_other r n id (joined r.waiting n) m (λ q. ne (ap Register q))
    other (Element m) ne = refl

pub puts_element : (s r e : Shelved) (n id : ℕ) → n < length e.ids → Puts (table s r e) (table s r (given e n id)) (Element n) id
unfolding id_in dirty_in
puts_element s r e n id lt =
    let front = map Scratch s.waiting in let mid = map Register r.waiting in
    let old = map Element e.waiting in let new = map Element (joined e.waiting n) in
    record {
      here = id_here e n id (joined e.waiting n) lt;
      other = other;
      dirty = λ k h. ⊎_elim (λ a. inr (among_left front (mid ++ old) k a))
          (λ b. ⊎_elim (λ c. inr (among_right front (mid ++ old) k (among_left mid old k c)))
          (λ c. ⊎_elim inl (λ d. inr (among_right front (mid ++ old) k (among_right mid old k d))) (joined_either Element e.waiting n k c))
          (among_either mid new k b))
          (among_either front (mid ++ new) k h);
      still = λ k h. ⊎_elim (λ a. among_left front (mid ++ new) k a)
          (λ b. among_right front (mid ++ new) k (⊎_elim (λ c. among_left mid new k c)
          (λ c. among_right mid new k (joined_still Element e.waiting n k c)) (among_either mid old k b)))
          (among_either front (mid ++ old) k h);
      marked = among_right front (mid ++ new) (Element n) (among_right mid new (Element n) (joined_marked Element e.waiting n));
      count = omega (
        arith,
        joined_count Element e.waiting n,
        length-append front (mid ++ new),
        length-append front (mid ++ old),
        length-append mid new,
        length-append mid old,
      );
      sum = λ f. omega (arith, joined_sum Element f e.waiting n, sum_by-append f front (mid ++ new), sum_by-append f front (mid ++ old), sum_by-append f mid new, sum_by-append f mid old);
    }
  where
    other : (k : Word) → k ≢ Element n → id_in (table s r (given e n id)) k ≡ id_in (table s r e) k
    other (Scratch m) ne = refl
    other (Register m) ne = refl
    other (Element m) ne = id_other e n id (joined e.waiting n) m (λ q. ne (ap Element q))

-- a word that waits has a sort whose words that wait have its number
pub waits_scratch : (t : Table) (n : ℕ) → Among (dirty_in t) (Scratch n) → has t.scratch.waiting n ≡ true
unfolding dirty_in
waits_scratch t n h =
    ⊎_elim (λ a. has_of Scratch same_scratch t.scratch.waiting n a)
    (λ b. absurd (⊎_elim (λ c. among_none Register (Scratch n) (λ m e. absurd (cc e)) t.registers.waiting c)
    (λ c. among_none Element (Scratch n) (λ m e. absurd (cc e)) t.elements.waiting c)
    (among_either (map Register t.registers.waiting) (map Element t.elements.waiting) (Scratch n) b)))
    (among_either (map Scratch t.scratch.waiting) (map Register t.registers.waiting ++ map Element t.elements.waiting) (Scratch n) h)

pub waits_register : (t : Table) (n : ℕ) → Among (dirty_in t) (Register n) → has t.registers.waiting n ≡ true
unfolding dirty_in
waits_register t n h =
    ⊎_elim (λ a. absurd (among_none Scratch (Register n) (λ m e. absurd (cc e)) t.scratch.waiting a))
    (λ b. ⊎_elim (λ c. has_of Register same_register t.registers.waiting n c)
    (λ c. absurd (among_none Element (Register n) (λ m e. absurd (cc e)) t.elements.waiting c))
    (among_either (map Register t.registers.waiting) (map Element t.elements.waiting) (Register n) b))
    (among_either (map Scratch t.scratch.waiting) (map Register t.registers.waiting ++ map Element t.elements.waiting) (Register n) h)

pub waits_element : (t : Table) (n : ℕ) → Among (dirty_in t) (Element n) → has t.elements.waiting n ≡ true
unfolding dirty_in
waits_element t n h =
    ⊎_elim (λ a. absurd (among_none Scratch (Element n) (λ m e. absurd (cc e)) t.scratch.waiting a))
    (λ b. ⊎_elim (λ c. absurd (among_none Register (Element n) (λ m e. absurd (cc e)) t.registers.waiting c))
    (λ c. has_of Element same_element t.elements.waiting n c)
    (among_either (map Register t.registers.waiting) (map Element t.elements.waiting) (Element n) b))
    (among_either (map Scratch t.scratch.waiting) (map Register t.registers.waiting ++ map Element t.elements.waiting) (Element n) h)

module _ {X : Type 0} where
  last_item : (xs : List X) (i : ℕ) (x : X) → slice_get xs i ≡ Some x → length xs ≡ suc i → xs ≡ take i xs ++ x ∷ []
  last_item [] i x h long = absurd (cc h)
  last_item (y ∷ []) zero x h long = ap (λ z. z ∷ []) (some_is h)
    where
      some_is : Some y ≡ Some x → y ≡ x
      some_is e = cc e
  last_item (y ∷ z ∷ zs) zero x h long = absurd (omega (arith, long))
  last_item (y ∷ ys) (suc i) x h long = ap (λ zs. y ∷ zs) (last_item ys i x h (omega (arith, long)))

  pub last_split : (xs : List X) (x : X) → slice_get xs (length xs - 1) ≡ Some x → xs ≡ all_but_last xs ++ x ∷ []
  last_split [] x h = absurd (cc h)
  last_split (y ∷ ys) x h = last_item (y ∷ ys) (length (y ∷ ys) - 1) x h (omega arith)

  but_last_end : (xs : List X) (x : X) → all_but_last (xs ++ x ∷ []) ≡ xs
  but_last_end xs x =
      let at : length (xs ++ x ∷ []) - 1 ≡ length xs + 0 = omega (arith, length-append xs (x ∷ [])) in
      ap (λ k. take k (xs ++ x ∷ [])) at ∙ take-append-add xs (x ∷ []) 0 ∙ append-nil xs

  but_last_append : (xs ys : List X) → 0 < length ys → all_but_last (xs ++ ys) ≡ xs ++ all_but_last ys
  but_last_append xs ys lt =
      let at : length (xs ++ ys) - 1 ≡ length xs + (length ys - 1) = omega (arith, length-append xs ys, lt) in
      ap (λ k. take k (xs ++ ys)) at ∙ take-append-add xs ys (length ys - 1)

  pub nil_of : (xs : List X) → length xs ≤ 0 → xs ≡ []
  nil_of [] le = refl
  nil_of (x ∷ xs) le = absurd (omega (arith, le))

but_last_map : (f : ℕ → Word) (xs : List ℕ) → all_but_last (map f xs) ≡ map f (all_but_last xs)
but_last_map f xs = ap (λ k. take (k - 1) (map f xs)) (length-map xs f) ∙ take-map f (length xs - 1) xs

-- the last word that waits
pub last_element : (t : Table) (n id : ℕ) → slice_get t.elements.waiting (length t.elements.waiting - 1) ≡ Some n → id_of t.elements n ≡ Some id
    → IsLast t (Element n) id
unfolding id_in dirty_in
last_element t n id at here =
    let front = map Scratch t.scratch.waiting in let mid = map Register t.registers.waiting in
    let own = map Element (all_but_last t.elements.waiting) in
    record {
      here = here;
      rest = front ++ (mid ++ own);
      dirty = ap (λ xs. front ++ (mid ++ map Element xs)) (last_split t.elements.waiting n at)
          ∙ ap (λ xs. front ++ (mid ++ xs)) (map-append Element (all_but_last t.elements.waiting) (n ∷ []))
          ∙ ap (λ xs. front ++ xs) (sym (append_assoc mid own (Element n ∷ []))) ∙ sym (append_assoc front (mid ++ own) (Element n ∷ []));
    }

pub last_register : (t : Table) (n id : ℕ) → t.elements.waiting ≡ [] → slice_get t.registers.waiting (length t.registers.waiting - 1) ≡ Some n
    → id_of t.registers n ≡ Some id → IsLast t (Register n) id
unfolding id_in dirty_in
last_register t n id none at here =
    let front = map Scratch t.scratch.waiting in let own = map Register (all_but_last t.registers.waiting) in
    record {
      here = here;
      rest = front ++ own;
      dirty = ap (λ xs. front ++ (map Register t.registers.waiting ++ map Element xs)) none
          ∙ ap (λ xs. front ++ xs) (append-nil (map Register t.registers.waiting))
          ∙ ap (λ xs. front ++ map Register xs) (last_split t.registers.waiting n at)
          ∙ ap (λ xs. front ++ xs) (map-append Register (all_but_last t.registers.waiting) (n ∷ []))
          ∙ sym (append_assoc front own (Register n ∷ []));
    }

pub last_scratch : (t : Table) (n id : ℕ) → t.elements.waiting ≡ [] → t.registers.waiting ≡ []
    → slice_get t.scratch.waiting (length t.scratch.waiting - 1) ≡ Some n → id_of t.scratch n ≡ Some id → IsLast t (Scratch n) id
unfolding id_in dirty_in
last_scratch t n id none nothing at here =
    let own = map Scratch (all_but_last t.scratch.waiting) in
    record {
      here = here;
      rest = own;
      dirty = ap (λ xs. map Scratch t.scratch.waiting ++ (map Register t.registers.waiting ++ map Element xs)) none
          ∙ ap (λ xs. map Scratch t.scratch.waiting ++ (map Register xs ++ [])) nothing
          ∙ append-nil (map Scratch t.scratch.waiting)
          ∙ ap (map Scratch) (last_split t.scratch.waiting n at) ∙ map-append Scratch (all_but_last t.scratch.waiting) (n ∷ []);
    }

-- the words that wait when the last of them no longer does
abbrev pub settled : Shelved → Shelved
settled s = shelved s.kept s.ids (all_but_last s.waiting)

pops_from : (old new : Table) → ((k : Word) → id_in new k ≡ id_in old k) → dirty_in new ≡ all_but_last (dirty_in old)
    → (k : Word) (id : ℕ) → IsLast old k id → Pops old new k id
pops_from old new ids e k id l =
    record {
      here = l.here;
      ids = ids;
      dirty = l.dirty ∙ ap (λ xs. xs ++ k ∷ []) (sym (e ∙ (ap all_but_last l.dirty ∙ but_last_end l.rest k)));
    }

pub pops_element : (s r e : Shelved) → 0 < length e.waiting → (k : Word) (id : ℕ) → IsLast (table s r e) k id
    → Pops (table s r e) (table s r (settled e)) k id
unfolding id_in dirty_in
pops_element s r e lt = pops_from (table s r e) (table s r (settled e)) ids dirty
  where
    ids : (k : Word) → id_in (table s r (settled e)) k ≡ id_in (table s r e) k
    ids (Scratch n) = refl
    ids (Register n) = refl
    ids (Element n) = refl

    dirty : dirty_in (table s r (settled e)) ≡ all_but_last (dirty_in (table s r e))
    dirty =
        let front = map Scratch s.waiting in let mid = map Register r.waiting in let own = map Element e.waiting in
        let some : 0 < length own = omega (arith, lt, length-map e.waiting Element) in
        let more : 0 < length (mid ++ own) = omega (arith, some, length-append mid own) in
        sym (but_last_append front (mid ++ own) more ∙ ap (λ xs. front ++ xs) (but_last_append mid own some)
        ∙ ap (λ xs. front ++ (mid ++ xs)) (but_last_map Element e.waiting))

pub pops_register : (s r e : Shelved) → length e.waiting ≤ 0 → 0 < length r.waiting → (k : Word) (id : ℕ) → IsLast (table s r e) k id
    → Pops (table s r e) (table s (settled r) e) k id
unfolding id_in dirty_in
pops_register s r e le lt = pops_from (table s r e) (table s (settled r) e) ids dirty
  where
    ids : (k : Word) → id_in (table s (settled r) e) k ≡ id_in (table s r e) k
    ids (Scratch n) = refl
    ids (Register n) = refl
    ids (Element n) = refl

    dirty : dirty_in (table s (settled r) e) ≡ all_but_last (dirty_in (table s r e))
    dirty =
        let front = map Scratch s.waiting in let own = map Register r.waiting in let none = nil_of e.waiting le in
        let some : 0 < length own = omega (arith, lt, length-map r.waiting Register) in
        ap (λ xs. front ++ (map Register (all_but_last r.waiting) ++ map Element xs)) none
        ∙ ap (λ xs. front ++ xs) (append-nil (map Register (all_but_last r.waiting)))
        ∙ sym (ap (λ xs. all_but_last (front ++ (own ++ map Element xs))) none ∙ ap (λ xs. all_but_last (front ++ xs)) (append-nil own)
        ∙ but_last_append front own some ∙ ap (λ xs. front ++ xs) (but_last_map Register r.waiting))

pub pops_scratch : (s r e : Shelved) → length e.waiting ≤ 0 → length r.waiting ≤ 0 → (k : Word) (id : ℕ) → IsLast (table s r e) k id
    → Pops (table s r e) (table (settled s) r e) k id
unfolding id_in dirty_in
pops_scratch s r e le less = pops_from (table s r e) (table (settled s) r e) ids dirty
  where
    ids : (k : Word) → id_in (table (settled s) r e) k ≡ id_in (table s r e) k
    ids (Scratch n) = refl
    ids (Register n) = refl
    ids (Element n) = refl

    dirty : dirty_in (table (settled s) r e) ≡ all_but_last (dirty_in (table s r e))
    dirty =
        let none = nil_of e.waiting le in let nothing = nil_of r.waiting less in
        ap (λ xs. map Scratch (all_but_last s.waiting) ++ (map Register r.waiting ++ map Element xs)) none
        ∙ ap (λ xs. map Scratch (all_but_last s.waiting) ++ (map Register xs ++ [])) nothing
        ∙ append-nil (map Scratch (all_but_last s.waiting))
        ∙ sym (ap (λ xs. all_but_last (map Scratch s.waiting ++ (map Register r.waiting ++ map Element xs))) none
        ∙ ap (λ xs. all_but_last (map Scratch s.waiting ++ (map Register xs ++ []))) nothing
        ∙ ap all_but_last (append-nil (map Scratch s.waiting)) ∙ but_last_map Scratch s.waiting)

-- what laws say
pub all_clean : (t : Table) → dirty_in t ≡ [] → elements_in t ≡ []
unfolding dirty_in
all_clean t e =
    let front = map Scratch t.scratch.waiting in let mid = map Register t.registers.waiting in let own = map Element t.elements.waiting in
    let long = ap (λ xs. length xs) e in
    nil_of t.elements.waiting (omega (arith, long, length-append front (mid ++ own), length-append mid own, length-map t.elements.waiting Element))

last_of_end : (xs : List ℕ) → 0 < length xs → (n : ℕ) × (xs ≡ all_but_last xs ++ n ∷ [])
last_of_end xs lt =
    let at = slice_get-get_or xs (length xs - 1) 0 (omega (arith, lt)) in
    (get_or xs (length xs - 1) 0, last_split xs (get_or xs (length xs - 1) 0) at)

end_same : (xs ys : List Word) (x y : Word) → xs ++ x ∷ [] ≡ ys ++ y ∷ [] → x ≡ y
end_same xs ys x y e =
    let long : length xs ≡ length ys = let q = ap (λ l. length l) e in omega (arith, q, length-append xs (x ∷ []), length-append ys (y ∷ [])) in
    sym (get_or-append_seam xs x [] x) ∙ (ap (λ l. get_or l (length xs) x) e ∙ (ap (λ k. get_or (ys ++ y ∷ []) k x) long ∙ get_or-append_seam ys y [] x))

pub last_is_element : (t : Table) (k : Word) (id : ℕ) → IsLast t k id → 0 < length (elements_in t) → (n : ℕ) × (k ≡ Element n)
unfolding dirty_in
last_is_element t k id l lt =
    let front = map Scratch t.scratch.waiting in let mid = map Register t.registers.waiting in
    let own = map Element (all_but_last t.elements.waiting) in let split = last_of_end t.elements.waiting lt in let n = split.0 in
    let e : dirty_in t ≡ (front ++ (mid ++ own)) ++ Element n ∷ [] =
    ap (λ xs. front ++ (mid ++ map Element xs)) split.1
    ∙ ap (λ xs. front ++ (mid ++ xs)) (map-append Element (all_but_last t.elements.waiting) (n ∷ []))
    ∙ ap (λ xs. front ++ xs) (sym (append_assoc mid own (Element n ∷ []))) ∙ sym (append_assoc front (mid ++ own) (Element n ∷ [])) in
    (n, end_same l.rest (front ++ (mid ++ own)) k (Element n) (sym l.dirty ∙ e))

-- the same, for tables that are seen as their parts
pub popped : (old mid new : Table) → mid ≡ old → ((k : Word) (id : ℕ) → IsLast mid k id → Pops mid new k id)
    → (k : Word) (id : ℕ) → IsLast old k id → Pops old new k id
popped old mid new e is = subst (λ t. (k : Word) (id : ℕ) → IsLast t k id → Pops t new k id) e is

pub put_in : (old mid new last : Table) (k w : Word) (id : ℕ) → mid ≡ old → last ≡ new → k ≡ w → Puts mid last w id → Puts old new k id
put_in old mid new last k w id e f q is =
    subst (λ t. Puts t new k id) e (subst (λ t. Puts mid t k id) f (subst (λ v. Puts mid last v id) (sym q) is))

pub held_scratch : (t : Table) (k : Word) (n : ℕ) → IsTrue (holds (limits_in t) k) → k ≡ Scratch n → n < length t.scratch.ids
held_scratch t k n h e = ltb-true n (length t.scratch.ids) (subst (λ w. holds (limits_in t) w ≡ true) e h)

pub held_register : (t : Table) (k : Word) (n : ℕ) → IsTrue (holds (limits_in t) k) → k ≡ Register n → n < length t.registers.ids
held_register t k n h e = ltb-true n (length t.registers.ids) (subst (λ w. holds (limits_in t) w ≡ true) e h)

pub held_element : (t : Table) (k : Word) (n : ℕ) → IsTrue (holds (limits_in t) k) → k ≡ Element n → n < length t.elements.ids
held_element t k n h e = ltb-true n (length t.elements.ids) (subst (λ w. holds (limits_in t) w ≡ true) e h)

abbrev pub WaitsIn : Table → Word → Type 0
WaitsIn t (Scratch n) = has t.scratch.waiting n ≡ true
WaitsIn t (Register n) = has t.registers.waiting n ≡ true
WaitsIn t (Element n) = has t.elements.waiting n ≡ true

pub waits : (t : Table) (k : Word) → Among (dirty_in t) k → WaitsIn t k
waits t (Scratch n) = waits_scratch t n
waits t (Register n) = waits_register t n
waits t (Element n) = waits_element t n
