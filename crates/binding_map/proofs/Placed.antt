-- A map that grows by one register after the other, as far as the whole of it is a map.
use Rattle.std.proofs.Common.{◌≡◌, ℕ, zero, suc, ◌+◌, ◌-◌, ◌<◌, ◌≤◌, ◌⊎◌, ⊎_elim, inl, inr, Bool, true, false, cond, min, List, [], ◌∷◌, ◌++◌, map, filter, length, get_or, slice_get, Option, Some, None, refl, sym, ap, ◌∙◌, subst, arith, length-append}
use Rattle.std.specs.List.{range_with_len}
use Rattle.std.proofs.lemmas.List.{map-append, append_assoc, append-nil}
use Rattle.std.proofs.lemmas.List.Elements.{filter-append}
use Rattle.std.proofs.lemmas.Option.{slice_get_within}
use Rattle.binding_map.specs.declared.register.Register.{Register}
use Rattle.binding_map.specs.declared.register.Place.{Place}
use Rattle.binding_map.specs.declared.root.Growing.{Growing}
use Rattle.binding_map.specs.Bindings.{Binding, binding, IsMap}
use Rattle.binding_map.specs.Joins.{MayJoin}
use Rattle.binding_map.specs.Roots.{Wanted, want, is_in, run_of, place_at, behind, placed}
use Rattle.binding_map.specs.Growing.{number_behind, MayGrow, Grows}
use Rattle.binding_map.proofs.Numbered.{range_more}
use Rattle.binding_map.proofs.TextRules.{front, here, not_found}

-- PARTS OF A MAP
pub in_front : {X : Type 0} (xs ys : List X) (i : ℕ) (x : X) → slice_get xs i ≡ Some x → slice_get (xs ++ ys) i ≡ Some x
in_front xs ys i x h = front xs ys i (slice_get_within xs i x h) ∙ h

map_front : (xs ys : List Binding) → IsMap (xs ++ ys) → IsMap xs
map_front xs ys m = record {
  registers = λ i j a b x y. m.registers i j a b (in_front xs ys i a x) (in_front xs ys j b y);
  descriptors = λ i j a b x y. m.descriptors i j a b (in_front xs ys i a x) (in_front xs ys j b y);
  pushes = λ i j a b x y. m.pushes i j a b (in_front xs ys i a x) (in_front xs ys j b y);
  slots = λ i a x. m.slots i a (in_front xs ys i a x);
  places = λ i a x. m.places i a (in_front xs ys i a x);
  few = omega (arith, m.few, length-append xs ys);
}

-- a binding behind others in a map may join them
joins : (xs ys : List Binding) (b : Binding) → IsMap (xs ++ b ∷ ys) → MayJoin xs b.register b.place
joins xs ys b m = record {
  absent = not_found b.register xs (λ i a h e. behind_all i a h (m.registers i (length xs) a b (in_front xs (b ∷ ys) i a h) (here xs ys b) e));
  descriptor = λ i a h set number p q. behind_all i a h (m.descriptors i (length xs) a b (in_front xs (b ∷ ys) i a h) (here xs ys b) set number p q);
  push = λ i a h w p q. behind_all i a h (m.pushes i (length xs) a b (in_front xs (b ∷ ys) i a h) (here xs ys b) w p q);
  is_word = m.slots (length xs) b (here xs ys b);
  suits = m.places (length xs) b (here xs ys b);
  few = omega (arith, m.few, length-append xs (b ∷ ys));
} where
  behind_all : (i : ℕ) (a : Binding) → slice_get xs i ≡ Some a → i ≡ length xs → ⊥
  behind_all i a h e = omega (arith, slice_get_within xs i a h, e)

pub one_joins : (g : Growing) (w : Wanted) → MayGrow g (w ∷ []) → MayJoin g.bindings w.register (place_at g.next w.words)
one_joins g w m = joins g.bindings [] (binding w.register (place_at g.next w.words)) m.map

-- GROWING
placed_append : (n : ℕ) (xs ys : List Wanted) → placed n (xs ++ ys) ≡ placed n xs ++ placed (number_behind n xs) ys
placed_append n [] ys = refl
placed_append n (w ∷ xs) ys = ap (λ l. binding w.register (place_at n w.words) ∷ l) (placed_append (behind n w.words) xs ys)

number_append : (n : ℕ) (xs ys : List Wanted) → number_behind n (xs ++ ys) ≡ number_behind (number_behind n xs) ys
number_append n [] ys = refl
number_append n (w ∷ xs) ys = number_append (behind n w.words) xs ys

behind_one : (n : ℕ) (words : Option Place) → behind n words ≤ n + 1
behind_one n None = omega arith
behind_one n (Some place) = omega arith

number_few : (n : ℕ) (xs : List Wanted) → number_behind n xs ≤ n + length xs
number_few n [] = omega arith
number_few n (w ∷ xs) = omega (arith, number_few (behind n w.words) xs, behind_one n w.words)

pub grows_none : (g : Growing) → Grows g g []
grows_none g = record { bindings = sym (append-nil g.bindings); next = refl }

pub grows_on : (a b c : Growing) (xs ys : List Wanted) → Grows a b xs → Grows b c ys → Grows a c (xs ++ ys)
grows_on a b c xs ys f g = record {
  bindings =
      g.bindings ∙ ap (λ l. l ++ placed b.next ys) f.bindings ∙ append_assoc a.bindings (placed a.next xs) (placed b.next ys)
      ∙ ap (λ n. a.bindings ++ (placed a.next xs ++ placed n ys)) f.next ∙ ap (λ l. a.bindings ++ l) (sym (placed_append a.next xs ys));
  next = g.next ∙ ap (λ n. number_behind n ys) f.next ∙ sym (number_append a.next xs ys);
}

pub may_front : (a : Growing) (xs ys : List Wanted) → MayGrow a (xs ++ ys) → MayGrow a xs
may_front a xs ys m = record {
  map = map_front (a.bindings ++ placed a.next xs) (placed (number_behind a.next xs) ys)
      (subst IsMap (ap (λ l. a.bindings ++ l) (placed_append a.next xs ys) ∙ sym (append_assoc a.bindings (placed a.next xs) (placed (number_behind a.next xs) ys))) m.map);
  few = omega (arith, m.few, length-append xs ys);
}

pub may_behind : (a b : Growing) (xs ys : List Wanted) → MayGrow a (xs ++ ys) → Grows a b xs → MayGrow b ys
may_behind a b xs ys m f = record {
  map = subst IsMap
      (ap (λ l. a.bindings ++ l) (placed_append a.next xs ys) ∙ sym (append_assoc a.bindings (placed a.next xs) (placed (number_behind a.next xs) ys))
      ∙ ap (λ l. l ++ placed (number_behind a.next xs) ys) (sym f.bindings) ∙ ap (λ n. b.bindings ++ placed n ys) (sym f.next)) m.map;
  few = omega (arith, m.few, length-append xs ys, f.next, number_few a.next xs);
}

-- RUNS
module _ (kind : ℕ → Register) (words : Option Place) (base count : ℕ) (marks : List Bool) where
  -- the run as far as the slots below a number go
  abbrev pub run_below : ℕ → List Wanted
  run_below n = run_of kind words base count (filter (λ slot. get_or marks slot false) (range_with_len 0 n))

  abbrev by_tests : (marked inside : Bool) → ℕ → List Wanted
  by_tests true true n = want kind words n ∷ []
  by_tests true false n = []
  by_tests false inside n = []

  run_more : (n : ℕ) → run_below (n + 1) ≡ run_below n ++ by_tests (get_or marks n false) (is_in base count n) n
  run_more n =
      let next : range_with_len 0 (n + 1) ≡ range_with_len 0 n ++ n ∷ [] = range_more 0 n ∙ (let e : 0 + n ≡ n = omega arith in ap (λ x. range_with_len 0 n ++ x ∷ []) e) in
      ap (λ l. run_of kind words base count (filter (λ slot. get_or marks slot false) l)) next
      ∙ ap (run_of kind words base count) (filter-append (λ slot. get_or marks slot false) (range_with_len 0 n) (n ∷ []))
      ∙ ap (map (want kind words)) (filter-append (is_in base count) (filter (λ slot. get_or marks slot false) (range_with_len 0 n)) (filter (λ slot. get_or marks slot false) (n ∷ [])))
      ∙ map-append (want kind words) (filter (is_in base count) (filter (λ slot. get_or marks slot false) (range_with_len 0 n))) (filter (is_in base count) (filter (λ slot. get_or marks slot false) (n ∷ [])))
      ∙ ap (λ l. run_below n ++ l) (last (get_or marks n false) (is_in base count n) refl)
    where
      last : (m i : Bool) → is_in base count n ≡ i → map (want kind words) (filter (is_in base count) (cond m (n ∷ []) [])) ≡ by_tests m i n
      last true true e = ap (λ t. map (want kind words) (cond t (n ∷ []) [])) e
      last true false e = ap (λ t. map (want kind words) (cond t (n ∷ []) [])) e
      last false i e = refl

  pub run_with : (n : ℕ) → get_or marks n false ≡ true → is_in base count n ≡ true → run_below (n + 1) ≡ run_below n ++ want kind words n ∷ []
  run_with n m i = run_more n ∙ ap (λ t. run_below n ++ by_tests t (is_in base count n) n) m ∙ ap (λ t. run_below n ++ by_tests true t n) i

  pub run_without : (n : ℕ) → get_or marks n false ≡ false → run_below (n + 1) ≡ run_below n
  run_without n m = run_more n ∙ ap (λ t. run_below n ++ by_tests t (is_in base count n) n) m ∙ append-nil (run_below n)

  outside : (n : ℕ) → is_in base count n ≡ false → run_below (n + 1) ≡ run_below n
  outside n i = run_more n ∙ ap (λ t. run_below n ++ by_tests (get_or marks n false) t n) i ∙ ap (λ l. run_below n ++ l) (none (get_or marks n false)) ∙ append-nil (run_below n) where
    none : (m : Bool) → by_tests m false n ≡ []
    none true = refl
    none false = refl

  passed_by : (n k : ℕ) → ((slot : ℕ) → n ≤ slot → slot < n + k → run_below (slot + 1) ≡ run_below slot) → run_below (n + k) ≡ run_below n
  passed_by n zero h = let e : n + 0 ≡ n = omega arith in ap run_below e
  passed_by n (suc k) h =
      let e : n + suc k ≡ n + k + 1 = omega arith in
      ap run_below e ∙ h (n + k) (omega arith) (omega arith) ∙ passed_by n k (λ slot low high. h slot low (omega (arith, high)))

  below_base : (n slot : ℕ) → slot < base → is_in base count slot ≡ false
  below_base n slot h = grind arith

  behind_end : (slot : ℕ) → base + count ≤ slot → is_in base count slot ≡ false
  behind_end slot h = grind arith

  -- no slot below the base is in the run
  pub run_begins : run_below base ≡ []
  run_begins = ap run_below (let e : base ≡ 0 + base = omega arith in e) ∙ passed_by 0 base (λ slot _ high. outside slot (below_base 0 slot (omega (arith, high))))

  -- no slot from an end on is in the run
  pub run_ends : (last end : ℕ) → length marks ≤ 128 → base + count ≤ end ⊎ (length marks ≤ end) ⊎ (128 ≤ end) → end ≤ last → run_below last ≡ run_below (length marks)
  run_ends last end small e h = ⊎_elim within past (either last (length marks)) where
    either : (a b : ℕ) → (a ≤ b) ⊎ (b ≤ a)
    either a b = grind arith

    no_mark : (xs : List Bool) (slot : ℕ) → length xs ≤ slot → get_or xs slot false ≡ false
    no_mark [] slot l = refl
    no_mark (x ∷ xs) zero l = absurd (omega (arith, l))
    no_mark (x ∷ xs) (suc slot) l = no_mark xs slot (omega (arith, l))

    within : last ≤ length marks → run_below last ≡ run_below (length marks)
    within l =
        let n : last + (length marks - last) ≡ length marks = omega (arith, l) in
        sym (ap run_below (sym n) ∙ passed_by last (length marks - last) (λ slot low high. outside slot (behind_end slot (⊎_elim (λ x. omega (arith, x, h, low)) (⊎_elim (λ x. absurd (omega (arith, x, h, low, high, n))) (λ x. absurd (omega (arith, x, h, low, high, n, small)))) e))))

    past : length marks ≤ last → run_below last ≡ run_below (length marks)
    past l =
        let n : length marks + (last - length marks) ≡ last = omega (arith, l) in
        ap run_below (sym n) ∙ passed_by (length marks) (last - length marks) (λ slot low high. run_without slot (no_mark marks slot low))

  longer : (n k : ℕ) → (rest : List Wanted) × (run_below (n + k) ≡ run_below n ++ rest)
  longer n zero = let e : n + 0 ≡ n = omega arith in ([], ap run_below e ∙ sym (append-nil (run_below n)))
  longer n (suc k) =
      let l = longer n k in
      let e : n + suc k ≡ n + k + 1 = omega arith in
      let more = by_tests (get_or marks (n + k) false) (is_in base count (n + k)) (n + k) in
      (l.0 ++ more, ap run_below e ∙ run_more (n + k) ∙ ap (λ r. r ++ more) l.1 ∙ append_assoc (run_below n) l.0 more)

  -- the next register of a run
  pub run_next : (a b : Growing) (n : ℕ) → n < length marks → get_or marks n false ≡ true → is_in base count n ≡ true
      → MayGrow a (run_below (length marks)) → Grows a b (run_below n) → MayGrow b (want kind words n ∷ [])
  run_next a b n lt m i may grows =
      let k : n + 1 + (length marks - (n + 1)) ≡ length marks = omega (arith, lt) in
      let l = longer (n + 1) (length marks - (n + 1)) in
      let e : run_below (length marks) ≡ (run_below n ++ want kind words n ∷ []) ++ l.0 = ap run_below (sym k) ∙ l.1 ∙ ap (λ r. r ++ l.0) (run_with n m i) in
      may_behind a b (run_below n) (want kind words n ∷ []) (may_front a (run_below n ++ want kind words n ∷ []) l.0 (subst (MayGrow a) e may)) grows

-- a slot below the end that code computes is in the run, and none from there on
pub is_inside : (base count marks sum end slot : ℕ) → sum ≡ min (base + count) 4294967295 → end ≡ min sum marks → base ≤ slot → slot < end → is_in base count slot ≡ true
is_inside base count marks sum end slot s e low high = inside (omega (arith, s, e, high)) where
  inside : slot < base + count → is_in base count slot ≡ true
  inside h = grind arith

pub end_is : (base count marks sum end : ℕ) → sum ≡ min (base + count) 4294967295 → end ≡ min sum marks → (base + count ≤ end) ⊎ ((marks ≤ end) ⊎ (128 ≤ end))
end_is base count marks sum end s e = ⊎_elim (λ a. inl (omega (arith, s, e, a))) (λ a. inr (⊎_elim (λ b. inl (omega (arith, s, e, a, b))) (λ b. inr (omega (arith, s, e, a, b))) (either marks sum))) (first (base + count) sum marks) where
  either : (a b : ℕ) → (a ≤ b) ⊎ (b < a)
  either a b = grind arith

  first : (a b c : ℕ) → ((a ≤ b) × (a ≤ c)) ⊎ ((b < a) ⊎ (c < a))
  first a b c = grind arith
