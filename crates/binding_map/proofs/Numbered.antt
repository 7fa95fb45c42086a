-- Numbering group after group gives the default map.
use Rattle.std.proofs.Common.{◌≡◌, ℕ, zero, suc, ◌+◌, ◌≤◌, Bool, true, false, List, [], ◌∷◌, ◌++◌, map, filter, length, get_or, slice_get, Some, None, refl, ap, sym, ◌∙◌, ◌⊎◌, inl, inr, arith, true≢false, find, length-append, cond, if◌then◌else◌}
use Rattle.std.specs.List.{range_with_len}
use Rattle.std.specs.Option.{option_map}
use Rattle.std.proofs.lemmas.List.{map-append, append_assoc, append-nil}
use Rattle.std.proofs.lemmas.List.Elements.{filter-append}
use Rattle.binding_map.specs.declared.defaults.Group.{Group}
use Rattle.binding_map.specs.declared.defaults.Group.TheVariants.{Constants, Resources, Uavs, Counters}
use Rattle.binding_map.specs.declared.register.Register.{Register}
use Rattle.binding_map.specs.declared.register.Register.TheVariants.{Constant, Resource, Uav, Counter}
use Rattle.binding_map.specs.declared.register.Place.TheVariants.{Bound}
use Rattle.binding_map.specs.Bindings.{Binding, binding, place_of, same_register}
use Rattle.binding_map.specs.Defaults.{numbered}
use Rattle.binding_map.specs.Numbering.{register_in, marked_below, is_before, AreBefore, AreNumbered}
use Rattle.binding_map.proofs.Joined.{at_end}

-- LISTS OF NUMBERED REGISTERS.
length_numbered : (n : ℕ) (registers : List Register) → length (numbered n registers) ≡ length registers
length_numbered n [] = refl
length_numbered n (r ∷ registers) = ap suc (length_numbered (n + 1) registers)

numbered_append : (n : ℕ) (rs ss : List Register) → numbered n (rs ++ ss) ≡ numbered n rs ++ numbered (n + length rs) ss
numbered_append n [] ss = let e : n ≡ n + 0 = omega arith in ap (λ k. numbered k ss) e
numbered_append n (r ∷ rs) ss =
    let e : n + 1 + length rs ≡ n + suc (length rs) = omega arith in
    ap (λ l. binding r (Bound 0 n) ∷ l) (numbered_append (n + 1) rs ss ∙ ap (λ k. numbered (n + 1) rs ++ numbered k ss) e)

numbered_more : (n : ℕ) (rs : List Register) (r : Register) → numbered n (rs ++ r ∷ []) ≡ numbered n rs ++ binding r (Bound 0 (n + length rs)) ∷ []
numbered_more n rs r = numbered_append n rs (r ∷ [])

-- a list that is numbered, and one that follows it
pub follows : (rs ss : List Register) (old new : List Binding) → old ≡ numbered 0 rs → new ≡ old ++ numbered (length old) ss → new ≡ numbered 0 (rs ++ ss)
follows rs ss old new e f =
    let count : length (numbered 0 rs) ≡ 0 + length rs = length_numbered 0 rs ∙ omega arith in
    f ∙ (ap (λ l. l ++ numbered (length l) ss) e ∙ (ap (λ n. numbered 0 rs ++ numbered n ss) count ∙ sym (numbered_append 0 rs ss)))

-- MARKED SLOTS.
pub range_more : (a n : ℕ) → range_with_len a (n + 1) ≡ range_with_len a n ++ (a + n) ∷ []
range_more a zero = let e : a ≡ a + 0 = omega arith in ap (λ x. x ∷ []) e
range_more a (suc n) =
    let e : suc n + 1 ≡ suc (n + 1) = omega arith in
    let f : a + 1 + n ≡ a + suc n = omega arith in
    ap (range_with_len a) e ∙ ap (λ l. a ∷ l) (range_more (a + 1) n ∙ ap (λ x. range_with_len (a + 1) n ++ x ∷ []) f)

marked_more : (n : ℕ) (group : Group) (marks : List Bool)
    → marked_below (n + 1) group marks ≡ marked_below n group marks ++ (if get_or marks n false then register_in group n ∷ [] else [])
marked_more n group marks =
    let test : ℕ → Bool = λ slot. get_or marks slot false in
    let next : range_with_len 0 (n + 1) ≡ range_with_len 0 n ++ n ∷ [] =
    range_more 0 n ∙ (let e : 0 + n ≡ n = omega arith in ap (λ x. range_with_len 0 n ++ x ∷ []) e) in
    ap (λ l. map (register_in group) (filter test l)) next
    ∙ (ap (map (register_in group)) (filter-append test (range_with_len 0 n) (n ∷ []))
    ∙ (map-append (register_in group) (filter test (range_with_len 0 n)) (filter test (n ∷ []))
    ∙ ap (λ l. marked_below n group marks ++ l) (by (get_or marks n false))))
  where
    by : (b : Bool) → map (register_in group) (cond b (n ∷ []) []) ≡ (if b then register_in group n ∷ [] else [])
    by true = refl
    by false = refl

-- REGISTERS COME IN ORDER, so that each is new.
later_differs : (group : Group) (slot : ℕ) (r : Register) → is_before group slot r ≡ true → same_register (register_in group slot) r ≡ false
later_differs Constants slot (Constant s) h = grind (arith, h)
later_differs Constants slot (Resource s) h = refl
later_differs Constants slot (Uav s) h = refl
later_differs Constants slot (Counter s) h = refl
later_differs Resources slot (Constant s) h = refl
later_differs Resources slot (Resource s) h = grind (arith, h)
later_differs Resources slot (Uav s) h = refl
later_differs Resources slot (Counter s) h = refl
later_differs Uavs slot (Constant s) h = refl
later_differs Uavs slot (Resource s) h = refl
later_differs Uavs slot (Uav s) h = grind (arith, h)
later_differs Uavs slot (Counter s) h = refl
later_differs Counters slot (Constant s) h = refl
later_differs Counters slot (Resource s) h = refl
later_differs Counters slot (Uav s) h = refl
later_differs Counters slot (Counter s) h = grind (arith, h)

stays_before : (group : Group) (slot : ℕ) (r : Register) → is_before group slot r ≡ true → is_before group (slot + 1) r ≡ true
stays_before Constants slot (Constant s) h = grind (arith, h)
stays_before Constants slot (Resource s) h = absurd (true≢false (sym h))
stays_before Constants slot (Uav s) h = absurd (true≢false (sym h))
stays_before Constants slot (Counter s) h = absurd (true≢false (sym h))
stays_before Resources slot (Constant s) h = refl
stays_before Resources slot (Resource s) h = grind (arith, h)
stays_before Resources slot (Uav s) h = absurd (true≢false (sym h))
stays_before Resources slot (Counter s) h = absurd (true≢false (sym h))
stays_before Uavs slot (Constant s) h = refl
stays_before Uavs slot (Resource s) h = refl
stays_before Uavs slot (Uav s) h = grind (arith, h)
stays_before Uavs slot (Counter s) h = absurd (true≢false (sym h))
stays_before Counters slot (Constant s) h = refl
stays_before Counters slot (Resource s) h = refl
stays_before Counters slot (Uav s) h = refl
stays_before Counters slot (Counter s) h = grind (arith, h)

is_next : (group : Group) (slot : ℕ) → is_before group (slot + 1) (register_in group slot) ≡ true
is_next Constants slot = grind arith
is_next Resources slot = grind arith
is_next Uavs slot = grind arith
is_next Counters slot = grind arith

-- what stands before the end of a group stands before the next one
pub resources_next : (slot : ℕ) (bindings : List Binding) → AreBefore Constants slot bindings → AreBefore Resources 0 bindings
resources_next slot bindings before i a h = by a.register (before i a h)
  where
    by : (r : Register) → is_before Constants slot r ≡ true → is_before Resources 0 r ≡ true
    by (Constant s) h = refl
    by (Resource s) h = absurd (true≢false (sym h))
    by (Uav s) h = absurd (true≢false (sym h))
    by (Counter s) h = absurd (true≢false (sym h))

pub uavs_next : (slot : ℕ) (bindings : List Binding) → AreBefore Resources slot bindings → AreBefore Uavs 0 bindings
uavs_next slot bindings before i a h = by a.register (before i a h)
  where
    by : (r : Register) → is_before Resources slot r ≡ true → is_before Uavs 0 r ≡ true
    by (Constant s) h = refl
    by (Resource s) h = refl
    by (Uav s) h = absurd (true≢false (sym h))
    by (Counter s) h = absurd (true≢false (sym h))

pub counters_next : (slot : ℕ) (bindings : List Binding) → AreBefore Uavs slot bindings → AreBefore Counters 0 bindings
counters_next slot bindings before i a h = by a.register (before i a h)
  where
    by : (r : Register) → is_before Uavs slot r ≡ true → is_before Counters 0 r ≡ true
    by (Constant s) h = refl
    by (Resource s) h = refl
    by (Uav s) h = refl
    by (Counter s) h = absurd (true≢false (sym h))

no_place : (r : Register) (bindings : List Binding) → ((i : ℕ) (a : Binding) → slice_get bindings i ≡ Some a → same_register r a.register ≡ false)
    → place_of bindings r ≡ None
no_place r [] h = refl
no_place r (b ∷ bindings) h =
    ap (λ test. option_map (λ c. c.place) (cond test (Some b) (find (λ c. same_register r c.register) bindings))) (h 0 b refl)
    ∙ no_place r bindings (λ i a e. h (suc i) a e)

-- ONE GROUP, up to a slot.
pub record Numbering (group : Group) (marks : List Bool) (start : List Binding) (n : ℕ) (now : List Binding) : Type 0 where
  pub list : now ≡ start ++ numbered (length start) (marked_below n group marks)
  pub numbers : AreNumbered now
  pub before : AreBefore group n now
  pub count : length now ≤ length start + n

pub is_absent : (group : Group) (n : ℕ) (now : List Binding) → AreBefore group n now → place_of now (register_in group n) ≡ None
is_absent group n now before = no_place (register_in group n) now (λ i a h. later_differs group n a.register (before i a h))

pub begins : (group : Group) (marks : List Bool) (start : List Binding) → AreNumbered start → AreBefore group 0 start → Numbering group marks start 0 start
begins group marks start numbers before =
    record { list = sym (append-nil start); numbers = numbers; before = before; count = omega arith }

pub with_mark : (group : Group) (marks : List Bool) (start : List Binding) (n : ℕ) (now : List Binding) → Numbering group marks start n now
    → get_or marks n false ≡ true → Numbering group marks start (n + 1) (now ++ binding (register_in group n) (Bound 0 (length now)) ∷ [])
with_mark group marks start n now g mark = record {
  list =
      ap (λ k. now ++ binding (register_in group n) (Bound 0 k) ∷ []) count
      ∙ (ap (λ l. l ++ binding (register_in group n) (Bound 0 (length start + length registers)) ∷ []) g.list
      ∙ (append_assoc start (numbered (length start) registers) (binding (register_in group n) (Bound 0 (length start + length registers)) ∷ [])
      ∙ ap (λ l. start ++ l) (sym (numbered_more (length start) registers (register_in group n))
      ∙ sym (ap (numbered (length start)) (marked_more n group marks ∙ ap (λ b. registers ++ (if b then register_in group n ∷ [] else [])) mark)))));
  numbers = λ i a h. place_by i a (at_end now last a i h);
  before = λ i a h. before_by i a (at_end now last a i h);
  count = omega (arith, g.count, length-append now (last ∷ []));
}
  where
    registers : List Register
    registers = marked_below n group marks

    last : Binding
    last = binding (register_in group n) (Bound 0 (length now))

    count : length now ≡ length start + length registers
    count = ap length g.list ∙ (length-append start (numbered (length start) registers) ∙ ap (λ k. length start + k) (length_numbered (length start) registers))

    place_by : (i : ℕ) (a : Binding) → (slice_get now i ≡ Some a) ⊎ ((i ≡ length now) × (a ≡ last)) → a.place ≡ Bound 0 i
    place_by i a (inl h) = g.numbers i a h
    place_by i a (inr h) = ap (λ (b : Binding). b.place) h.1 ∙ ap (Bound 0) (sym h.0)

    before_by : (i : ℕ) (a : Binding) → (slice_get now i ≡ Some a) ⊎ ((i ≡ length now) × (a ≡ last)) → is_before group (n + 1) a.register ≡ true
    before_by i a (inl h) = stays_before group n a.register (g.before i a h)
    before_by i a (inr h) = ap (λ (b : Binding). is_before group (n + 1) b.register) h.1 ∙ is_next group n

pub without_mark : (group : Group) (marks : List Bool) (start : List Binding) (n : ℕ) (now : List Binding) → Numbering group marks start n now
    → get_or marks n false ≡ false → Numbering group marks start (n + 1) now
without_mark group marks start n now g mark = record {
  list =
      g.list ∙ ap (λ l. start ++ numbered (length start) l)
      (sym (marked_more n group marks ∙ (ap (λ b. marked_below n group marks ++ (if b then register_in group n ∷ [] else [])) mark ∙ append-nil (marked_below n group marks))));
  numbers = g.numbers;
  before = λ i a h. stays_before group n a.register (g.before i a h);
  count = omega (arith, g.count);
}
