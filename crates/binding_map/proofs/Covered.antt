-- The map of a root signature is a map: no register is covered twice, and no push constant word.
use Rattle.std.proofs.Common.{◌≡◌, ℕ, zero, suc, ◌+◌, ◌-◌, ◌<◌, ◌≤◌, ◌^◌, ◌⊎◌, ⊎_elim, inl, inr, Bool, true, false, cond, eqb, nat_le, List, [], ◌∷◌, ◌++◌, map, filter, length, get_or, slice_get, take, drop, Option, Some, None, refl, sym, ap, ◌∙◌, subst, arith}
use Rattle.std.specs.Prelude.{◌≢◌, ◌&&◌, ◌||◌, flat_map}
use Rattle.std.specs.List.{range_with_len, list_any}
use Rattle.std.proofs.lemmas.Bool.Decides.{eqb_tells, Decides-eqb}
use Rattle.std.proofs.lemmas.List.Sums.{sum_by-append}
use Rattle.std.proofs.lemmas.Map.Made.{IsDistinct-from_AllPairs}
use Rattle.std.proofs.lemmas.Map.Steps.{length-le_from_distinct_below}
use Rattle.std.proofs.lemmas.Option.{slice_get-get_or}
use Rattle.root_signature.specs.declared.covers.Covers.{Covers}
use Rattle.root_signature.specs.declared.covers.Covers.TheVariants.{Constants, Cbv, Srv, Uav}
use Rattle.root_signature.specs.Covers.{constants_row, resource_row, uav_row, is_covered, push_words, last_of}
use Rattle.root_signature.specs.Signatures.{words_in, IsSignature}
use Rattle.tpf_program.specs.Program.{Shader}
use Rattle.tpf_program.specs.Extents.{is_resource, is_uav, steps_counter}
use Rattle.binding_map.specs.declared.register.Register.{Register}
use Rattle.binding_map.specs.declared.register.Register.TheVariants as register
use Rattle.binding_map.specs.declared.register.Place.{Place}
use Rattle.binding_map.specs.declared.register.Place.TheVariants.{Bound, Push}
use Rattle.binding_map.specs.Bindings.{Binding, binding, is_at, has_word, slot_of, IsPlaceFor, IsMap}
use Rattle.binding_map.specs.Defaults.{is_constants, counter_slots}
use Rattle.std.proofs.lemmas.List.{append_assoc, append-nil, take_all, take-append-drop}
use Rattle.binding_map.specs.declared.defaults.Group.TheVariants as group
use Rattle.binding_map.specs.declared.registers.Registers.{Registers}
use Rattle.binding_map.specs.declared.root.Growing.{Growing}
use Rattle.binding_map.specs.Marks.{AreMarks, HasMarks}
use Rattle.binding_map.specs.Growing.{MayGrow, Grows, marked_slots, marked_run, marked_by}
use Rattle.binding_map.proofs.Marked.{next_item}
use Rattle.binding_map.proofs.Placed.{grows_on, may_front, may_behind}
use Rattle.binding_map.proofs.Whole.{same_choice}
use Rattle.binding_map.specs.Roots.{Wanted, want, is_in, run_of, covered_by, root_registers, place_at, behind, placed, root_map}

-- LISTS IN WHICH NO TWO ITEMS ARE IN A RELATION
abbrev pub NoTwo : {X : Type 0} → (X → X → Type 0) → List X → Type 0
NoTwo R xs = (i j : ℕ) (a b : _) → slice_get xs i ≡ Some a → slice_get xs j ≡ Some b → R a b → i ≡ j

-- an item of two lists is one of the first or of the second
in_either : {X : Type 0} (xs ys : List X) (i : ℕ) (x : X) → slice_get (xs ++ ys) i ≡ Some x
    → (slice_get xs i ≡ Some x) ⊎ ((j : ℕ) × (slice_get ys j ≡ Some x) × (i ≡ length xs + j))
in_either [] ys i x h = inr (i, h, omega arith)
in_either (y ∷ xs) ys zero x h = inl h
in_either (y ∷ xs) ys (suc i) x h = ⊎_elim inl (λ r. inr (r.0, r.1, omega (arith, r.2))) (in_either xs ys i x h)

no_two_append : {X : Type 0} (R : X → X → Type 0) (xs ys : List X) → NoTwo R xs → NoTwo R ys
    → ((i j : ℕ) (a b : X) → slice_get xs i ≡ Some a → slice_get ys j ≡ Some b → R a b → ⊥)
    → ((i j : ℕ) (a b : X) → slice_get xs i ≡ Some a → slice_get ys j ≡ Some b → R b a → ⊥) → NoTwo R (xs ++ ys)
no_two_append {X} R xs ys left right one two i j a b h g r = by (in_either xs ys i a h) (in_either xs ys j b g) where
  by : (slice_get xs i ≡ Some a) ⊎ ((k : ℕ) × (slice_get ys k ≡ Some a) × (i ≡ length xs + k)) → (slice_get xs j ≡ Some b) ⊎ ((k : ℕ) × (slice_get ys k ≡ Some b) × (j ≡ length xs + k)) → i ≡ j
  by (inl x) (inl y) = left i j a b x y r
  by (inl x) (inr y) = absurd (one i y.0 a b x y.1 r)
  by (inr x) (inl y) = absurd (two j x.0 b a y x.1 r)
  by (inr x) (inr y) = omega (arith, x.2, y.2, right x.0 y.0 a b x.1 y.1 r)

kept_at : {X : Type 0} (f : X → Bool) (xs : List X) (i : ℕ) (x : X) → slice_get (filter f xs) i ≡ Some x → (j : ℕ) × (slice_get xs j ≡ Some x) × (f x ≡ true)
kept_at f [] i x h = absurd (cc h)
kept_at {X} f (y ∷ xs) i x h = by (f y) refl i (kept_at f xs) h where
  by : (t : Bool) → f y ≡ t → (i : ℕ) → ((k : ℕ) (z : X) → slice_get (filter f xs) k ≡ Some z → (j : ℕ) × (slice_get xs j ≡ Some z) × (f z ≡ true))
      → slice_get (cond t (y ∷ filter f xs) (filter f xs)) i ≡ Some x → (j : ℕ) × (slice_get (y ∷ xs) j ≡ Some x) × (f x ≡ true)
  by true e zero rest g = (0, g, let q : y ≡ x = cc g in subst (λ z. f z ≡ true) q e)
  by true e (suc k) rest g = let r = rest k x g in (suc r.0, r.1, r.2)
  by false e k rest g = let r = rest k x g in (suc r.0, r.1, r.2)

tail_of : {X : Type 0} (R : X → X → Type 0) (x : X) (xs : List X) → NoTwo R (x ∷ xs) → NoTwo R xs
tail_of R x xs h i j a b p q r = let e : suc i ≡ suc j = h (suc i) (suc j) a b p q r in omega (arith, e)

no_two_kept : {X : Type 0} (R : X → X → Type 0) (f : X → Bool) (xs : List X) → NoTwo R xs → NoTwo R (filter f xs)
no_two_kept R f [] h = λ i j a b p q r. absurd (cc p)
no_two_kept {X} R f (x ∷ xs) h = by (f x) (no_two_kept R f xs (tail_of R x xs h)) where
  by : (t : Bool) → NoTwo R (filter f xs) → NoTwo R (cond t (x ∷ filter f xs) (filter f xs))
  by false rest i j a b p q r = rest i j a b p q r
  by true rest zero zero a b p q r = refl
  by true rest zero (suc j) a b p q r = let k = kept_at f xs j b q in absurd (omega (arith, h 0 (suc k.0) a b p k.1 r))
  by true rest (suc i) zero a b p q r = let k = kept_at f xs i a p in absurd (omega (arith, h (suc k.0) 0 a b k.1 q r))
  by true rest (suc i) (suc j) a b p q r = ap suc (rest i j a b p q r)

mapped_at : {X Y : Type 0} (h : X → Y) (xs : List X) (i : ℕ) (y : Y) → slice_get (map h xs) i ≡ Some y → (x : X) × (slice_get xs i ≡ Some x) × (h x ≡ y)
mapped_at h [] i y e = absurd (cc e)
mapped_at h (x ∷ xs) zero y e = (x, refl, cc e)
mapped_at h (x ∷ xs) (suc i) y e = mapped_at h xs i y e

no_two_mapped : {X Y : Type 0} (R : X → X → Type 0) (S : Y → Y → Type 0) (h : X → Y) (xs : List X) → ((i j : ℕ) (a b : X) → slice_get xs i ≡ Some a → slice_get xs j ≡ Some b → S (h a) (h b) → R a b) → NoTwo R xs → NoTwo S (map h xs)
no_two_mapped R S h xs back apart i j a b p q s =
    let x = mapped_at h xs i a p in
    let y = mapped_at h xs j b q in
    apart i j x.0 y.0 x.1 y.1 (back i j x.0 y.0 x.1 y.1 (subst (λ v. S (h x.0) v) (sym y.2) (subst (λ u. S u b) (sym x.2) s)))

range_at : (a n i x : ℕ) → slice_get (range_with_len a n) i ≡ Some x → (x ≡ a + i) × (i < n)
range_at a zero i x h = absurd (cc h)
range_at a (suc n) zero x h = let e : a ≡ x = cc h in (omega (arith, e), omega arith)
range_at a (suc n) (suc i) x h = let r = range_at (a + 1) n i x h in (omega (arith, r.0), omega (arith, r.1))

no_two_in_range : (a n : ℕ) → NoTwo (λ x y. x ≡ y) (range_with_len a n)
no_two_in_range a n i j x y p q e = omega (arith, (range_at a n i x p).0, (range_at a n j y q).0, e)

-- RUNS OF REGISTERS
abbrev pub SameRegister : Wanted → Wanted → Type 0
SameRegister a b = a.register ≡ b.register

-- a slot of a run
pub record InRun (kind : ℕ → Register) (words : Option Place) (base count n : ℕ) (w : Wanted) : Type 0 where
  slot : ℕ
  register : w.register ≡ kind slot
  given : w.words ≡ words
  below : slot < n
  inside : is_in base count slot ≡ true

run_at : (kind : ℕ → Register) (words : Option Place) (base count : ℕ) (t : ℕ → Bool) (n i : ℕ) (w : Wanted)
    → slice_get (run_of kind words base count (filter t (range_with_len 0 n))) i ≡ Some w → InRun kind words base count n w
run_at kind words base count t n i w h =
    let m = mapped_at (want kind words) (filter (is_in base count) (filter t (range_with_len 0 n))) i w h in
    let f = kept_at (is_in base count) (filter t (range_with_len 0 n)) i m.0 m.1 in
    let g = kept_at t (range_with_len 0 n) f.0 m.0 f.1 in
    let r = range_at 0 n g.0 m.0 g.1 in
    record { slot = m.0; register = sym (ap (λ (v : Wanted). v.register) m.2); given = sym (ap (λ (v : Wanted). v.words) m.2); below = omega (arith, r.0, r.1); inside = f.2 }

run_apart : (kind : ℕ → Register) (words : Option Place) (base count : ℕ) (t : ℕ → Bool) (n : ℕ) → ((a b : ℕ) → kind a ≡ kind b → a ≡ b)
    → NoTwo SameRegister (run_of kind words base count (filter t (range_with_len 0 n)))
run_apart kind words base count t n single =
    no_two_mapped (λ x y. x ≡ y) SameRegister (want kind words) (filter (is_in base count) (filter t (range_with_len 0 n)))
    (λ _ _ a b _ _ e. single a b e)
    (no_two_kept (λ x y. x ≡ y) (is_in base count) (filter t (range_with_len 0 n)) (no_two_kept (λ x y. x ≡ y) t (range_with_len 0 n) (no_two_in_range 0 n)))

abbrev pub row : Register → ℕ
row (register.Constant slot) = constants_row slot
row (register.Resource slot) = resource_row slot
row (register.Uav slot) = uav_row slot
row (register.Counter slot) = 0

-- a number of its own for each register within the limits
abbrev pub code : Register → ℕ
code (register.Constant slot) = slot
code (register.Resource slot) = 14 + slot
code (register.Uav slot) = 142 + slot
code (register.Counter slot) = 206 + slot

abbrev pub IsLimited : Register → Type 0
IsLimited (register.Constant slot) = slot < 14
IsLimited (register.Resource slot) = slot < 128
IsLimited (register.Uav slot) = slot < 64
IsLimited (register.Counter slot) = slot < 64

abbrev pub IsCounter : Register → Type 0
IsCounter (register.Counter slot) = Unit {0}
IsCounter other = ⊥

-- root constants in an entry
pub record IsPushed (c : Covers) (w : Wanted) (place : Place) : Type 0 where
  slot : ℕ
  first : ℕ
  count : ℕ
  entry : c ≡ Constants slot first count
  register : w.register ≡ register.Constant slot
  given : place ≡ Push first count

-- what an entry covers
pub record Covering (c : Covers) (w : Wanted) : Type 0 where
  covered : is_covered c (row w.register) ≡ true
  kept : IsCounter w.register → ⊥
  limited : IsLimited w.register
  pushed : (place : Place) → w.words ≡ Some place → IsPushed c w place

within : (base count slot : ℕ) → is_in base count slot ≡ true → (base ≤ slot) × (slot < base + count)
within base count slot h = grind arith

covers_slot : (base count slot : ℕ) → is_in base count slot ≡ true → slot < 128 → (base ≤ slot) × (slot ≤ last_of base count)
covers_slot base count slot h small = ((within base count slot h).0, last (eqb count 0xFFFFFFFF)) where
  last : (t : Bool) → slot ≤ cond t 0xFFFFFFFF (base + count - 1)
  last true = omega (arith, small)
  last false = omega (arith, (within base count slot h).1)

at_constant : (low high slot : ℕ) → low ≤ slot → slot ≤ high → (nat_le low slot && nat_le slot high) ≡ true
at_constant low high slot a b = grind arith

covering : (p : Shader) (c : Covers) (i : ℕ) (w : Wanted) → slice_get (covered_by p c) i ≡ Some w → Covering c w
covering p (Constants slot first count) i w h =
    let r = run_at register.Constant (Some (Push first count)) slot 1 (λ s. list_any (λ d. is_constants s d.what) p.declarations) 14 i w h in
    let s = within slot 1 r.slot r.inside in
    let e : r.slot ≡ slot = omega (arith, s.0, s.1) in
    record {
      covered = subst (λ x. is_covered (Constants slot first count) (row x) ≡ true) (sym r.register) (at_constant slot slot r.slot (omega (arith, e)) (omega (arith, e)));
      kept = λ k. subst IsCounter r.register k;
      limited = subst IsLimited (sym r.register) r.below;
      pushed = λ place g. record { slot = slot; first = first; count = count; entry = refl; register = r.register ∙ ap register.Constant e; given = cc (g, r.given) };
    }
covering p (Cbv base count) i w h =
    let r = run_at register.Constant None base count (λ s. list_any (λ d. is_constants s d.what) p.declarations) 14 i w h in
    let s = covers_slot base count r.slot r.inside (omega (arith, r.below)) in
    record {
      covered = subst (λ x. is_covered (Cbv base count) (row x) ≡ true) (sym r.register) (at_constant base (last_of base count) r.slot s.0 s.1);
      kept = λ k. subst IsCounter r.register k;
      limited = subst IsLimited (sym r.register) r.below;
      pushed = λ place g. absurd (cc (g, r.given));
    }
covering p (Srv base count) i w h =
    let r = run_at register.Resource None base count (λ s. list_any (λ d. is_resource s d.what) p.declarations) 128 i w h in
    let s = covers_slot base count r.slot r.inside (omega (arith, r.below)) in
    record {
      covered = subst (λ x. is_covered (Srv base count) (row x) ≡ true) (sym r.register) (at_constant (resource_row base) (resource_row (last_of base count)) (resource_row r.slot) (omega (arith, s.0)) (omega (arith, s.1)));
      kept = λ k. subst IsCounter r.register k;
      limited = subst IsLimited (sym r.register) r.below;
      pushed = λ place g. absurd (cc (g, r.given));
    }
covering p (Uav base count) i w h =
    let r = run_at register.Uav None base count (λ s. list_any (λ d. is_uav s d.what) p.declarations) 64 i w h in
    let s = covers_slot base count r.slot r.inside (omega (arith, r.below)) in
    record {
      covered = subst (λ x. is_covered (Uav base count) (row x) ≡ true) (sym r.register) (at_constant (uav_row base) (uav_row (last_of base count)) (uav_row r.slot) (omega (arith, s.0)) (omega (arith, s.1)));
      kept = λ k. subst IsCounter r.register k;
      limited = subst IsLimited (sym r.register) r.below;
      pushed = λ place g. absurd (cc (g, r.given));
    }

one_constant : (a b : ℕ) → register.Constant a ≡ register.Constant b → a ≡ b
one_constant a b e = cc e

one_resource : (a b : ℕ) → register.Resource a ≡ register.Resource b → a ≡ b
one_resource a b e = cc e

one_uav : (a b : ℕ) → register.Uav a ≡ register.Uav b → a ≡ b
one_uav a b e = cc e

one_counter : (a b : ℕ) → register.Counter a ≡ register.Counter b → a ≡ b
one_counter a b e = cc e

covered_apart : (p : Shader) (c : Covers) → NoTwo SameRegister (covered_by p c)
covered_apart p (Constants slot first count) = run_apart register.Constant (Some (Push first count)) slot 1 (λ s. list_any (λ d. is_constants s d.what) p.declarations) 14 one_constant
covered_apart p (Cbv base count) = run_apart register.Constant None base count (λ s. list_any (λ d. is_constants s d.what) p.declarations) 14 one_constant
covered_apart p (Srv base count) = run_apart register.Resource None base count (λ s. list_any (λ d. is_resource s d.what) p.declarations) 128 one_resource
covered_apart p (Uav base count) = run_apart register.Uav None base count (λ s. list_any (λ d. is_uav s d.what) p.declarations) 64 one_uav

-- ALL ENTRIES
abbrev pub Apart : List Covers → Type 0
Apart root = (i j : ℕ) (a b : Covers) → slice_get root i ≡ Some a → slice_get root j ≡ Some b
    → (r : ℕ) → is_covered a r ≡ true → is_covered b r ≡ true → i ≡ j

-- a wanted register is covered by one of the entries
pub record Among (root : List Covers) (w : Wanted) : Type 0 where
  index : ℕ
  entry : Covers
  there : slice_get root index ≡ Some entry
  covering : Covering entry w

among : (p : Shader) (root : List Covers) (i : ℕ) (w : Wanted) → slice_get (flat_map (covered_by p) root) i ≡ Some w → Among root w
among p [] i w h = absurd (cc h)
among p (c ∷ root) i w h = ⊎_elim
    (λ x. record { index = 0; entry = c; there = refl; covering = covering p c i w x })
    (λ y. let a = among p root y.0 w y.1 in record { index = suc a.index; entry = a.entry; there = a.there; covering = a.covering })
    (in_either (covered_by p c) (flat_map (covered_by p) root) i w h)

pub all_apart : (p : Shader) (root : List Covers) → Apart root → NoTwo SameRegister (flat_map (covered_by p) root)
all_apart p [] apart = λ i j a b h g e. absurd (cc h)
all_apart p (c ∷ root) apart =
    no_two_append SameRegister (covered_by p c) (flat_map (covered_by p) root) (covered_apart p c)
    (all_apart p root (λ i j a b x y r s t. let e : suc i ≡ suc j = apart (suc i) (suc j) a b x y r s t in omega (arith, e)))
    (λ i j a b h g e. cross i j a b h g (ap row e)) (λ i j a b h g e. cross i j a b h g (ap row (sym e)))
  where
    cross : (i j : ℕ) (a b : Wanted) → slice_get (covered_by p c) i ≡ Some a → slice_get (flat_map (covered_by p) root) j ≡ Some b → row a.register ≡ row b.register → ⊥
    cross i j a b h g e =
        let m = among p root j b g in
        let q : 0 ≡ suc m.index = apart 0 (suc m.index) c m.entry refl m.there (row a.register) (covering p c i a h).covered (subst (λ r. is_covered m.entry r ≡ true) (sym e) m.covering.covered) in
        omega (arith, q)

counters_of : (p : Shader) (i : ℕ) (w : Wanted) → slice_get (map (want register.Counter None) (counter_slots p)) i ≡ Some w → (slot : ℕ) × (w ≡ want register.Counter None slot) × (slot < 64)
counters_of p i w h =
    let m = mapped_at (want register.Counter None) (counter_slots p) i w h in
    let k = kept_at (λ slot. list_any (steps_counter slot) p.instructions) (range_with_len 0 64) i m.0 m.1 in
    let r = range_at 0 64 k.0 m.0 k.1 in
    (m.0, sym m.2, omega (arith, r.0, r.1))

counters_apart : (p : Shader) → NoTwo SameRegister (map (want register.Counter None) (counter_slots p))
counters_apart p =
    no_two_mapped (λ x y. x ≡ y) SameRegister (want register.Counter None) (counter_slots p) (λ _ _ a b _ _ e. one_counter a b e)
    (no_two_kept (λ x y. x ≡ y) (λ slot. list_any (steps_counter slot) p.instructions) (range_with_len 0 64) (no_two_in_range 0 64))

-- what is to be bound is covered by an entry, or a counter
pub data Kept (root : List Covers) (w : Wanted) : Type 0 where
  entry : Among root w → Kept root w
  counter : (slot : ℕ) → w ≡ want register.Counter None slot → slot < 64 → Kept root w

kept : (root : List Covers) (p : Shader) (i : ℕ) (w : Wanted) → slice_get (root_registers root p) i ≡ Some w → Kept root w
kept root p i w h = ⊎_elim
    (λ x. entry (among p root i w x))
    (λ y. let c = counters_of p y.0 w y.1 in counter c.0 c.1 c.2)
    (in_either (flat_map (covered_by p) root) (map (want register.Counter None) (counter_slots p)) i w h)

pub registers_apart : (root : List Covers) (p : Shader) → Apart root → NoTwo SameRegister (root_registers root p)
registers_apart root p apart =
    no_two_append SameRegister (flat_map (covered_by p) root) (map (want register.Counter None) (counter_slots p)) (all_apart p root apart) (counters_apart p)
    (λ i j a b h g e. cross i j a b h g e) (λ i j a b h g e. cross i j a b h g (sym e))
  where
    cross : (i j : ℕ) (a b : Wanted) → slice_get (flat_map (covered_by p) root) i ≡ Some a → slice_get (map (want register.Counter None) (counter_slots p)) j ≡ Some b → a.register ≡ b.register → ⊥
    cross i j a b h g e =
        let m = among p root i a h in
        let c = counters_of p j b g in
        m.covering.kept (subst IsCounter (sym (e ∙ ap (λ (w : Wanted). w.register) c.1)) tt)

limited : (root : List Covers) (w : Wanted) → Kept root w → IsLimited w.register
limited root w (entry a) = a.covering.limited
limited root w (counter slot e small) = subst (λ (v : Wanted). IsLimited v.register) (sym e) small

-- THERE ARE AT MOST 270
code_below : (r : Register) → IsLimited r → code r < 270
code_below (register.Constant s) h = omega (arith, h)
code_below (register.Resource s) h = omega (arith, h)
code_below (register.Uav s) h = omega (arith, h)
code_below (register.Counter s) h = omega (arith, h)

same_code : (a b : Register) → IsLimited a → IsLimited b → code a ≡ code b → a ≡ b
same_code (register.Constant s) (register.Constant t) h g e = ap register.Constant e
same_code (register.Constant s) (register.Resource t) h g e = absurd (omega (arith, h, g, e))
same_code (register.Constant s) (register.Uav t) h g e = absurd (omega (arith, h, g, e))
same_code (register.Constant s) (register.Counter t) h g e = absurd (omega (arith, h, g, e))
same_code (register.Resource s) (register.Constant t) h g e = absurd (omega (arith, h, g, e))
same_code (register.Resource s) (register.Resource t) h g e = ap register.Resource (omega (arith, e))
same_code (register.Resource s) (register.Uav t) h g e = absurd (omega (arith, h, g, e))
same_code (register.Resource s) (register.Counter t) h g e = absurd (omega (arith, h, g, e))
same_code (register.Uav s) (register.Constant t) h g e = absurd (omega (arith, h, g, e))
same_code (register.Uav s) (register.Resource t) h g e = absurd (omega (arith, h, g, e))
same_code (register.Uav s) (register.Uav t) h g e = ap register.Uav (omega (arith, e))
same_code (register.Uav s) (register.Counter t) h g e = absurd (omega (arith, h, g, e))
same_code (register.Counter s) (register.Constant t) h g e = absurd (omega (arith, h, g, e))
same_code (register.Counter s) (register.Resource t) h g e = absurd (omega (arith, h, g, e))
same_code (register.Counter s) (register.Uav t) h g e = absurd (omega (arith, h, g, e))
same_code (register.Counter s) (register.Counter t) h g e = ap register.Counter (omega (arith, e))

any_below : (xs : List ℕ) (n : ℕ) → ((i x : ℕ) → slice_get xs i ≡ Some x → x < n) → (q : ℕ) → list_any (eqb q) xs ≡ true → q < n
any_below [] n below q h = absurd (cc h)
any_below (x ∷ xs) n below q h = by (eqb q x) refl h (any_below xs n (λ i y g. below (suc i) y g) q) where
  by : (t : Bool) → eqb q x ≡ t → (t || list_any (eqb q) xs) ≡ true → (list_any (eqb q) xs ≡ true → q < n) → q < n
  by true e g rest = ⊎_elim (λ s. omega (arith, s.1, below 0 x refl)) (λ d. absurd (cc (d.0, e))) (eqb_tells q x)
  by false e g rest = rest g

at_most : (xs : List ℕ) (n : ℕ) → NoTwo (λ x y. x ≡ y) xs → ((i x : ℕ) → slice_get xs i ≡ Some x → x < n) → length xs ≤ n
at_most xs n apart below = length-le_from_distinct_below xs n (IsDistinct-from_AllPairs Decides-eqb xs differ) (any_below xs n below) where
  differ : (i j d : ℕ) → i < j → j < length xs → get_or xs i d ≢ get_or xs j d
  differ i j d lt inside e =
      let q : i ≡ j = apart i j (get_or xs i d) (get_or xs j d) (slice_get-get_or xs i d (omega (arith, lt, inside))) (slice_get-get_or xs j d inside) e in
      omega (arith, lt, q)

mapped_length : {X Y : Type 0} (h : X → Y) (xs : List X) → length (map h xs) ≡ length xs
mapped_length h [] = refl
mapped_length h (x ∷ xs) = ap suc (mapped_length h xs)

pub few_registers : (root : List Covers) (p : Shader) → Apart root → length (root_registers root p) ≤ 270
few_registers root p apart =
    let codes : List ℕ = map (λ (w : Wanted). code w.register) (root_registers root p) in
    let most : length codes ≤ 270 =
    at_most codes 270
    (no_two_mapped SameRegister (λ x y. x ≡ y) (λ (w : Wanted). code w.register) (root_registers root p)
    (λ i j a b h g e. same_code a.register b.register (limited root a (kept root p i a h)) (limited root b (kept root p j b g)) e) (registers_apart root p apart))
    (λ i x h. let m = mapped_at (λ (w : Wanted). code w.register) (root_registers root p) i x h in subst (λ n. n < 270) m.2 (code_below m.0.register (limited root m.0 (kept root p i m.0 m.1)))) in
    omega (arith, most, mapped_length (λ (w : Wanted). code w.register) (root_registers root p))

-- PUSH CONSTANT WORDS
words_cons : (c : Covers) (root : List Covers) → words_in (c ∷ root) ≡ push_words c + words_in root
words_cons c root = sum_by-append (λ x. x) (push_words c ∷ []) (map push_words root) ∙ ap (λ n. n + words_in root) (zero_plus (push_words c)) where
  zero_plus : (n : ℕ) → 0 + n ≡ n
  zero_plus n = omega arith

words_before : (root : List Covers) (i j : ℕ) (c : Covers) → i < j → slice_get root i ≡ Some c → words_in (take i root) + push_words c ≤ words_in (take j root)
words_before [] i j c lt h = absurd (cc h)
words_before (d ∷ root) zero zero c lt h = absurd (omega (arith, lt))
words_before (d ∷ root) zero (suc j) c lt h = let q : d ≡ c = cc h in let e : push_words d ≡ push_words c = ap push_words q in omega (arith, e, words_cons d (take j root))
words_before (d ∷ root) (suc i) zero c lt h = absurd (omega (arith, lt))
words_before (d ∷ root) (suc i) (suc j) c lt h =
    omega (arith, words_before root i j c (omega (arith, lt)) h, words_cons d (take i root), words_cons d (take j root))

words_within : (root : List Covers) (i : ℕ) (c : Covers) → slice_get root i ≡ Some c → words_in (take i root) + push_words c ≤ words_in root
words_within [] i c h = absurd (cc h)
words_within (d ∷ root) zero c h = let q : d ≡ c = cc h in let e : push_words d ≡ push_words c = ap push_words q in omega (arith, e, words_cons d root)
words_within (d ∷ root) (suc i) c h = omega (arith, words_within root i c h, words_cons d (take i root), words_cons d root)

-- the place in push constants of what is to be bound
pub record PushedAt (root : List Covers) (w : Wanted) (place : Place) : Type 0 where
  index : ℕ
  slot : ℕ
  first : ℕ
  count : ℕ
  there : slice_get root index ≡ Some (Constants slot first count)
  register : w.register ≡ register.Constant slot
  given : place ≡ Push first count

pushed_at : (root : List Covers) (w : Wanted) (place : Place) → Kept root w → w.words ≡ Some place → PushedAt root w place
pushed_at root w place (entry a) g =
    let p = a.covering.pushed place g in
    record { index = a.index; slot = p.slot; first = p.first; count = p.count; there = a.there ∙ ap Some p.entry; register = p.register; given = p.given }
pushed_at root w place (counter slot e small) g = absurd (cc (ap (λ (v : Wanted). v.words) e, g))

word_within : (first count word : ℕ) → has_word (Push first count) word ≡ true → (first ≤ word) × (word < first + count)
word_within first count word h = grind arith

-- two that have a word in common are the same entry
same_entry : (root : List Covers) → IsSignature root → (a b : Wanted) (p q : Place) (x : PushedAt root a p) (y : PushedAt root b q) (word : ℕ) → has_word p word ≡ true → has_word q word ≡ true → x.index ≡ y.index
same_entry root s a b p q x y word h g =
    let v = word_within x.first x.count word (subst (λ z. has_word z word ≡ true) x.given h) in
    let w = word_within y.first y.count word (subst (λ z. has_word z word ≡ true) y.given g) in
    let e = s.numbered x.index x.slot x.first x.count x.there in
    let f = s.numbered y.index y.slot y.first y.count y.there in
    either x.index y.index (λ lt. omega (arith, v.0, v.1, w.0, w.1, e, f, words_before root x.index y.index (Constants x.slot x.first x.count) lt x.there))
    (λ lt. omega (arith, v.0, v.1, w.0, w.1, e, f, words_before root y.index x.index (Constants y.slot y.first y.count) lt y.there))
  where
    either : (i j : ℕ) → (i < j → ⊥) → (j < i → ⊥) → i ≡ j
    either i j n m = grind arith

-- THE MAP
-- where what is to be bound is bound, with numbers from n on
pub data Given (n most : ℕ) (words : Option Place) (place : Place) : Type 0 where
  numbered : (m : ℕ) → n ≤ m → m < most → words ≡ None → place ≡ Bound 0 m → Given n most words place
  in_words : words ≡ Some place → Given n most words place

pub record Laid (n : ℕ) (xs : List Wanted) (i : ℕ) (b : Binding) : Type 0 where
  wanted : Wanted
  there : slice_get xs i ≡ Some wanted
  register : b.register ≡ wanted.register
  given : Given n (n + length xs) wanted.words b.place

behind_by : (n : ℕ) (words : Option Place) → (n ≤ behind n words) × (behind n words ≤ n + 1)
behind_by n None = (omega arith, omega arith)
behind_by n (Some place) = (omega arith, omega arith)

wider : (n m most wide : ℕ) (words : Option Place) (place : Place) → n ≤ m → most ≤ wide → Given m most words place → Given n wide words place
wider n m most wide words place low high (numbered k a b e f) = numbered k (omega (arith, low, a)) (omega (arith, high, b)) e f
wider n m most wide words place low high (in_words e) = in_words e

first_given : (n most : ℕ) (words : Option Place) → n < most → Given n most words (place_at n words)
first_given n most None h = numbered n (omega arith) h refl refl
first_given n most (Some place) h = in_words refl

laid : (n : ℕ) (xs : List Wanted) (i : ℕ) (b : Binding) → slice_get (placed n xs) i ≡ Some b → Laid n xs i b
laid n [] i b h = absurd (cc h)
laid n (w ∷ xs) zero b h =
    let e : binding w.register (place_at n w.words) ≡ b = cc h in
    record { wanted = w; there = refl; register = sym (ap (λ (x : Binding). x.register) e); given = subst (λ (x : Binding). Given n (n + length (w ∷ xs)) w.words x.place) e (first_given n (n + length (w ∷ xs)) w.words (omega arith)) }
laid n (w ∷ xs) (suc i) b h =
    let l = laid (behind n w.words) xs i b h in
    let k = behind_by n w.words in
    record { wanted = l.wanted; there = l.there; register = l.register; given = wider n (behind n w.words) (behind n w.words + length xs) (n + length (w ∷ xs)) l.wanted.words b.place k.0 (omega (arith, k.1)) l.given }

-- push constant words are no descriptors
abbrev pub NoDescriptors : List Wanted → Type 0
NoDescriptors xs = (i : ℕ) (w : Wanted) (place : Place) → slice_get xs i ≡ Some w → w.words ≡ Some place → (set number : ℕ) → is_at place set number ≡ true → ⊥

number_is : (m set number : ℕ) → is_at (Bound 0 m) set number ≡ true → m ≡ number
number_is m set number h = grind arith

-- the first of them, and a later one
first_alone : (n : ℕ) (w : Wanted) (xs : List Wanted) → NoDescriptors (w ∷ xs) → (j : ℕ) (a b : Binding) → binding w.register (place_at n w.words) ≡ a → slice_get (placed (behind n w.words) xs) j ≡ Some b
    → (set number : ℕ) → is_at a.place set number ≡ true → is_at b.place set number ≡ true → ⊥
first_alone n w xs none j a b e g set number p q = apart w.words refl (subst (λ (x : Binding). is_at x.place set number ≡ true) (sym e) p) where
  apart : (words : Option Place) → w.words ≡ words → is_at (place_at n w.words) set number ≡ true → ⊥
  apart (Some place) e d = none 0 w place refl e set number (subst (λ o. is_at (place_at n o) set number ≡ true) e d)
  apart None e d = later (laid (n + 1) xs j b (subst (λ o. slice_get (placed (behind n o) xs) j ≡ Some b) e g)) where
    later : Laid (n + 1) xs j b → ⊥
    later l = by l.given where
      by : Given (n + 1) (n + 1 + length xs) l.wanted.words b.place → ⊥
      by (numbered m low high f place) =
          omega (arith, low, number_is n set number (subst (λ o. is_at (place_at n o) set number ≡ true) e d), number_is m set number (subst (λ x. is_at x set number ≡ true) place q))
      by (in_words f) = none (suc j) l.wanted b.place l.there f set number q

one_descriptor : (n : ℕ) (xs : List Wanted) → NoDescriptors xs → (i j : ℕ) (a b : Binding) → slice_get (placed n xs) i ≡ Some a → slice_get (placed n xs) j ≡ Some b
    → (set number : ℕ) → is_at a.place set number ≡ true → is_at b.place set number ≡ true → i ≡ j
one_descriptor n [] none i j a b h g set number p q = absurd (cc h)
one_descriptor n (w ∷ xs) none zero zero a b h g set number p q = refl
one_descriptor n (w ∷ xs) none zero (suc j) a b h g set number p q = absurd (first_alone n w xs none j a b (cc h) g set number p q)
one_descriptor n (w ∷ xs) none (suc i) zero a b h g set number p q = absurd (first_alone n w xs none i b a (cc g) h set number q p)
one_descriptor n (w ∷ xs) none (suc i) (suc j) a b h g set number p q =
    ap suc (one_descriptor (behind n w.words) xs (λ k v place e. none (suc k) v place e) i j a b h g set number p q)

placed_length : (n : ℕ) (xs : List Wanted) → length (placed n xs) ≡ length xs
placed_length n [] = refl
placed_length n (w ∷ xs) = ap suc (placed_length (behind n w.words) xs)

slot_limited : (r : Register) → IsLimited r → slot_of r < 2 ^ 32
slot_limited (register.Constant s) h = omega (arith, h)
slot_limited (register.Resource s) h = omega (arith, h)
slot_limited (register.Uav s) h = omega (arith, h)
slot_limited (register.Counter s) h = omega (arith, h)

no_words : (m word : ℕ) → has_word (Bound 0 m) word ≡ true → ⊥
no_words m word h = cc h

module _ (root : List Covers) (p : Shader) (s : IsSignature root) where
  place_of_push : (i : ℕ) (w : Wanted) (place : Place) → slice_get (root_registers root p) i ≡ Some w → w.words ≡ Some place → PushedAt root w place
  place_of_push i w place h e = pushed_at root w place (kept root p i w h) e

  words_are : (i : ℕ) (b : Binding) (word : ℕ) (l : Laid 0 (root_registers root p) i b) → has_word b.place word ≡ true → PushedAt root l.wanted b.place
  words_are i b word l h = by l.given where
    by : Given 0 (0 + length (root_registers root p)) l.wanted.words b.place → PushedAt root l.wanted b.place
    by (numbered m low high f place) = absurd (no_words m word (subst (λ x. has_word x word ≡ true) place h))
    by (in_words f) = place_of_push i l.wanted b.place l.there f

  pub is_map : IsMap (root_map root p)
  is_map = record {
    registers = λ i j a b h g e.
        let x = laid 0 (root_registers root p) i a h in
        let y = laid 0 (root_registers root p) j b g in
        registers_apart root p s.distinct i j x.wanted y.wanted x.there y.there (sym x.register ∙ e ∙ y.register);
    descriptors = one_descriptor 0 (root_registers root p) (λ i w place h e set number d. let x = place_of_push i w place h e in cc (subst (λ z. is_at z set number ≡ true) x.given d));
    pushes = λ i j a b h g word u v.
        let x = laid 0 (root_registers root p) i a h in
        let y = laid 0 (root_registers root p) j b g in
        let k = words_are i a word x u in
        let l = words_are j b word y v in
        let e : slice_get root l.index ≡ Some (Constants k.slot k.first k.count) = ap (slice_get root) (sym (same_entry root s x.wanted y.wanted a.place b.place k l word u v)) ∙ k.there in
        let same : k.slot ≡ l.slot = cc (e, l.there) in
        registers_apart root p s.distinct i j x.wanted y.wanted x.there y.there (k.register ∙ ap register.Constant same ∙ sym l.register);
    slots = λ i a h.
        let x = laid 0 (root_registers root p) i a h in
        subst (λ r. slot_of r < 2 ^ 32) (sym x.register) (slot_limited x.wanted.register (limited root x.wanted (kept root p i x.wanted x.there)));
    places = λ i a h. place_fits i a (laid 0 (root_registers root p) i a h);
    few = omega (arith, placed_length 0 (root_registers root p), few_registers root p s.distinct);
  } where
    place_fits : (i : ℕ) (a : Binding) → Laid 0 (root_registers root p) i a → IsPlaceFor a.register a.place
    place_fits i a x = by x.given where
      by : Given 0 (0 + length (root_registers root p)) x.wanted.words a.place → IsPlaceFor a.register a.place
      by (numbered m low high f place) = subst (IsPlaceFor a.register) (sym place) (omega arith, omega (arith, high, few_registers root p s.distinct))
      by (in_words f) =
          let k = place_of_push i x.wanted a.place x.there f in
          let w = words_within root k.index (Constants k.slot k.first k.count) k.there in
          let e = s.numbered k.index k.slot k.first k.count k.there in
          subst (λ r. IsPlaceFor r a.place) (sym (x.register ∙ k.register)) (subst (IsPlaceFor (register.Constant k.slot)) (sym k.given) (omega (arith, w, e, s.few)))

-- THE LOOP
marked_slots_are : (limit : ℕ) (marks : List Bool) (test : ℕ → Bool) → AreMarks limit marks test → marked_slots marks ≡ filter test (range_with_len 0 limit)
marked_slots_are limit marks test m =
    ap (λ n. filter (λ slot. get_or marks slot false) (range_with_len 0 n)) m.count
    ∙ same_choice (λ slot. get_or marks slot false) test 0 limit (λ k low high. m.each k (omega (arith, high)))

-- what is marked is what the program declares
marked_is : (r : Registers) (p : Shader) → HasMarks r p.declarations p.instructions → (c : Covers) → marked_by r c ≡ covered_by p c
marked_is r p m (Constants slot first count) = ap (run_of register.Constant (Some (Push first count)) slot 1) (marked_slots_are 14 r.constants (λ slot. list_any (λ d. is_constants slot d.what) p.declarations) m.constants)
marked_is r p m (Cbv base count) = ap (run_of register.Constant None base count) (marked_slots_are 14 r.constants (λ slot. list_any (λ d. is_constants slot d.what) p.declarations) m.constants)
marked_is r p m (Srv base count) = ap (run_of register.Resource None base count) (marked_slots_are 128 r.resources (λ slot. list_any (λ d. is_resource slot d.what) p.declarations) m.resources)
marked_is r p m (Uav base count) = ap (run_of register.Uav None base count) (marked_slots_are 64 r.uavs (λ slot. list_any (λ d. is_uav slot d.what) p.declarations) m.uavs)

flat_same : (f g : Covers → List Wanted) → ((c : Covers) → f c ≡ g c) → (root : List Covers) → flat_map f root ≡ flat_map g root
flat_same f g e [] = refl
flat_same f g e (c ∷ root) = ap (λ l. l ++ flat_map f root) (e c) ∙ ap (λ l. g c ++ l) (flat_same f g e root)

flat_append : (f : Covers → List Wanted) (xs ys : List Covers) → flat_map f (xs ++ ys) ≡ flat_map f xs ++ flat_map f ys
flat_append f [] ys = refl
flat_append f (x ∷ xs) ys = ap (λ l. f x ++ l) (flat_append f xs ys) ∙ sym (append_assoc (f x) (flat_map f xs) (flat_map f ys))

-- all slots are below a limit
all_in : (xs : List ℕ) (limit : ℕ) → ((i x : ℕ) → slice_get xs i ≡ Some x → x < limit) → filter (is_in 0 limit) xs ≡ xs
all_in [] limit below = refl
all_in (x ∷ xs) limit below = ap (λ t. cond t (x ∷ filter (is_in 0 limit) xs) (filter (is_in 0 limit) xs)) (inside x (below 0 x refl)) ∙ ap (λ l. x ∷ l) (all_in xs limit (λ i y h. below (suc i) y h)) where
  inside : (slot : ℕ) → slot < limit → is_in 0 limit slot ≡ true
  inside slot h = grind arith

counters_are : (r : Registers) (p : Shader) → HasMarks r p.declarations p.instructions → marked_run group.Counters r.counters 0 64 None ≡ map (want register.Counter None) (counter_slots p)
counters_are r p m =
    ap (run_of register.Counter None 0 64) (marked_slots_are 64 r.counters (λ slot. list_any (steps_counter slot) p.instructions) m.counters)
    ∙ ap (map (want register.Counter None)) (all_in (counter_slots p) 64 below)
  where
    below : (i x : ℕ) → slice_get (counter_slots p) i ≡ Some x → x < 64
    below i x h = let k = kept_at (λ slot. list_any (steps_counter slot) p.instructions) (range_with_len 0 64) i x h in let g = range_at 0 64 k.0 x k.1 in omega (arith, g.0, g.1)

module _ (root : List Covers) (p : Shader) (r : Registers) (m : HasMarks r p.declarations p.instructions) (s : IsSignature root) where
  whole : flat_map (marked_by r) root ++ marked_run group.Counters r.counters 0 64 None ≡ root_registers root p
  whole = ap (λ l. l ++ marked_run group.Counters r.counters 0 64 None) (flat_same (marked_by r) (covered_by p) (marked_is r p m) root) ∙ ap (λ l. flat_map (covered_by p) root ++ l) (counters_are r p m)

  start : (g : Growing) → g.bindings ≡ [] → g.next ≡ 0 → MayGrow g (flat_map (marked_by r) root ++ marked_run group.Counters r.counters 0 64 None)
  start g e n = subst (MayGrow g) (sym whole) (record {
    map = subst IsMap (sym (ap (λ l. l ++ placed g.next (root_registers root p)) e ∙ ap (λ k. placed k (root_registers root p)) n)) (is_map root p s);
    few = omega (arith, n, few_registers root p s.distinct);
  })

  taken_up_to : (i : ℕ) (c : Covers) → slice_get root i ≡ Some c → flat_map (marked_by r) (take (i + 1) root) ≡ flat_map (marked_by r) (take i root) ++ marked_by r c
  taken_up_to i c h = ap (flat_map (marked_by r)) (next_item root i c h) ∙ flat_append (marked_by r) (take i root) (c ∷ []) ∙ ap (λ l. flat_map (marked_by r) (take i root) ++ l) (append-nil (marked_by r c))

  pub next_grows : (g h : Growing) (i : ℕ) (c : Covers) → slice_get root i ≡ Some c → Grows g h (flat_map (marked_by r) (take i root)) → (k : Growing) → Grows h k (marked_by r c)
      → Grows g k (flat_map (marked_by r) (take (i + 1) root))
  next_grows g h i c there before k now = subst (Grows g k) (sym (taken_up_to i c there)) (grows_on g h k (flat_map (marked_by r) (take i root)) (marked_by r c) before now)

  split_at : (i : ℕ) → flat_map (marked_by r) root ≡ flat_map (marked_by r) (take i root) ++ flat_map (marked_by r) (drop i root)
  split_at i = ap (flat_map (marked_by r)) (sym (take-append-drop i root)) ∙ flat_append (marked_by r) (take i root) (drop i root)

  pub may_next : (g h : Growing) → g.bindings ≡ [] → g.next ≡ 0 → (i : ℕ) (c : Covers) → slice_get root i ≡ Some c → Grows g h (flat_map (marked_by r) (take i root)) → MayGrow h (marked_by r c)
  may_next g h e n i c there before =
      let counters = marked_run group.Counters r.counters 0 64 None in
      let rest = flat_map (marked_by r) (drop (i + 1) root) in
      let all : flat_map (marked_by r) root ++ counters ≡ (flat_map (marked_by r) (take i root) ++ marked_by r c) ++ (rest ++ counters) =
      ap (λ l. l ++ counters) (split_at (i + 1) ∙ ap (λ l. l ++ rest) (taken_up_to i c there)) ∙ append_assoc (flat_map (marked_by r) (take i root) ++ marked_by r c) rest counters in
      may_behind g h (flat_map (marked_by r) (take i root)) (marked_by r c)
      (may_front g (flat_map (marked_by r) (take i root) ++ marked_by r c) (rest ++ counters) (subst (MayGrow g) all (start g e n))) before

  pub may_end : (g h : Growing) → g.bindings ≡ [] → g.next ≡ 0 → (i : ℕ) → length root ≤ i → Grows g h (flat_map (marked_by r) (take i root)) → MayGrow h (marked_run group.Counters r.counters 0 64 None)
  may_end g h e n i end before =
      may_behind g h (flat_map (marked_by r) root) (marked_run group.Counters r.counters 0 64 None) (start g e n) (subst (λ l. Grows g h (flat_map (marked_by r) l)) (take_all i root end) before)

  pub ends : (g h k : Growing) → g.bindings ≡ [] → g.next ≡ 0 → (i : ℕ) → length root ≤ i → Grows g h (flat_map (marked_by r) (take i root)) → Grows h k (marked_run group.Counters r.counters 0 64 None)
      → k.bindings ≡ root_map root p
  ends g h k e n i end before now =
      let f = grows_on g h k (flat_map (marked_by r) root) (marked_run group.Counters r.counters 0 64 None) (subst (λ l. Grows g h (flat_map (marked_by r) l)) (take_all i root end) before) now in
      f.bindings ∙ ap (λ l. l ++ placed g.next (flat_map (marked_by r) root ++ marked_run group.Counters r.counters 0 64 None)) e
      ∙ ap (λ j. placed j (flat_map (marked_by r) root ++ marked_run group.Counters r.counters 0 64 None)) n ∙ ap (placed 0) whole
