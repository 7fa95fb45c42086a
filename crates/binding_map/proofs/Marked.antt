-- Marks of one more declaration, and of one more instruction.
use Rattle.std.proofs.Common.{◌≡◌, ℕ, ◌+◌, ◌<◌, Bool, true, false, ◌||◌, ◌&&◌, if◌then◌else◌, List, [], ◌∷◌, ◌++◌, length, get_or, replicate, slice_set, take, slice_get, Some, refl, ap, sym, ◌∙◌, subst, nat_eq, arith, true≢false}
use Rattle.std.specs.List.{list_any}
use Rattle.std.proofs.lemmas.List.{get_or-set_same, get_or-set_other, get_or-replicate, length-replicate, length-set, take_more}
use Rattle.std.proofs.lemmas.List.Folds.{list_any-append}
use Rattle.std.proofs.lemmas.Option.{get_or_from_slice_get, slice_get_within}
use Rattle.tpf_program.specs.declared.declaration.Declaration.{Declaration}
use Rattle.tpf_program.specs.declared.declaration.Declaration.TheVariants.{Flags, Constants, Resource, Uav, Shared, Input, Temps, Indexable, Group, ImmediateConstants}
use Rattle.tpf_program.specs.declared.declaration.Declared.{Declared}
use Rattle.tpf_program.specs.declared.instruction.Instruction.{Instruction}
use Rattle.tpf_program.specs.Extents.{is_resource, is_uav, steps_counter}
use Rattle.binding_map.specs.declared.registers.Registers.{Registers}
use Rattle.binding_map.specs.Defaults.{is_constants}
use Rattle.binding_map.specs.Marks.{AreMarks, HasMarks, unmarked, with_declared, with_step}

-- a list up to the item behind
pub next_item : {X : Type 0} (xs : List X) (i : ℕ) (x : X) → slice_get xs i ≡ Some x → take (i + 1) xs ≡ take i xs ++ x ∷ []
next_item xs i x h = take_more xs i x (slice_get_within xs i x h) ∙ ap (λ y. take i xs ++ y ∷ []) (get_or_from_slice_get xs i x x h)

or_last : (a b : Bool) → (a || (b || false)) ≡ (a || b)
or_last true b = refl
or_last false true = refl
or_last false false = refl

or_false : (a : Bool) → (a || false) ≡ a
or_false true = refl
or_false false = refl

pub or_true : (a : Bool) → (a || true) ≡ true
or_true true = refl
or_true false = refl

same_tests : (limit : ℕ) (marks : List Bool) (f g : ℕ → Bool) → ((slot : ℕ) → f slot ≡ g slot) → AreMarks limit marks f → AreMarks limit marks g
same_tests limit marks f g e m = record { count = m.count; each = λ slot lt. m.each slot lt ∙ e slot }

-- one more mark
set_mark : (limit : ℕ) (marks : List Bool) (test : ℕ → Bool) (s : ℕ) → AreMarks limit marks test
    → AreMarks limit (slice_set marks s true) (λ slot. test slot || nat_eq s slot)
set_mark limit marks test s m = record { count = length-set marks s true ∙ m.count; each = λ slot lt. by slot lt (nat_eq s slot) refl }
  where
    by : (slot : ℕ) → slot < limit → (b : Bool) → nat_eq s slot ≡ b → get_or (slice_set marks s true) slot false ≡ (test slot || b)
    by slot lt true e =
        let same : s ≡ slot = grind (arith, e) in
        let inside : slot < length marks = subst (λ n. slot < n) (sym m.count) lt in
        ap (λ n. get_or (slice_set marks n true) slot false) same ∙ (get_or-set_same marks slot true false inside ∙ sym (or_true (test slot)))
    by slot lt false e =
        get_or-set_other marks s slot true false (λ h. let x : nat_eq s slot ≡ true = grind (arith, h) in true≢false (sym x ∙ e))
        ∙ (m.each slot lt ∙ sym (or_false (test slot)))

any_more : {X : Type 0} (test : X → Bool) (xs : List X) (x : X) → list_any test (xs ++ x ∷ []) ≡ (list_any test xs || test x)
any_more test xs x = list_any-append test xs (x ∷ []) ∙ or_last (list_any test xs) (test x)

module _ (ds : List Declared) (d : Declared) where
  -- a declaration of that slot, and one of another kind
  noted : (limit : ℕ) (marks : List Bool) (test : ℕ → Declaration → Bool) (s : ℕ) → ((slot : ℕ) → test slot d.what ≡ nat_eq s slot)
      → AreMarks limit marks (λ slot. list_any (λ e. test slot e.what) ds)
      → AreMarks limit (slice_set marks s true) (λ slot. list_any (λ e. test slot e.what) (ds ++ d ∷ []))
  noted limit marks test s e m =
      same_tests limit (slice_set marks s true) (λ slot. list_any (λ f. test slot f.what) ds || nat_eq s slot) (λ slot. list_any (λ f. test slot f.what) (ds ++ d ∷ []))
      (λ slot. ap (λ b. list_any (λ f. test slot f.what) ds || b) (sym (e slot)) ∙ sym (any_more (λ f. test slot f.what) ds d))
      (set_mark limit marks (λ slot. list_any (λ f. test slot f.what) ds) s m)

  passed : (limit : ℕ) (marks : List Bool) (test : ℕ → Declaration → Bool) → ((slot : ℕ) → test slot d.what ≡ false)
      → AreMarks limit marks (λ slot. list_any (λ e. test slot e.what) ds)
      → AreMarks limit marks (λ slot. list_any (λ e. test slot e.what) (ds ++ d ∷ []))
  passed limit marks test e m =
      same_tests limit marks (λ slot. list_any (λ f. test slot f.what) ds) (λ slot. list_any (λ f. test slot f.what) (ds ++ d ∷ []))
      (λ slot. sym (or_false (list_any (λ f. test slot f.what) ds)) ∙ (ap (λ b. list_any (λ f. test slot f.what) ds || b) (sym (e slot)) ∙ sym (any_more (λ f. test slot f.what) ds d))) m

  passed_all : (r : Registers) (is : List Instruction) → ((slot : ℕ) → is_constants slot d.what ≡ false)
      → ((slot : ℕ) → is_resource slot d.what ≡ false) → ((slot : ℕ) → is_uav slot d.what ≡ false) → HasMarks r ds is → HasMarks r (ds ++ d ∷ []) is
  passed_all r is a b c m = record {
    constants = passed 14 r.constants is_constants a m.constants;
    resources = passed 128 r.resources is_resource b m.resources;
    uavs = passed 64 r.uavs is_uav c m.uavs;
    counters = m.counters;
  }

  more_declared : (r : Registers) (is : List Instruction) (what : Declaration) → d.what ≡ what → HasMarks r ds is
      → HasMarks (with_declared r what) (ds ++ d ∷ []) is
  more_declared r is (Constants slot size) e m = record {
    constants = noted 14 r.constants is_constants slot (λ k. ap (is_constants k) e) m.constants;
    resources = passed 128 r.resources is_resource (λ k. ap (is_resource k) e) m.resources;
    uavs = passed 64 r.uavs is_uav (λ k. ap (is_uav k) e) m.uavs;
    counters = m.counters;
  }
  more_declared r is (Resource slot view) e m = record {
    constants = passed 14 r.constants is_constants (λ k. ap (is_constants k) e) m.constants;
    resources = noted 128 r.resources is_resource slot (λ k. ap (is_resource k) e) m.resources;
    uavs = passed 64 r.uavs is_uav (λ k. ap (is_uav k) e) m.uavs;
    counters = m.counters;
  }
  more_declared r is (Uav slot view coherent ordered) e m = record {
    constants = passed 14 r.constants is_constants (λ k. ap (is_constants k) e) m.constants;
    resources = passed 128 r.resources is_resource (λ k. ap (is_resource k) e) m.resources;
    uavs = noted 64 r.uavs is_uav slot (λ k. ap (is_uav k) e) m.uavs;
    counters = m.counters;
  }
  more_declared r is (Flags flags) e m = passed_all r is (λ k. ap (is_constants k) e) (λ k. ap (is_resource k) e) (λ k. ap (is_uav k) e) m
  more_declared r is (Shared slot kind) e m = passed_all r is (λ k. ap (is_constants k) e) (λ k. ap (is_resource k) e) (λ k. ap (is_uav k) e) m
  more_declared r is (Input kind select) e m = passed_all r is (λ k. ap (is_constants k) e) (λ k. ap (is_resource k) e) (λ k. ap (is_uav k) e) m
  more_declared r is (Temps count) e m = passed_all r is (λ k. ap (is_constants k) e) (λ k. ap (is_resource k) e) (λ k. ap (is_uav k) e) m
  more_declared r is (Indexable slot count components) e m =
      passed_all r is (λ k. ap (is_constants k) e) (λ k. ap (is_resource k) e) (λ k. ap (is_uav k) e) m
  more_declared r is (Group x y z) e m = passed_all r is (λ k. ap (is_constants k) e) (λ k. ap (is_resource k) e) (λ k. ap (is_uav k) e) m
  more_declared r is (ImmediateConstants vectors) e m =
      passed_all r is (λ k. ap (is_constants k) e) (λ k. ap (is_resource k) e) (λ k. ap (is_uav k) e) m

-- the marks of the declarations up to one, and of the instructions up to one
pub declared : (ds : List Declared) (is : List Instruction) (n : ℕ) (d : Declared) (r : Registers) → slice_get ds n ≡ Some d
    → HasMarks r (take n ds) is → HasMarks (with_declared r d.what) (take (n + 1) ds) is
declared ds is n d r h m = subst (λ l. HasMarks (with_declared r d.what) l is) (sym (next_item ds n d h)) (more_declared (take n ds) d r is d.what refl m)

module _ (is : List Instruction) (i : Instruction) where
  -- the marks of counters, where an instruction steps one or does not
  stepped : (marks : List Bool) (steps : Bool) → ((slot : ℕ) → steps_counter slot i ≡ (steps && nat_eq i.o1.slot slot))
      → AreMarks 64 marks (λ slot. list_any (steps_counter slot) is)
      → AreMarks 64 (if steps then slice_set marks i.o1.slot true else marks) (λ slot. list_any (steps_counter slot) (is ++ i ∷ []))
  stepped marks true e m =
      same_tests 64 (slice_set marks i.o1.slot true) (λ slot. list_any (steps_counter slot) is || nat_eq i.o1.slot slot) (λ slot. list_any (steps_counter slot) (is ++ i ∷ []))
      (λ slot. ap (λ b. list_any (steps_counter slot) is || b) (sym (e slot)) ∙ sym (any_more (steps_counter slot) is i))
      (set_mark 64 marks (λ slot. list_any (steps_counter slot) is) i.o1.slot m)
  stepped marks false e m =
      same_tests 64 marks (λ slot. list_any (steps_counter slot) is) (λ slot. list_any (steps_counter slot) (is ++ i ∷ []))
      (λ slot. sym (or_false (list_any (steps_counter slot) is)) ∙ (ap (λ b. list_any (steps_counter slot) is || b) (sym (e slot)) ∙ sym (any_more (steps_counter slot) is i))) m

  more_stepped : (r : Registers) (ds : List Declared) → HasMarks r ds is → HasMarks (with_step r i) ds (is ++ i ∷ [])
  more_stepped r ds m = by (nat_eq i.code 178 || nat_eq i.code 179) refl
    where
      by : (steps : Bool) → (nat_eq i.code 178 || nat_eq i.code 179) ≡ steps
          → HasMarks (if steps then record r { counters = slice_set r.counters i.o1.slot true } else r) ds (is ++ i ∷ [])
      by true e = record {
        constants = m.constants;
        resources = m.resources;
        uavs = m.uavs;
        counters = stepped r.counters true (λ slot. ap (λ b. b && nat_eq i.o1.slot slot) e) m.counters;
      }
      by false e = record {
        constants = m.constants;
        resources = m.resources;
        uavs = m.uavs;
        counters = stepped r.counters false (λ slot. ap (λ b. b && nat_eq i.o1.slot slot) e) m.counters;
      }

pub counted : (ds : List Declared) (is : List Instruction) (n : ℕ) (i : Instruction) (r : Registers) → slice_get is n ≡ Some i
    → HasMarks r ds (take n is) → HasMarks (with_step r i) ds (take (n + 1) is)
counted ds is n i r h m = subst (HasMarks (with_step r i) ds) (sym (next_item is n i h)) (more_stepped (take n is) i r ds m)

none_of : (limit : ℕ) → AreMarks limit (replicate limit false) (λ slot. false)
none_of limit = record { count = length-replicate limit false; each = λ slot lt. get_or-replicate limit slot false false lt }

pub no_marks : HasMarks unmarked [] []
no_marks = record { constants = none_of 14; resources = none_of 128; uavs = none_of 64; counters = none_of 64 }
