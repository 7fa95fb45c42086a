-- What a walk keeps of the constructs around a place, from one place to the next.
use Rattle.std.proofs.Common.{◌≡◌, ℕ, zero, suc, ◌+◌, ◌-◌, ◌<◌, ◌≤◌, Bool, true, false, ◌&&◌, ◌||◌, List, [], ◌∷◌, ◌++◌, length, take, get_or, Option, Some, None, refl, sym, ap, ◌∙◌, subst, arith, length-append}
use Rattle.std.specs.Prelude.{slice_get, nat_lt, is_some, if◌then◌else◌, option_and_then}
use Rattle.std.specs.List.{list_all}
use Rattle.std.proofs.Math.Seq.{get_or-append_seam}
use Rattle.std.proofs.lemmas.Bool.Decides.{nat_tests}
use Rattle.tpf_decode.specs.Profiles.{Base}
use Rattle.tpf_decode.specs.Opcodes.{meaning_of}
use Rattle.tpf_decode.specs.declared.meaning.Meaning.{Meaning}
use Rattle.tpf_decode.specs.declared.meaning.Meaning.TheVariants as meaning
use Rattle.tpf_program.specs.declared.instruction.Instruction.{Instruction}
use Rattle.tpf_program.specs.Ends.{Part, Opens, Closes, Within, part_of, has, means, is_loop, is_loop_or_switch, is_else, is_default, last_below, is_same, is_direct}
use Rattle.tpf_program.specs.Nesting.{inner, has_before, is_label}
use Rattle.shader_check.specs.declared.constructs.Sort.{Sort}
use Rattle.shader_check.specs.declared.constructs.Construct.{Construct}
use Rattle.shader_check.specs.declared.constructs.Nesting.{Nesting}
use Rattle.shader_check.specs.Nested.{all_below, openings, without_first, first_number, first_of, part_of_any, passed, sort_of_any, construct, outer, outside, opened, marked, around_next, outer_next, rule_within, IsKept}
use Rattle.shader_check.proofs.NestedCounts.{a, openings_next}
use Rattle.shader_check.proofs.NestedFinds.{inner_is_first}

-- the greatest below a number
pub record IsLast (test : ℕ → Bool) (u n : ℕ) : Type 0 where
  pub below : n < u
  pub holds : test n ≡ true

pub last_told : (test : ℕ → Bool) (u n : ℕ) → last_below test u ≡ Some n → IsLast test u n
last_told test zero n h = absurd (cc)
last_told test (suc u) n h = by_test (test u) refl h (last_told test u n)
  where
    by_test : (b : Bool) → test u ≡ b → (if b then Some u else last_below test u) ≡ Some n → (last_below test u ≡ Some n → IsLast test u n) → IsLast test (suc u) n
    by_test true e h next = let k : u ≡ n = cc in record { below = omega (arith, k); holds = subst (λ x. test x ≡ true) k e }
    by_test false e h next = let r = next h in record { below = omega (arith, r.below); holds = r.holds }

pub last_next : (test : ℕ → Bool) (q : ℕ) (b : Bool) → test q ≡ b → last_below test (q + 1) ≡ (if b then Some q else last_below test q)
last_next test q b h =
    let e : q + 1 ≡ suc q = omega arith in
    ap (last_below test) e ∙ ap (λ b. if b then Some q else last_below test q) h

pub same_self : (n : ℕ) → is_same (Some n) (Some n) ≡ true
same_self n = grind (arith, nat_tests)

module _ (code : List Instruction) (test : Instruction → Bool) where
  and_false : (b d : Bool) → d ≡ false → (b && d) ≡ false
  and_false true d e = e
  and_false false d e = refl

  and_true : (b : Bool) → (b && true) ≡ b
  and_true true = refl
  and_true false = refl

  or_some : (b : Bool) (x y : Option ℕ) → is_some x ≡ true → is_some (if b then x else y) ≡ (is_some y || b)
  or_some true x y h = h ∙ sym (or_one (is_some y))
    where
      or_one : (b : Bool) → (b || true) ≡ true
      or_one true = refl
      or_one false = refl
  or_some false x y h = sym (or_none (is_some y))
    where
      or_none : (b : Bool) → (b || false) ≡ b
      or_none true = refl
      or_none false = refl

  -- an instruction directly in a construct
  pub has_after : (n q : ℕ) (i : Instruction) → slice_get code q ≡ Some i → inner Base code q ≡ Some n
      → has_before Base test code (Some n) (q + 1) ≡ (has_before Base test code (Some n) q || test i)
  has_after n q i at h =
      let here : is_direct Base true test code (Some n) q ≡ test i =
      ap (λ x. has test x && is_same (inner Base code q) (Some n)) at ∙ (ap (λ x. test i && is_same x (Some n)) h ∙ (ap (λ b. test i && b) (same_self n) ∙ and_true (test i))) in
      ap is_some (last_next (is_direct Base true test code (Some n)) q (test i) here)
      ∙ or_some (test i) (Some q) (last_below (is_direct Base true test code (Some n)) q) refl

  -- and one that is not
  pub has_no_more : (around : Option ℕ) (q : ℕ) → is_same (inner Base code q) around ≡ false → has_before Base test code around (q + 1) ≡ has_before Base test code around q
  has_no_more around q h = ap is_some (last_next (is_direct Base true test code around) q false (and_false (has test (slice_get code q)) (is_same (inner Base code q) around) h))

  not_same : (m n : ℕ) (found : Option ℕ) → inner Base code m ≡ found → m ≤ n → is_same found (Some n) ≡ false
  not_same m n None e h = refl
  not_same m n (Some x) e h = let l = (last_told (a code m) m x e).below in grind (arith, nat_tests, l, h)

  -- nothing stands in a construct before its opening
  pub not_before : (m n : ℕ) → m ≤ n → is_direct Base true test code (Some n) m ≡ false
  not_before m n h = and_false (has test (slice_get code m)) (is_same (inner Base code m) (Some n)) (not_same m n (inner Base code m) refl h)

  pub none_before : (n u : ℕ) → u ≤ n + 1 → last_below (is_direct Base true test code (Some n)) u ≡ None
  none_before n zero h = refl
  none_before n (suc u) h =
      ap (λ b. if b then Some u else last_below (is_direct Base true test code (Some n)) u) (not_before u n (omega (arith, h))) ∙ none_before n u (omega (arith, h))

  pub none_outside : (q : ℕ) → has_before Base test code None q ≡ false
  none_outside q = ap is_some (none_below q)
    where
      same_none : (x : Option ℕ) → is_same x None ≡ false
      same_none None = refl
      same_none (Some x) = refl

      none_below : (u : ℕ) → last_below (is_direct Base true test code None) u ≡ None
      none_below zero = refl
      none_below (suc u) =
          ap (λ b. if b then Some u else last_below (is_direct Base true test code None) u) (and_false (has test (slice_get code u)) (is_same (inner Base code u) None) (same_none (inner Base code u)))
          ∙ none_below u

-- EACH of the openings around a place is below those in it
below_all : (test : ℕ → Bool) (v u : ℕ) → u ≤ v → list_all (λ n. nat_lt n v) (all_below test u) ≡ true
below_all test v zero h = refl
below_all test v (suc u) h = by_test (test u) (below_all test v u (omega (arith, h)))
  where
    by_test : (b : Bool) → list_all (λ n. nat_lt n v) (all_below test u) ≡ true → list_all (λ n. nat_lt n v) (if b then u ∷ all_below test u else all_below test u) ≡ true
    by_test true k = let s : nat_lt u v ≡ true = grind (arith, nat_tests, h) in rw (s, k) refl
    by_test false k = k

pub below_first : (test : ℕ → Bool) (u n : ℕ) (rest : List ℕ) → all_below test u ≡ n ∷ rest → list_all (λ m. nat_lt m n) rest ≡ true
below_first test zero n rest h = absurd (cc)
below_first test (suc u) n rest h = by_test (test u) h (below_first test u n rest) (below_all test u u (omega arith))
  where
    by_test : (b : Bool) → (if b then u ∷ all_below test u else all_below test u) ≡ n ∷ rest → (all_below test u ≡ n ∷ rest → list_all (λ m. nat_lt m n) rest ≡ true)
        → list_all (λ m. nat_lt m u) (all_below test u) ≡ true → list_all (λ m. nat_lt m n) rest ≡ true
    by_test true h next all =
        let k : u ≡ n = cc in
        let l : all_below test u ≡ rest = cc in
        ap (λ x. list_all (λ m. nat_lt m x) rest) (sym k) ∙ (ap (list_all (λ m. nat_lt m u)) (sym l) ∙ all)
    by_test false h next all = next h

-- CONSTRUCTS that are equal in each part
abbrev a_construct : Sort → Option ℕ → Bool → Bool → Bool → Bool → Bool → Construct
a_construct s o l m x y z = record { sort = s; opening = o; loops = l; leaves = m; has_else = x; has_label = y; has_default = z }

same_construct : (s t : Sort) (o p : Option ℕ) (l l' m m' x x' y y' z z' : Bool) → s ≡ t → o ≡ p → l ≡ l' → m ≡ m' → x ≡ x' → y ≡ y' → z ≡ z'
    → a_construct s o l m x y z ≡ a_construct t p l' m' x' y' z'
same_construct s t o p l l' m m' x x' y y' z z' a b c d e f g =
    ap (λ v. a_construct v o l m x y z) a ∙ (ap (λ v. a_construct t v l m x y z) b ∙ (ap (λ v. a_construct t p v m x y z) c ∙ (ap (λ v. a_construct t p l' v x y z) d
    ∙ (ap (λ v. a_construct t p l' m' v y z) e ∙ (ap (λ v. a_construct t p l' m' x' v z) f ∙ ap (λ v. a_construct t p l' m' x' y' v) g)))))

module _ (code : List Instruction) (q : ℕ) where
  construct_other : (ys : List ℕ) → is_same (inner Base code q) (first_number ys) ≡ false → construct code (q + 1) ys ≡ construct code q ys
  construct_other ys h = same_construct _ _ _ _ _ _ _ _ _ _ _ _ _ _ refl refl refl refl
      (has_no_more code (means Base is_else) (first_number ys) q h) (has_no_more code (means Base is_label) (first_number ys) q h) (has_no_more code (means Base is_default) (first_number ys) q h)

  other_first : (n : ℕ) (ys : List ℕ) → list_all (λ m. nat_lt m n) ys ≡ true → is_same (Some n) (first_number ys) ≡ false
  other_first n [] h = refl
  other_first n (m ∷ ys) h = by_test (nat_lt m n) refl h
    where
      by_test : (b : Bool) → nat_lt m n ≡ b → (b && list_all (λ m. nat_lt m n) ys) ≡ true → is_same (Some n) (Some m) ≡ false
      by_test true e h = grind (arith, nat_tests, e)
      by_test false e h = absurd (cc)

  rest_below : (n m : ℕ) (ys : List ℕ) → list_all (λ m. nat_lt m n) (m ∷ ys) ≡ true → list_all (λ m. nat_lt m n) ys ≡ true
  rest_below n m ys h = by_test (nat_lt m n) h
    where
      by_test : (b : Bool) → (b && list_all (λ m. nat_lt m n) ys) ≡ true → list_all (λ m. nat_lt m n) ys ≡ true
      by_test true h = h
      by_test false h = absurd (cc)

  outer_below : (n : ℕ) → inner Base code q ≡ Some n → (ys : List ℕ) → list_all (λ m. nat_lt m n) ys ≡ true → outer code (q + 1) ys ≡ outer code q ys
  outer_below n h [] k = refl
  outer_below n h (m ∷ ys) k =
      ap (λ l. l ++ construct code (q + 1) ys ∷ []) (outer_below n h ys (rest_below n m ys k))
      ∙ ap (λ c. outer code q ys ++ c ∷ []) (construct_other ys (ap (λ x. is_same x (first_number ys)) h ∙ other_first n ys (rest_below n m ys k)))

  outer_other : (xs : List ℕ) → openings code q ≡ xs → outer code (q + 1) xs ≡ outer code q xs
  outer_other [] h = refl
  outer_other (n ∷ rest) h =
      let b = below_first (a code q) q n rest h in
      let k : inner Base code q ≡ Some n = inner_is_first code q ∙ ap first_number h in
      ap (λ l. l ++ construct code (q + 1) rest ∷ []) (outer_below n k rest b)
      ∙ ap (λ c. outer code q rest ++ c ∷ []) (construct_other rest (ap (λ x. is_same x (first_number rest)) k ∙ other_first n rest b))

  module _ (i : Instruction) (at : slice_get code q ≡ Some i) where
    construct_same : (xs : List ℕ) → openings code q ≡ xs → means Base is_else i ≡ false → means Base is_label i ≡ false → means Base is_default i ≡ false
        → construct code (q + 1) xs ≡ construct code q xs
    construct_same [] h x y z = construct_other [] (same_none (inner Base code q))
      where
        same_none : (x : Option ℕ) → is_same x None ≡ false
        same_none None = refl
        same_none (Some x) = refl
    construct_same (n ∷ rest) h x y z =
        let k : inner Base code q ≡ Some n = inner_is_first code q ∙ ap first_number h in
        same_construct _ _ _ _ _ _ _ _ _ _ _ _ _ _ refl refl refl refl
        (by_flag (means Base is_else) k x) (by_flag (means Base is_label) k y) (by_flag (means Base is_default) k z)
      where
        or_none : (b : Bool) → (b || false) ≡ b
        or_none true = refl
        or_none false = refl

        by_flag : (test : Instruction → Bool) → inner Base code q ≡ Some n → test i ≡ false → has_before Base test code (Some n) (q + 1) ≡ has_before Base test code (Some n) q
        by_flag test k x = has_after code test n q i at k ∙ (ap (λ b. has_before Base test code (Some n) q || b) x ∙ or_none (has_before Base test code (Some n) q))

    module _ (m : Meaning) (e : meaning_of Base i.code ≡ Some m) where
      construct_marked : (n : ℕ) (rest : List ℕ) → openings code q ≡ n ∷ rest → construct code (q + 1) (n ∷ rest) ≡ marked (construct code q (n ∷ rest)) m
      construct_marked n rest h =
          let k : inner Base code q ≡ Some n = inner_is_first code q ∙ ap first_number h in
          same_construct _ _ _ _ _ _ _ _ _ _ _ _ _ _ refl refl refl refl
          (by_flag is_else k) (by_flag is_label k) (by_flag is_default k)
        where
          by_flag : (sort : Meaning → Bool) → inner Base code q ≡ Some n
              → has_before Base (means Base sort) code (Some n) (q + 1) ≡ (has_before Base (means Base sort) code (Some n) q || sort m)
          by_flag sort k = has_after code (means Base sort) n q i at k ∙ ap (λ x. has_before Base (means Base sort) code (Some n) q || has sort x) e

      -- what has its place in a construct breaks a rule outside of all
      marked_outside : (depth : ℕ) (again : Bool) → rule_within (construct code q []) depth again m ≡ None → construct code (q + 1) [] ≡ marked (construct code q []) m
      marked_outside depth again h =
          same_construct _ _ _ _ _ _ _ _ _ _ _ _ _ _ refl refl refl refl (by_flag is_else (no_else m h)) (by_flag is_label (no_label m h)) (by_flag is_default (no_default m h))
        where
          by_flag : (sort : Meaning → Bool) → sort m ≡ false → has_before Base (means Base sort) code None (q + 1) ≡ (has_before Base (means Base sort) code None q || sort m)
          by_flag sort x = none_outside code (means Base sort) (q + 1) ∙ sym (ap (λ b. b || sort m) (none_outside code (means Base sort) q) ∙ x)

          no_else : (m : Meaning) → rule_within (construct code q []) depth again m ≡ None → is_else m ≡ false
          no_else meaning.Else h = absurd (cc)
          no_else m h = refl

          no_label : (m : Meaning) → rule_within (construct code q []) depth again m ≡ None → is_label m ≡ false
          no_label meaning.Case h = absurd (cc)
          no_label meaning.Default h = absurd (cc)
          no_label m h = refl

          no_default : (m : Meaning) → rule_within (construct code q []) depth again m ≡ None → is_default m ≡ false
          no_default meaning.Default h = absurd (cc)
          no_default m h = refl

      construct_opened : (xs : List ℕ) → construct code (q + 1) (q ∷ xs) ≡ opened (construct code q xs) m q
      construct_opened xs =
          same_construct _ _ _ _ _ _ _ _ _ _ _ _ _ _
          (ap (λ x. sort_of_any (option_and_then (λ i. meaning_of Base i.code) x)) at ∙ ap sort_of_any e) refl
          (by_sort is_loop (first_of is_loop code xs)) (by_sort is_loop_or_switch (first_of is_loop_or_switch code xs))
          (none is_else) (none is_label) (none is_default)
        where
          none : (sort : Meaning → Bool) → has_before Base (means Base sort) code (Some q) (q + 1) ≡ false
          none sort = ap is_some (none_before code (means Base sort) q (q + 1) (omega arith))

          either : (b : Bool) (x : Option ℕ) → is_some (if b then Some q else x) ≡ (is_some x || b)
          either true x = sym (or_one (is_some x))
            where
              or_one : (b : Bool) → (b || true) ≡ true
              or_one true = refl
              or_one false = refl
          either false x = sym (or_none (is_some x))
            where
              or_none : (b : Bool) → (b || false) ≡ b
              or_none true = refl
              or_none false = refl

          by_sort : (sort : Meaning → Bool) (x : Option ℕ) → is_some (if has (means Base sort) (slice_get code q) then Some q else x) ≡ (is_some x || sort m)
          by_sort sort x =
              ap (λ i. is_some (if has (means Base sort) i then Some q else x)) at ∙ (ap (λ o. is_some (if has sort o then Some q else x)) e ∙ either (sort m) x)

-- ONE INSTRUCTION further
module _ (code : List Instruction) (q : ℕ) (i : Instruction) (at : slice_get code q ≡ Some i) (old new : Nesting) (kept : IsKept code q old) where
  next_by : (m : Option Meaning) → meaning_of Base i.code ≡ m → openings code (q + 1) ≡ passed (part_of_any m) q (openings code q)
  next_by m e = openings_next code q i at ∙ ap (λ m. passed (part_of_any m) q (openings code q)) e

  abbrev Keeps : List ℕ → Construct → List Construct → Type 0
  Keeps xs c outside = (c ≡ construct code (q + 1) xs) × (outside ≡ outer code (q + 1) xs)

  kept_of : (xs : List ℕ) → openings code (q + 1) ≡ xs → Keeps xs new.around new.outer.items → IsKept code (q + 1) new
  kept_of xs h k = record { around = k.0 ∙ ap (construct code (q + 1)) (sym h); outer = k.1 ∙ ap (outer code (q + 1)) (sym h) }

  -- an opcode without a meaning
  pub kept_unknown : meaning_of Base i.code ≡ None → new.around ≡ old.around → new.outer.items ≡ old.outer.items → IsKept code (q + 1) new
  kept_unknown e x y = kept_of (openings code q) (next_by None e) (
    x ∙ (kept.around ∙ sym (construct_same code q i at (openings code q) refl (ap (has is_else) e) (ap (has is_label) e) (ap (has is_default) e))),
    y ∙ (kept.outer ∙ sym (outer_other code q (openings code q) refl)),
  )

  module _ (m : Meaning) (e : meaning_of Base i.code ≡ Some m) (depth : ℕ) (again : Bool) (sound : rule_within old.around depth again m ≡ None) where
    abbrev Goes : Part → Type 0
    Goes p = new.around ≡ around_next p old.around old.outer.items m q → new.outer.items ≡ outer_next p old.around old.outer.items → Keeps (passed p q (openings code q)) new.around new.outer.items

    opening_marks : (test : Meaning → Bool) → ((m : Meaning) → test m ≡ true → part_of m ≡ Within) → part_of m ≡ Opens → means Base test i ≡ false
    opening_marks test f h = ap (has test) e ∙ by_test (test m) (f m)
      where
        by_test : (b : Bool) → (b ≡ true → part_of m ≡ Within) → b ≡ false
        by_test false g = refl
        by_test true g = let k : Opens ≡ Within = sym h ∙ g refl in absurd (cc)

    else_within : (m : Meaning) → is_else m ≡ true → part_of m ≡ Within
    else_within meaning.Else h = refl
    else_within m h = absurd (cc)

    label_within : (m : Meaning) → is_label m ≡ true → part_of m ≡ Within
    label_within meaning.Case h = refl
    label_within meaning.Default h = refl
    label_within m h = absurd (cc)

    default_within : (m : Meaning) → is_default m ≡ true → part_of m ≡ Within
    default_within meaning.Default h = refl
    default_within m h = absurd (cc)

    goes_open : part_of m ≡ Opens → Goes Opens
    goes_open h x y = (
      x ∙ (ap (λ c. opened c m q) kept.around ∙ sym (construct_opened code q i at m e (openings code q))),
      y ∙ (ap (λ l. l ++ old.around ∷ []) (kept.outer ∙ sym (outer_other code q (openings code q) refl))
          ∙ ap (λ c. outer code (q + 1) (openings code q) ++ c ∷ []) (kept.around
          ∙ sym (construct_same code q i at (openings code q) refl (opening_marks is_else else_within h) (opening_marks is_label label_within h) (opening_marks is_default default_within h)))),
    )

    goes_closed : Goes Closes
    goes_closed x y = by_openings (openings code q) refl kept.around kept.outer
      where
        take_front : (xs ys : List Construct) → take (length xs) (xs ++ ys) ≡ xs
        take_front [] ys = refl
        take_front (x ∷ xs) ys = ap (λ l. x ∷ l) (take_front xs ys)

        same_none : (x : Option ℕ) → is_same x None ≡ false
        same_none None = refl
        same_none (Some x) = refl

        by_openings : (xs : List ℕ) → openings code q ≡ xs → old.around ≡ construct code q xs → old.outer.items ≡ outer code q xs
            → Keeps (without_first xs) new.around new.outer.items
        by_openings [] h c l = (
          x ∙ (ap (λ o. get_or o (length o - 1) old.around) l ∙ (c ∙ sym (construct_other code q [] (same_none (inner Base code q))))),
          y ∙ ap (λ o. take (length o - 1) o) l,
        )
        by_openings (n ∷ rest) h c l =
            let b = below_first (a code q) q n rest h in
            let k : inner Base code q ≡ Some n = inner_is_first code q ∙ ap first_number h in
            let len : length old.outer.items - 1 ≡ length (outer code q rest) = omega (arith, ap (length {A = Construct}) l, length-append (outer code q rest) (construct code q rest ∷ [])) in (
              x ∙ (ap (λ d. get_or old.outer.items d old.around) len ∙ (ap (λ o. get_or o (length (outer code q rest)) old.around) l
                  ∙ (get_or-append_seam (outer code q rest) (construct code q rest) [] old.around
                  ∙ sym (construct_other code q rest (ap (λ x. is_same x (first_number rest)) k ∙ other_first code q n rest b))))),
              y ∙ (ap (λ d. take d old.outer.items) len ∙ (ap (take (length (outer code q rest))) l
                  ∙ (take_front (outer code q rest) (construct code q rest ∷ []) ∙ sym (outer_below code q n k rest b)))),
            )

    goes_within : Goes Within
    goes_within x y = (
      x ∙ (ap (λ c. marked c m) kept.around ∙ by_openings (openings code q) refl (ap (λ c. rule_within c depth again m) (sym kept.around) ∙ sound)),
      y ∙ (kept.outer ∙ sym (outer_other code q (openings code q) refl)),
    )
      where
        by_openings : (xs : List ℕ) → openings code q ≡ xs → rule_within (construct code q xs) depth again m ≡ None → marked (construct code q xs) m ≡ construct code (q + 1) xs
        by_openings [] h s = sym (marked_outside code q i at m e depth again s)
        by_openings (n ∷ rest) h s = sym (construct_marked code q i at m e n rest h)

    pub kept_next : new.around ≡ around_next (part_of m) old.around old.outer.items m q → new.outer.items ≡ outer_next (part_of m) old.around old.outer.items → IsKept code (q + 1) new
    kept_next x y = kept_of (passed (part_of m) q (openings code q)) (next_by (Some m) e) (by_part (part_of m) refl x y)
      where
        by_part : (p : Part) → part_of m ≡ p → Goes p
        by_part Opens h = goes_open h
        by_part Closes h = goes_closed
        by_part Within h = goes_within
