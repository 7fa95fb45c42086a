-- In a module with the form each instruction's operands have their sorts and their definitions.
use Rattle.std.proofs.Common.{◌≡◌, ℕ, zero, suc, nat_eq, Bool, true, false, ◌&&◌, ◌||◌, ◌⊎◌, inl, inr, ⊎_elim, List, [], ◌∷◌, ◌++◌, Option, Some, slice_get, IsTrue, refl, sym, ◌∙◌, subst}
use Rattle.std.specs.Prelude.{is_some, cond}
use Rattle.std.specs.List.{list_all}
use Rattle.std.proofs.lemmas.Bool.{eqb-true, eq-eqb, and_parts, and_from}
use Rattle.std.proofs.lemmas.List.Folds.{list_any-append}
use Rattle.spirv_words.specs.Text.{Instr}
use Rattle.spirv_words.specs.Ids.{ids_of, contains, definition}
use Rattle.spirv_words.specs.Operands.{is_sorted, is_defined}
use Rattle.spirv_words.specs.Definitions.{results, are_distinct, is_id, uses_follow, names_are_among, has_sorts, has_single_definitions}

-- tests of lists
all_at : {X : Type 0} (test : X → Bool) (xs : List X) (k : ℕ) (x : X) → list_all test xs ≡ true → slice_get xs k ≡ Some x → test x ≡ true
all_at test [] k x h e = absurd cc
all_at test (y ∷ ys) zero x h e = let same : y ≡ x = cc in subst (λ z. test z ≡ true) same (and_parts (test y) (list_all test ys) h).0
all_at test (y ∷ ys) (suc k) x h e = all_at test ys k x (and_parts (test y) (list_all test ys) h).1 e

either : (a b : Bool) → (a || b) ≡ true → (a ≡ true) ⊎ (b ≡ true)
either true b h = inl refl
either false b h = inr h

in_first : (a b : Bool) → a ≡ true → (a || b) ≡ true
in_first true b h = refl
in_first false b h = absurd cc

in_second : (a b : Bool) → b ≡ true → (a || b) ≡ true
in_second true b h = refl
in_second false b h = h

of_two : (ps qs : List ℕ) (x : ℕ) → contains (ps ++ qs) x ≡ true → (contains ps x ≡ true) ⊎ (contains qs x ≡ true)
of_two ps qs x h = either (contains ps x) (contains qs x) (sym (list_any-append (λ y. nat_eq y x) ps qs) ∙ h)

in_two : (ps qs : List ℕ) (x : ℕ) → (contains ps x ≡ true) ⊎ (contains qs x ≡ true) → contains (ps ++ qs) x ≡ true
in_two ps qs x (inl h) = list_any-append (λ y. nat_eq y x) ps qs ∙ in_first (contains ps x) (contains qs x) h
in_two ps qs x (inr h) = list_any-append (λ y. nat_eq y x) ps qs ∙ in_second (contains ps x) (contains qs x) h

all_pass : (test : ℕ → Bool) (xs : List ℕ) (x : ℕ) → list_all test xs ≡ true → contains xs x ≡ true → test x ≡ true
all_pass test [] x h e = absurd cc
all_pass test (y ∷ ys) x h e =
    ⊎_elim (λ same. subst (λ z. test z ≡ true) (eqb-true y x same) (and_parts (test y) (list_all test ys) h).0)
    (λ further. all_pass test ys x (and_parts (test y) (list_all test ys) h).1 further) (either (nat_eq y x) (contains ys x) e)

all_from : (test : ℕ → Bool) (xs : List ℕ) → ((x : ℕ) → contains xs x ≡ true → test x ≡ true) → list_all test xs ≡ true
all_from test [] f = refl
all_from test (y ∷ ys) f =
    and_from (test y) (list_all test ys) (f y (in_first (nat_eq y y) (contains ys y) (eq-eqb y y refl)))
    (all_from test ys (λ x h. f x (in_second (nat_eq y x) (contains ys x) h)))

-- a result has a definition
found_first : (b : Bool) (i : Instr) (further : Option Instr) → (b ≡ true) ⊎ (is_some further ≡ true) → is_some (cond b (Some i) further) ≡ true
found_first true i further h = refl
found_first false i further (inl h) = absurd cc
found_first false i further (inr h) = h

result_defined : (code : List Instr) (x : ℕ) → contains (results code) x ≡ true → is_some (definition code x) ≡ true
result_defined [] x h = absurd cc
result_defined (i ∷ is) x h =
    ⊎_elim (λ here. found_first (contains (ids_of i).results x) i (definition is x) (inl here))
    (λ further. found_first (contains (ids_of i).results x) i (definition is x) (inr (result_defined is x further)))
    (of_two (ids_of i).results (results is) x h)

-- an id that is used was seen or is a result
used_known : (seen : List ℕ) (code : List Instr) (k : ℕ) (i : Instr) → uses_follow seen code ≡ true → slice_get code k ≡ Some i
    → (x : ℕ) → contains (ids_of i).uses x ≡ true → (contains seen x ≡ true) ⊎ (contains (results code) x ≡ true)
used_known seen [] k i h e x u = absurd cc
used_known seen (j ∷ js) zero i h e x u =
    let same : j ≡ i = cc in
    let here = (and_parts (list_all (contains seen) (ids_of j).uses) (uses_follow ((ids_of j).results ++ seen) js) h).0 in
    inl (all_pass (contains seen) (ids_of i).uses x (subst (λ z. list_all (contains seen) (ids_of z).uses ≡ true) same here) u)
used_known seen (j ∷ js) (suc k) i h e x u = by_case (used_known ((ids_of j).results ++ seen) js k i further e x u) where
  further : uses_follow ((ids_of j).results ++ seen) js ≡ true
  further = (and_parts (list_all (contains seen) (ids_of j).uses) (uses_follow ((ids_of j).results ++ seen) js) h).1

  by_seen : (contains (ids_of j).results x ≡ true) ⊎ (contains seen x ≡ true) → (contains seen x ≡ true) ⊎ (contains (results (j ∷ js)) x ≡ true)
  by_seen (inl here) = inr (in_two (ids_of j).results (results js) x (inl here))
  by_seen (inr before) = inl before

  by_case : (contains ((ids_of j).results ++ seen) x ≡ true) ⊎ (contains (results js) x ≡ true)
      → (contains seen x ≡ true) ⊎ (contains (results (j ∷ js)) x ≡ true)
  by_case (inl known) = by_seen (of_two (ids_of j).results seen x known)
  by_case (inr later) = inr (in_two (ids_of j).results (results js) x (inr later))

pub sorted : (code : List Instr) (k : ℕ) (i : Instr) → IsTrue (has_sorts code) → slice_get code k ≡ Some i → IsTrue (is_sorted code i)
sorted code k i h e = all_at (is_sorted code) code k i h e

pub defined : (bound : ℕ) (code : List Instr) (k : ℕ) (i : Instr)
    → IsTrue (has_single_definitions bound code) → slice_get code k ≡ Some i → IsTrue (is_defined code i)
defined bound code k i h e = all_from (λ x. is_some (definition code x)) (ids_of i).uses (λ x u. by_case x (used_known [] code k i follows e x u)) where
  follows : uses_follow [] code ≡ true
  follows =
      let held = and_parts (are_distinct (results code) && list_all (is_id bound) (results code)) (uses_follow [] code && names_are_among (results code) code) h in
      (and_parts (uses_follow [] code) (names_are_among (results code) code) held.1).0

  by_case : (x : ℕ) → (contains [] x ≡ true) ⊎ (contains (results code) x ≡ true) → is_some (definition code x) ≡ true
  by_case x (inl never) = absurd cc
  by_case x (inr known) = result_defined code x known
