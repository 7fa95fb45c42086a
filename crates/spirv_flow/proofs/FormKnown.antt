-- Code that takes only ids that are known in front of it, in a module that defines each id once: its instructions have their sorts, and
-- what they use stands in front.
use Rattle.std.proofs.Common.{◌≡◌, ℕ, ◌⊎◌, inl, inr, ⊎_elim, List, [], ◌∷◌, ◌++◌, Some, Bool, true, false, refl, sym, ap, ◌∙◌, subst, append_assoc}
use Rattle.std.specs.Prelude.{nat_eq, ◌||◌, not, cond, IsTrue}
use Rattle.std.specs.List.{list_all}
use Rattle.std.proofs.lemmas.Bool.{and_from, and_parts, eqb-true}
use Rattle.std.proofs.lemmas.List.Folds.{list_any-append}
use Rattle.shader_tree.specs.Walks.{Each}
use Rattle.spirv_words.specs.Roles.{Flow, Label}
use Rattle.spirv_words.specs.Blocks.{flow_of}
use Rattle.spirv_words.specs.Text.{Instr}
use Rattle.spirv_words.specs.Ids.{ids_of, contains, definition, type_of_instr}
use Rattle.spirv_words.specs.Definitions.{results, are_distinct, uses_follow}
use Rattle.spirv_words.specs.Operands.{is_sorted}
use Rattle.spirv_words.specs.Sections.{is_body, section_of}
use Rattle.spirv_symbols.specs.declared.symbol.Symbol.{Symbol}
use Rattle.spirv_symbols.specs.declared.entry.Entry.{Entry}
use Rattle.spirv_symbols.specs.Contexts.{Context}
use Rattle.spirv_symbols.specs.Tables.{Has}
use Rattle.spirv_emit.specs.Code.{Typed, typed, In, known_by, known_behind, typed_result, AreTyped}
use Rattle.spirv_flow.proofs.Members.{no_truth}
use Rattle.spirv_flow.proofs.FormUses.{IsSeen, uses_seen, typed_is_result, typed_has_type}
use Rattle.spirv_flow.proofs.FormSorted.{Reads, AreRight, typed_sorted}

-- LISTS
pub in_either : {X : Type 0} (xs ys : List X) (x : X) → In (xs ++ ys) x → In xs x ⊎ In ys x
in_either [] ys x h = inr h
in_either (y ∷ xs) ys x (inl e) = inl (inl e)
in_either (y ∷ xs) ys x (inr h) = ⊎_elim (λ i. inl (inr i)) (λ i. inr i) (in_either xs ys x h)

or_true : (a b : Bool) → b ≡ true → (a || b) ≡ true
or_true true b h = refl
or_true false b h = h

or_first : (a b : Bool) → a ≡ true → (a || b) ≡ true
or_first true b h = refl
or_first false b h = absurd (no_truth h)

pub contains_front : (xs ys : List ℕ) (x : ℕ) → contains xs x ≡ true → contains (xs ++ ys) x ≡ true
contains_front xs ys x h = list_any-append (λ y. nat_eq y x) xs ys ∙ or_first (contains xs x) (contains ys x) h

pub contains_back : (xs ys : List ℕ) (x : ℕ) → contains ys x ≡ true → contains (xs ++ ys) x ≡ true
contains_back xs ys x h = list_any-append (λ y. nat_eq y x) xs ys ∙ or_true (contains xs x) (contains ys x) h

not_false : (b : Bool) → not b ≡ true → b ≡ true → ⊥
not_false true h e = no_truth h
not_false false h e = no_truth e

pub distinct_back : (xs ys : List ℕ) → are_distinct (xs ++ ys) ≡ true → are_distinct ys ≡ true
distinct_back [] ys d = d
distinct_back (y ∷ xs) ys d = distinct_back xs ys (and_parts (not (contains (xs ++ ys) y)) (are_distinct (xs ++ ys)) d).1

-- what the back of distinct ids has, the front has not
pub apart : (xs ys : List ℕ) (x : ℕ) → are_distinct (xs ++ ys) ≡ true → contains ys x ≡ true → contains xs x ≡ false
apart [] ys x d h = refl
apart (y ∷ xs) ys x d h = by (nat_eq y x) refl (apart xs ys x rest h) where
  rest : are_distinct (xs ++ ys) ≡ true
  rest = (and_parts (not (contains (xs ++ ys) y)) (are_distinct (xs ++ ys)) d).1

  by : (b : Bool) → nat_eq y x ≡ b → contains xs x ≡ false → (b || contains xs x) ≡ false
  by false e f = f
  by true e f =
      absurd (not_false (contains (xs ++ ys) y) (and_parts (not (contains (xs ++ ys) y)) (are_distinct (xs ++ ys)) d).0
      (contains_back xs ys y (subst (λ z. contains ys z ≡ true) (sym (eqb-true y x e)) h)))

results_have : (before : List Instr) (i : Instr) (after : List Instr) (x : ℕ) → contains (ids_of i).results x ≡ true
    → contains (results (before ++ i ∷ after)) x ≡ true
results_have [] i after x h = contains_front (ids_of i).results (results after) x h
results_have (j ∷ before) i after x h = contains_back (ids_of j).results (results (before ++ i ∷ after)) x (results_have before i after x h)

-- THE DEFINITION of an id is the instruction whose result it is.
abbrev pub IsFound : List Instr → Instr → Type 0
IsFound code i = (x : ℕ) → contains (ids_of i).results x ≡ true → definition code x ≡ Some i

found_here : (before : List Instr) (i : Instr) (after : List Instr) → are_distinct (results (before ++ i ∷ after)) ≡ true
    → IsFound (before ++ i ∷ after) i
found_here [] i after d x h = ap (λ b. cond b (Some i) (definition after x)) h
found_here (j ∷ before) i after d x h =
    let rest = results (before ++ i ∷ after) in
    ap (λ b. cond b (Some j) (definition (before ++ i ∷ after) x)) (apart (ids_of j).results rest x d (results_have before i after x h))
    ∙ found_here before i after (distinct_back (ids_of j).results rest d) x h

pub all_found : (before body after : List Instr) → are_distinct (results (before ++ (body ++ after))) ≡ true
    → Each (IsFound (before ++ (body ++ after))) body
all_found before [] after d = tt
all_found before (i ∷ body) after d =
    let moved = append_assoc before (i ∷ []) (body ++ after) in
    let one : List Instr = i ∷ [] in (
      found_here before i (body ++ after) d,
      subst (λ code. Each (IsFound code) body) moved
          (all_found (before ++ one) body after (subst (λ code. are_distinct (results code) ≡ true) (sym moved) d)),
    )

-- WHAT IS KNOWN behind an instruction
pub behind_by : (P : List Typed → Type 0) (f : Flow) (globals known : List Typed) → P globals → P known → P (known_by f globals known)
behind_by P (Label l) globals known g h = g
behind_by P f globals known g h = h

module _ (c : Context) (names : List Entry) (code : List Instr) (m : Reads c names code) (globals : List Typed) (right : AreRight names code globals) where
  right_behind : (known : List Typed) (i : Instr) → AreRight names code known → IsFound code i → AreRight names code (known_behind globals known i)
  right_behind known i h found =
      behind_by (AreRight names code) (flow_of i) globals (typed_result i ++ known) right
      (λ x t j. ⊎_elim
      (λ own. inl (ap type_of_instr (found x (typed_is_result i (typed x t) own)) ∙ typed_has_type i (typed x t) own))
      (λ old. h x t old) (in_either (typed_result i) known (typed x t) j))

  pub all_sorted : (known : List Typed) (body : List Instr) → AreTyped names globals known body → AreRight names code known → Each (IsFound code) body
      → list_all (is_sorted code) body ≡ true
  all_sorted known [] h r f = refl
  all_sorted known (i ∷ body) h r f =
      and_from (is_sorted code i) (list_all (is_sorted code) body) (typed_sorted c names code m known r i h.0)
      (all_sorted (known_behind globals known i) body h.1 (right_behind known i r f.0) f.1)

-- USES
abbrev pub SeenIn : List ℕ → List Typed → Type 0
SeenIn seen known = (x t : ℕ) → In known (typed x t) → contains seen x ≡ true

module _ (names : List Entry) (globals : List Typed) where
  abbrev pub HasSymbols : List ℕ → Type 0
  HasSymbols seen = (s : Symbol) (x : ℕ) → Has names s x → contains seen x ≡ true

  seen_by : (seen : List ℕ) (known : List Typed) → HasSymbols seen → SeenIn seen known → (x : ℕ) → IsSeen names known x → contains seen x ≡ true
  seen_by seen known s k x (inl h) = s h.0 x h.1
  seen_by seen known s k x (inr h) = k x h.0 h.1

  uses_all : (seen : List ℕ) (known : List Typed) (xs : List ℕ) → HasSymbols seen → SeenIn seen known → Each (IsSeen names known) xs
      → list_all (contains seen) xs ≡ true
  uses_all seen known [] s k h = refl
  uses_all seen known (x ∷ xs) s k h =
      and_from (contains seen x) (list_all (contains seen) xs) (seen_by seen known s k x h.0) (uses_all seen known xs s k h.1)

  more_seen : (more seen : List ℕ) (known : List Typed) → SeenIn seen known → SeenIn (more ++ seen) known
  more_seen more seen known h x t i = contains_back more seen x (h x t i)

  seen_behind : (seen : List ℕ) (known : List Typed) (i : Instr) → SeenIn seen globals → SeenIn seen known
      → SeenIn ((ids_of i).results ++ seen) (known_behind globals known i)
  seen_behind seen known i g k =
      behind_by (SeenIn ((ids_of i).results ++ seen)) (flow_of i) globals (typed_result i ++ known) (more_seen (ids_of i).results seen globals g)
      (λ x t j. ⊎_elim (λ own. contains_front (ids_of i).results seen x (typed_is_result i (typed x t) own))
      (λ old. contains_back (ids_of i).results seen x (k x t old)) (in_either (typed_result i) known (typed x t) j))

  pub all_follow : (seen : List ℕ) (known : List Typed) (body : List Instr) → AreTyped names globals known body
      → Each (λ i. IsTrue (is_body (section_of i))) body → HasSymbols seen → SeenIn seen globals → SeenIn seen known
      → uses_follow seen body ≡ true
  all_follow seen known [] h b s g k = refl
  all_follow seen known (i ∷ body) h b s g k =
      and_from (list_all (contains seen) (ids_of i).uses) (uses_follow ((ids_of i).results ++ seen) body)
      (uses_all seen known (ids_of i).uses s k (uses_seen names known i h.0 b.0))
      (all_follow ((ids_of i).results ++ seen) (known_behind globals known i) body h.1 b.1
      (λ t x q. contains_back (ids_of i).results seen x (s t x q)) (more_seen (ids_of i).results seen globals g) (seen_behind seen known i g k))
