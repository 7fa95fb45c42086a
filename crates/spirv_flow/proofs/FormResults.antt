-- The results of a layout's code are the ids of values and labels, and how often an id is among them.
use Rattle.std.proofs.Common.{◌≡◌, ℕ, ◌+◌, ◌≤◌, ◌⊎◌, inl, inr, ⊎_elim, List, [], ◌∷◌, ◌++◌, map, Bool, true, false, refl, sym, ap, ◌∙◌, subst, arith, append-nil}
use Rattle.std.specs.Prelude.{nat_eq, ◌||◌, not, cond, IsTrue}
use Rattle.std.specs.List.{list_all}
use Rattle.std.proofs.lemmas.Bool.{and_from, eqb-true, eq-eqb}
use Rattle.std.proofs.lemmas.Bool.Decides.{nat_tests}
use Rattle.shader_tree.specs.Walks.{Each}
use Rattle.spirv_words.specs.Roles.{Flow, Label, Plain}
use Rattle.spirv_words.specs.Blocks.{flow_of}
use Rattle.spirv_words.specs.Operations.{op_of}
use Rattle.spirv_words.specs.Ids.{ids_of, contains}
use Rattle.spirv_words.specs.Definitions.{results, are_distinct}
use Rattle.spirv_words.specs.Sections.{Body, section_of}
use Rattle.spirv_words.specs.Text.{Instr, is_instr}
use Rattle.spirv_emit.specs.Code.{In, values, typed_result}
use Rattle.spirv_flow.specs.Labels.{labels_of, labels_in}
use Rattle.spirv_flow.specs.Layout.{Layout, code_of, Placed}
use Rattle.spirv_flow.specs.Lowers.{times}
use Rattle.spirv_flow.proofs.Members.{no_truth}
use Rattle.spirv_flow.proofs.Numbers.{hit, hit_defined}
use Rattle.spirv_flow.proofs.Defined.{results_are_values}
use Rattle.spirv_flow.proofs.FormEach.{Passes, each, each_with}
use Rattle.spirv_flow.proofs.FormKnown.{in_either, contains_front, contains_back}
use Rattle.spirv_flow.proofs.Composing.{in_right}
use Rattle.spirv_flow.proofs.FormNames.{in_front}

-- HOW OFTEN an id is in a list, and whether it is
pub contained_in : (xs : List ℕ) (x : ℕ) → contains xs x ≡ true → In xs x
contained_in [] x h = absurd (no_truth h)
contained_in (y ∷ xs) x h = by (nat_eq y x) refl h (λ k. contained_in xs x k) where
  by : (b : Bool) → nat_eq y x ≡ b → (b || contains xs x) ≡ true → (contains xs x ≡ true → In xs x) → In (y ∷ xs) x
  by true e h f = inl (eqb-true y x e)
  by false e h f = inr (f h)

pub in_contained : (xs : List ℕ) (x : ℕ) → In xs x → contains xs x ≡ true
in_contained [] x h = absurd h
in_contained (y ∷ xs) x (inl e) = ap (λ b. b || contains xs x) (eq-eqb y x e)
in_contained (y ∷ xs) x (inr h) = by (nat_eq y x) (in_contained xs x h) where
  by : (b : Bool) → contains xs x ≡ true → (b || contains xs x) ≡ true
  by true e = refl
  by false e = e

pub in_times : (xs : List ℕ) (x : ℕ) → In xs x → 1 ≤ times x xs
in_times [] x h = absurd h
in_times (y ∷ xs) x (inl e) = grind (arith, nat_tests, e)
in_times (y ∷ xs) x (inr h) = let k = in_times xs x h in omega (arith, k)

pub times_in : (xs : List ℕ) (x : ℕ) → 1 ≤ times x xs → In xs x
times_in [] x h = absurd (omega (arith, h))
times_in (y ∷ xs) x h = by (nat_eq y x) refl h (λ k. times_in xs x k) where
  by : (b : Bool) → nat_eq y x ≡ b → 1 ≤ cond b 1 0 + times x xs → (1 ≤ times x xs → In xs x) → In (y ∷ xs) x
  by true e h f = inl (eqb-true y x e)
  by false e h f = inr (f (omega (arith, h)))

own_time : (x : ℕ) → times x (x ∷ []) ≡ 1
own_time x = grind (arith, nat_tests)

pub distinct_by : (xs : List ℕ) → ((x : ℕ) → times x xs ≤ 1) → are_distinct xs ≡ true
distinct_by [] h = refl
distinct_by (x ∷ xs) h =
    and_from (not (contains xs x)) (are_distinct xs) (by (contains xs x) refl) (distinct_by xs (λ y. let k = h y in omega (arith, k))) where
      by : (b : Bool) → contains xs x ≡ b → not b ≡ true
      by false e = refl
      by true e =
          let one = in_times xs x (contained_in xs x e) in
          let two = h x in
          let own = own_time x in
          absurd (omega (arith, one, two, own))

-- LABELS are results.
label_hit : (f : Flow) (l : ℕ) → In (labels_of f) l → 1 ≤ hit l f
label_hit (Label k) l (inl e) = grind (arith, nat_tests, e)
label_hit (Label k) l (inr h) = absurd h
label_hit f l h = absurd h

pub labels_are_results : (code : List Instr) (l : ℕ) → In (labels_in code) l → contains (results code) l ≡ true
labels_are_results [] l h = absurd h
labels_are_results (i ∷ is) l h =
    ⊎_elim (λ own.
    let one = label_hit (flow_of i) l own in
    let two = hit_defined l (op_of i.op) i.operands in
    contains_front (ids_of i).results (results is) l (in_contained (ids_of i).results l (times_in (ids_of i).results l (omega (arith, one, two)))))
    (λ later. contains_back (ids_of i).results (results is) l (labels_are_results is l later)) (in_either (labels_of (flow_of i)) (labels_in is) l h)

-- EACH RESULT is a value's id or a label.
abbrev Splits : Instr → Type 0
Splits i = IsTrue (is_instr i) → (x : ℕ) → contains (ids_of i).results x ≡ true → In (map (λ t. t.id) (typed_result i)) x ⊎ In (labels_of (flow_of i)) x

plain_split : (i : Instr) → flow_of i ≡ Plain → section_of i ≡ Body → Splits i
plain_split i p q f x h =
    let e : (ids_of i).results ++ [] ≡ map (λ t. t.id) (typed_result i) ++ [] =
    results_are_values (i ∷ []) ((p, q), tt) (and_from (is_instr i) true f refl) in
    let same : (ids_of i).results ≡ map (λ t. t.id) (typed_result i) =
    sym (append-nil (ids_of i).results) ∙ (e ∙ append-nil (map (λ t. t.id) (typed_result i))) in
    inl (subst (λ l. In l x) same (contained_in (ids_of i).results x h))

splits : Passes Splits
splits = record {
  plain = plain_split;
  labels = λ l f x h. inr (contained_in (l ∷ []) x h);
  branches = λ l f x h. absurd (no_truth h);
  merges = λ m f x h. absurd (no_truth h);
  loop_merges = λ m c f x h. absurd (no_truth h);
  chooses = λ t a b f x h. absurd (no_truth h);
  switches = λ on m y f x h. absurd (no_truth h);
  leaves = λ f x h. absurd (no_truth h);
}

results_split : (code : List Instr) → Each (λ i. (x : ℕ) → contains (ids_of i).results x ≡ true → In (map (λ t. t.id) (typed_result i)) x ⊎ In
    (labels_of (flow_of i)) x) code → (x : ℕ) → In (results code) x → In (values code) x ⊎ In (labels_in code) x
results_split [] h x j = absurd j
results_split (i ∷ is) h x j =
    ⊎_elim (λ own. ⊎_elim (λ v. inl (in_front (map (λ t. t.id) (typed_result i)) (values is) x v))
    (λ l. inr (in_front (labels_of (flow_of i)) (labels_in is) x l)) (h.0 x (in_contained (ids_of i).results x own)))
    (λ later. ⊎_elim (λ v. inl (in_right (map (λ t. t.id) (typed_result i)) (values is) x v))
    (λ l. inr (in_right (labels_of (flow_of i)) (labels_in is) x l)) (results_split is h.1 x later))
    (in_either (ids_of i).results (results is) x j)

pub values_or_labels : (x : Layout) (brk cont : ℕ) (l a : Bool) → Placed x l a → IsTrue (list_all is_instr (code_of x brk cont)) → (id : ℕ)
    → In (results (code_of x brk cont)) id → In (values (code_of x brk cont)) id ⊎ In (labels_in (code_of x brk cont)) id
values_or_labels x brk cont l a p f id j =
    results_split (code_of x brk cont) (each_with is_instr (λ i. (x : ℕ) → contains (ids_of i).results x ≡ true
    → In (map (λ t. t.id) (typed_result i)) x ⊎ In (labels_of (flow_of i)) x) (code_of x brk cont) (each Splits splits x brk cont l a p) f) id j
