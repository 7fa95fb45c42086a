-- What the code of a function's blocks owes to the form of its module, by plain facts on the code.
use Rattle.std.proofs.Common.{◌≡◌, ℕ, ◌<◌, ◌≤◌, inl, inr, List, [], ◌∷◌, ◌++◌, Bool, true, false, refl, sym, ap, ◌∙◌, subst, arith, append-nil}
use Rattle.std.specs.Prelude.{nat_lt, IsTrue}
use Rattle.std.specs.List.{list_all}
use Rattle.std.proofs.lemmas.Bool.{and_from, and_parts}
use Rattle.std.proofs.lemmas.Bool.Decides.{nat_tests}
use Rattle.shader_tree.specs.Walks.{Each}
use Rattle.spirv_words.specs.Roles.{Plain, Local}
use Rattle.spirv_words.specs.Blocks.{flow_of}
use Rattle.spirv_words.specs.Ids.{ids_of, contains}
use Rattle.spirv_words.specs.Definitions.{results, are_distinct, is_id, Home, homes, used_at}
use Rattle.spirv_words.specs.Operands.{is_sorted}
use Rattle.spirv_words.specs.Sections.{is_body, section_of}
use Rattle.spirv_words.specs.Text.{Instr, is_instr}
use Rattle.spirv_words.specs.Variables.{is_variable_well}
use Rattle.spirv_symbols.specs.declared.symbol.Symbol.{Symbol}
use Rattle.spirv_symbols.specs.declared.entry.Entry.{Entry}
use Rattle.spirv_symbols.specs.Contexts.{Context}
use Rattle.spirv_symbols.specs.Tables.{Table, Has}
use Rattle.spirv_symbols.specs.Modules.{IsBody, HasIds}
use Rattle.spirv_emit.specs.Code.{Typed, typed, In, AreTyped}
use Rattle.spirv_flow.specs.Labels.{labels_in}
use Rattle.spirv_flow.specs.Layout.{Layout, leave, code_of, Placed}
use Rattle.spirv_flow.specs.Lowers.{times}
use Rattle.spirv_flow.proofs.Composing.{results_append, typed_both}
use Rattle.spirv_flow.proofs.FormEach.{Passes, each, each_append, each_mapped, each_with, all_tested}
use Rattle.spirv_flow.proofs.FormPlain.{plain_variable}
use Rattle.spirv_flow.proofs.FormNames.{names_labels, labels_append}
use Rattle.spirv_flow.proofs.FormSorted.{Reads, AreRight}
use Rattle.spirv_flow.proofs.FormKnown.{all_found, all_sorted, all_follow, SeenIn}
use Rattle.spirv_flow.proofs.FormResults.{contained_in, in_contained, in_times, times_in, distinct_by, labels_are_results}
use Rattle.spirv_flow.proofs.FormLocals.{ids_at, homes_few, id_times, one_home, IsHome, used_at_home}

-- LISTS
each_in : {X : Type 0} (P : X → Type 0) (xs : List X) → ((x : X) → In xs x → P x) → Each P xs
each_in P [] f = tt
each_in P (x ∷ xs) f = (f x (inl refl), each_in P xs (λ y i. f y (inr i)))

pub all_each : {X : Type 0} (test : X → Bool) (xs : List X) → IsTrue (list_all test xs) → Each (λ x. IsTrue (test x)) xs
all_each test [] h = tt
all_each test (x ∷ xs) h = let p = and_parts (test x) (list_all test xs) h in (p.0, all_each test xs p.1)

-- behind the blocks the function leaves
abbrev pub with_leave : List Instr → List Instr
with_leave code = code ++ (leave ∷ [])

same_results : (code : List Instr) → results (with_leave code) ≡ results code
same_results code = results_append code (leave ∷ []) ∙ append-nil (results code)

-- BY THE KIND of each instruction
in_body : Passes (λ i. IsTrue (is_body (section_of i)))
in_body = record {
  plain = λ i p q. ap is_body q;
  labels = λ l. refl;
  branches = λ l. refl;
  merges = λ m. refl;
  loop_merges = λ m c. refl;
  chooses = λ t x y. refl;
  switches = λ on m x. refl;
  leaves = refl;
}

well_variables : (code : List Instr) → Passes (λ i. IsTrue (is_variable_well code i))
well_variables code = record {
  plain = λ i p q. plain_variable code i p q;
  labels = λ l. refl;
  branches = λ l. refl;
  merges = λ m. refl;
  loop_merges = λ m c. refl;
  chooses = λ t x y. refl;
  switches = λ on m x. refl;
  leaves = refl;
}

no_locals : Passes (λ i. flow_of i ≡ Local → ⊥)
no_locals = record {
  plain = λ i p q e. let both : Plain ≡ Local = sym p ∙ e in absurd (cc);
  labels = λ l e. absurd (cc);
  branches = λ l e. absurd (cc);
  merges = λ m e. absurd (cc);
  loop_merges = λ m c e. absurd (cc);
  chooses = λ t x y e. absurd (cc);
  switches = λ on m x e. absurd (cc);
  leaves = λ e. absurd (cc);
}

-- The code of a layout whose results are new ids, one each, that are no symbol's, and that takes what is known in front of it.
pub record IsWritten (names : List Entry) (low high : ℕ) (globals : List Typed) (x : Layout) : Type 0 where
  pub placed : Placed x false false
  pub instructions : IsTrue (list_all is_instr (code_of x 0 0))
  pub few : (id : ℕ) → times id (results (code_of x 0 0)) ≤ 1
  pub between : (id : ℕ) → In (results (code_of x 0 0)) id → (low ≤ id) × (id < high)
  pub apart' : (s : Symbol) (id : ℕ) → Has names s id → In (results (code_of x 0 0)) id → ⊥
  pub typed' : AreTyped names globals globals (code_of x 0 0)
  pub symbols : (id t : ℕ) → In globals (typed id t) → (s : Symbol) × Has names s id

module _ (names : List Entry) (low high : ℕ) (globals : List Typed) (x : Layout) (w : IsWritten names low high globals x) where
  abbrev body : List Instr
  body = with_leave (code_of x 0 0)

  by_kind : (P : Instr → Type 0) → Passes P → Each P body
  by_kind P h = each_append P (code_of x 0 0) (leave ∷ []) (each P h x 0 0 false false w.placed) (h.leaves, tt)

  pub stands_in_body : IsBody body
  stands_in_body = all_tested (λ i. is_body (section_of i)) body (by_kind (λ i. IsTrue (is_body (section_of i))) in_body)

  pub are_instructions : IsTrue (list_all is_instr body)
  are_instructions =
      all_tested is_instr body (each_append (λ i. IsTrue (is_instr i)) (code_of x 0 0) (leave ∷ [])
      (all_each is_instr (code_of x 0 0) w.instructions) (refl, tt))

  pub have_variables : (code : List Instr) → IsTrue (list_all (is_variable_well code) body)
  have_variables code = all_tested (is_variable_well code) body (by_kind (λ i. IsTrue (is_variable_well code i)) (well_variables code))

  -- IDS
  own_result : (id : ℕ) → contains (results body) id ≡ true → In (results (code_of x 0 0)) id
  own_result id h = contained_in (results (code_of x 0 0)) id (subst (λ l. contains l id ≡ true) (same_results (code_of x 0 0)) h)

  few_results : (id : ℕ) → times id (results body) ≤ 1
  few_results id = subst (λ l. times id l ≤ 1) (sym (same_results (code_of x 0 0))) (w.few id)

  not_contained : (b : Bool) → (b ≡ true → ⊥) → b ≡ false
  not_contained true f = absurd (f refl)
  not_contained false f = refl

  above : (bound id : ℕ) → 0 < low → high ≤ bound → (low ≤ id) × (id < high) → IsTrue (is_id bound id)
  above bound id p q r =
      let a : nat_lt 0 id ≡ true = grind (arith, nat_tests, p, r.0) in
      let b : nat_lt id bound ≡ true = grind (arith, nat_tests, q, r.1) in
      and_from (nat_lt 0 id) (nat_lt id bound) a b

  labels_of_names : Each (λ i. Each (In (labels_in (code_of x 0 0))) (ids_of i).names) (code_of x 0 0)
  labels_of_names =
      each_with is_instr (λ i. Each (In (labels_in (code_of x 0 0))) (ids_of i).names) (code_of x 0 0) (names_labels x 0 0 w.placed) w.instructions

  named : (P : ℕ → Type 0) → ((id : ℕ) → In (labels_in (code_of x 0 0)) id → P id) → Each (λ i. Each P (ids_of i).names) body
  named P f =
      each_append (λ i. Each P (ids_of i).names) (code_of x 0 0) (leave ∷ [])
      (each_mapped (λ i. Each (In (labels_in (code_of x 0 0))) (ids_of i).names) (λ i. Each P (ids_of i).names) (code_of x 0 0)
      (λ i h. each_mapped (In (labels_in (code_of x 0 0))) P (ids_of i).names f h) labels_of_names) (tt, tt)

  label_result : (id : ℕ) → In (labels_in (code_of x 0 0)) id → contains (results body) id ≡ true
  label_result id i = subst (λ l. contains l id ≡ true) (sym (same_results (code_of x 0 0))) (labels_are_results (code_of x 0 0) id i)

  typed_body : AreTyped names globals globals body
  typed_body = typed_both names globals globals (code_of x 0 0) (leave ∷ []) w.typed' (tt, tt)

  body_each : Each (λ i. IsTrue (is_body (section_of i))) body
  body_each = by_kind (λ i. IsTrue (is_body (section_of i))) in_body

  pub has_ids : (t : Table) (bound : ℕ) → t.entries ≡ names → 0 < low → high ≤ bound → t.next ≤ bound → HasIds t bound body
  has_ids t bound same some le next = record {
    distinct = distinct_by (results body) few_results;
    bounds = all_tested (is_id bound) (results body) (each_in (λ id. IsTrue (is_id bound id)) (results body)
        (λ id i. above bound id some le (w.between id (own_result id (in_contained (results body) id i)))));
    fresh = λ s id h. not_contained (contains (results body) id)
        (λ e. w.apart' s id (subst (λ es. Has es s id) same h) (own_result id e));
    uses = λ seen f.
        let symbols : (s : Symbol) (id : ℕ) → Has names s id → contains seen id ≡ true =
        λ s id h. f s id (subst (λ es. Has es s id) (sym same) h) in
        let known : SeenIn seen globals = λ id t i. let s = w.symbols id t i in symbols s.0 id s.1 in
        all_follow names globals seen globals body typed_body body_each symbols known known;
    names = λ xs f g.
        all_tested (λ i. list_all (contains xs) (ids_of i).names) body
        (each_mapped (λ i. Each (λ id. IsTrue (contains xs id)) (ids_of i).names) (λ i. IsTrue (list_all (contains xs) (ids_of i).names)) body
        (λ i h. all_tested (contains xs) (ids_of i).names h)
        (named (λ id. IsTrue (contains xs id)) (λ id i. g id (label_result id i))));
    next = next;
  }

  -- SORTS, in code that defines each id once
  pub are_sorted : (c : Context) (before after : List Instr) → Reads c names (before ++ (body ++ after))
      → AreRight names (before ++ (body ++ after)) globals → are_distinct (results (before ++ (body ++ after))) ≡ true
      → IsTrue (list_all (is_sorted (before ++ (body ++ after))) body)
  are_sorted c before after m right d =
      all_sorted c names (before ++ (body ++ after)) m globals right globals body typed_body right (all_found before body after d)

  -- LOCAL RESULTS. Homes in the body's blocks are used there alone.
  abbrev hs : List Home
  hs = homes body 1

  few_homes : (id : ℕ) → times id (ids_at hs) ≤ 1
  few_homes id = let a = homes_few id body 1 in let b = few_results id in omega (arith, a, b)

  home_result : (h : Home) → In hs h → In (results (code_of x 0 0)) h.id
  home_result h i =
      let a = homes_few h.id body 1 in
      let b = id_times hs h i in
      own_result h.id (in_contained (results body) h.id (times_in (results body) h.id (omega (arith, a, b))))

  body_label : (id : ℕ) → In (labels_in (code_of x 0 0)) id → 1 ≤ times id (labels_in body)
  body_label id i =
      let e : labels_in body ≡ labels_in (code_of x 0 0) ++ [] = labels_append (code_of x 0 0) (leave ∷ []) in
      subst (λ l. 1 ≤ times id l) (sym (e ∙ append-nil (labels_in (code_of x 0 0)))) (in_times (labels_in (code_of x 0 0)) id i)

  no_home : (id : ℕ) → In (labels_in (code_of x 0 0)) id → (h : Home) → In hs h → id ≡ h.id → ⊥
  no_home id i h j e =
      let a = homes_few id body 1 in
      let b = few_results id in
      let l = body_label id i in
      let k : 1 ≤ times id (ids_at hs) = subst (λ n. 1 ≤ times n (ids_at hs)) (sym e) (id_times hs h j) in
      omega (arith, a, b, l, k)

  pub body_at_home : Each (IsHome hs) (used_at body 1)
  body_at_home =
      used_at_home names globals hs (one_home hs few_homes) (λ s id h k i e. w.apart' s h.id (subst (λ n. Has names s n) e k) (home_result h i))
      w.symbols globals 1 body typed_body body_each (by_kind (λ i. flow_of i ≡ Local → ⊥) no_locals)
      (named (λ id. (h : Home) → In hs h → id ≡ h.id → ⊥) no_home) (λ h i. i) (λ id t i. inl (w.symbols id t i))
