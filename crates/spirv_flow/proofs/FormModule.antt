-- A module that declares the symbols of a table, around the code of a layout: its results are used in their blocks, and its blocks
-- are those of a function.
use Rattle.std.proofs.Common.{◌≡◌, ℕ, ◌⊎◌, inl, inr, ⊎_elim, List, [], ◌∷◌, ◌++◌, true, refl, sym, ap, ◌∙◌, subst, arith, append_assoc, append-nil}
use Rattle.std.specs.Prelude.{◌&&◌, IsTrue}
use Rattle.std.specs.List.{list_all}
use Rattle.std.proofs.lemmas.Bool.{and_parts}
use Rattle.shader_tree.specs.Walks.{Each}
use Rattle.spirv_words.specs.Operations.{OpFunctionEnd}
use Rattle.spirv_words.specs.Blocks.{flow_of, next_block}
use Rattle.spirv_words.specs.Ids.{ids_of, contains}
use Rattle.spirv_words.specs.Definitions.{results, are_distinct, is_id, uses_follow, names_are_among, has_single_definitions, Home, homes, used_at, at_block, is_at_home, has_local_results}
use Rattle.spirv_words.specs.Text.{Instr, instruction}
use Rattle.spirv_symbols.specs.declared.symbol.Section.TheVariants.{Heads, Labels, Locals}
use Rattle.spirv_symbols.specs.declared.numbered.Numbered.{Numbered}
use Rattle.spirv_symbols.specs.Contexts.{Context}
use Rattle.spirv_symbols.specs.Tables.{Table}
use Rattle.spirv_symbols.specs.Sections.{section_code}
use Rattle.spirv_symbols.specs.Modules.{Kind, IsReady, front, module_code}
use Rattle.spirv_emit.specs.Code.{Typed, In}
use Rattle.spirv_flow.specs.Fronts.{IsFront, whole}
use Rattle.spirv_flow.specs.Layout.{Layout, leave, code_of}
use Rattle.spirv_flow.proofs.Composing.{results_append}
use Rattle.spirv_flow.proofs.FormEach.{each_append, each_mapped}
use Rattle.spirv_flow.proofs.FormKnown.{in_either, contains_front, contains_back, apart}
use Rattle.spirv_flow.proofs.FormFront.{Opening, opening, is_front, front_homes, front_behind, homes_on, used_on}
use Rattle.spirv_flow.proofs.FormLocals.{IsHome, all_at_home, homes_few, id_times}
use Rattle.spirv_flow.proofs.FormParts.{IsWritten, with_leave, body_at_home, all_each}
use Rattle.spirv_flow.proofs.FormResults.{contained_in, in_contained, times_in}

-- IDS that code uses and names, where all of them are among some ids
abbrev Among : List ℕ → List ℕ → Type 0
Among total xs = Each (λ x. contains total x ≡ true) xs

each_test : (total xs : List ℕ) → list_all (contains total) xs ≡ true → Among total xs
each_test total xs h = all_each (contains total) xs h

uses_among : (total seen : List ℕ) (is rest : List Instr) → ((x : ℕ) → contains seen x ≡ true → contains total x ≡ true)
    → ((x : ℕ) → contains (results is) x ≡ true → contains total x ≡ true) → uses_follow seen (is ++ rest) ≡ true
    → Each (λ i. Among total (ids_of i).uses) is
uses_among total seen [] rest f g h = tt
uses_among total seen (i ∷ is) rest f g h =
    let p = and_parts (list_all (contains seen) (ids_of i).uses) (uses_follow ((ids_of i).results ++ seen) (is ++ rest)) h in (
      each_mapped (λ x. contains seen x ≡ true) (λ x. contains total x ≡ true) (ids_of i).uses f (each_test seen (ids_of i).uses p.0),
      uses_among total ((ids_of i).results ++ seen) is rest (λ x k. by x (contained_either (ids_of i).results seen x k))
          (λ x k. g x (contains_back (ids_of i).results (results is) x k)) p.1,
    ) where
      contained_either : (xs ys : List ℕ) (x : ℕ) → contains (xs ++ ys) x ≡ true → (contains xs x ≡ true) ⊎ (contains ys x ≡ true)
      contained_either xs ys x k =
          ⊎_elim (λ j. inl (in_contained xs x j)) (λ j. inr (in_contained ys x j))
          (in_either xs ys x (contained_in (xs ++ ys) x k))

      by : (x : ℕ) → (contains (ids_of i).results x ≡ true) ⊎ (contains seen x ≡ true) → contains total x ≡ true
      by x (inl k) = g x (contains_front (ids_of i).results (results is) x k)
      by x (inr k) = f x k

names_among : (total : List ℕ) (is rest : List Instr) → names_are_among total (is ++ rest) ≡ true → Each (λ i. Among total (ids_of i).names) is
names_among total [] rest h = tt
names_among total (i ∷ is) rest h =
    let p = and_parts (list_all (contains total) (ids_of i).names) (names_are_among total (is ++ rest)) h in
    (each_test total (ids_of i).names p.0, names_among total is rest p.1)

at_among : (total : List ℕ) (b : ℕ) (xs : List ℕ) → Among total xs → Each (λ (at : Home). contains total at.id ≡ true) (at_block b xs)
at_among total b [] h = tt
at_among total b (x ∷ xs) h = (h.0, at_among total b xs h.1)

used_among : (total : List ℕ) (is : List Instr) (b : ℕ) → Each (λ i. Among total (ids_of i).uses) is → Each (λ i. Among total (ids_of i).names) is
    → Each (λ (at : Home). contains total at.id ≡ true) (used_at is b)
used_among total [] b g h = tt
used_among total (i ∷ is) b g h =
    each_append (λ (at : Home). contains total at.id ≡ true) (at_block b ((ids_of i).uses ++ (ids_of i).names)) (used_at is (next_block b (flow_of i)))
    (at_among total b ((ids_of i).uses ++ (ids_of i).names)
    (each_append (λ x. contains total x ≡ true) (ids_of i).uses (ids_of i).names g.0 h.0))
    (used_among total is (next_block b (flow_of i)) g.1 h.1)

abbrev pub ending : List Instr
ending = instruction OpFunctionEnd [] ∷ []

module _ (c : Context) (kind : Kind) (t : Table) (cs : List Numbered) (r : IsReady c t cs) where
  abbrev pub before : List Instr
  before = front c kind t.entries cs ++ (section_code c Heads t.entries ++ (section_code c Labels t.entries ++ section_code c Locals t.entries))

  abbrev code_with : List Instr → List Instr
  code_with body = module_code c kind t.entries cs body

  pub parted : (body : List Instr) → code_with body ≡ before ++ (body ++ ending)
  parted body =
      let f = front c kind t.entries cs in
      let h = section_code c Heads t.entries in
      let l = section_code c Labels t.entries in
      let v = section_code c Locals t.entries in
      let rest = body ++ ending in
      sym (append_assoc f (h ++ (l ++ v)) rest
      ∙ ap (λ q. f ++ q) (append_assoc h (l ++ v) rest ∙ ap (λ q. h ++ q) (append_assoc l v rest)))

  pub opens : Opening before
  opens = opening c kind t cs r

  -- what stands in front uses and names its own results alone
  module _ (bound : ℕ) (single : (body : List Instr) → body ≡ leave ∷ [] → IsTrue (has_single_definitions bound (code_with body))) where
    alone : List Instr
    alone = code_with (leave ∷ [])

    abbrev Shape : List Instr → Type 0
    Shape code = IsTrue (has_single_definitions bound code)

    single_alone : Shape (before ++ ((leave ∷ []) ++ ending))
    single_alone = subst Shape (parted (leave ∷ [])) (single (leave ∷ []) refl)

    own_results : results (before ++ ((leave ∷ []) ++ ending)) ≡ results before
    own_results =
        results_append before ((leave ∷ []) ++ ending) ∙ append-nil (results before)

    pub front_used : Each (λ (at : Home). contains (results before) at.id ≡ true) (used_at before 0)
    front_used =
        let code = before ++ ((leave ∷ []) ++ ending) in
        let p = and_parts (are_distinct (results code) && list_all (is_id bound) (results code)) (uses_follow [] code && names_are_among (results code) code)
        single_alone in
        let q = and_parts (uses_follow [] code) (names_are_among (results code) code) p.1 in
        used_among (results before) before 0
        (uses_among (results before) [] before ((leave ∷ []) ++ ending) (λ x h. absurd (cc)) (λ x h. h) q.0)
        (names_among (results before) before ((leave ∷ []) ++ ending) (subst (λ l. names_are_among l code ≡ true) own_results q.1))

    module _ (low high : ℕ) (globals : List Typed) (x : Layout) (w : IsWritten t.entries low high globals x)
        (distinct : are_distinct (results (before ++ (with_leave (code_of x 0 0) ++ ending))) ≡ true) where
      abbrev body : List Instr
      body = with_leave (code_of x 0 0)

      body_home : (h : Home) → In (homes body 1) h → contains (results (body ++ ending)) h.id ≡ true
      body_home h i =
          let few = homes_few h.id body 1 in
          let one = id_times (homes body 1) h i in
          subst (λ l. contains l h.id ≡ true) (sym (results_append body ending))
          (contains_front (results body) (results ending) h.id
          (in_contained (results body) h.id (times_in (results body) h.id (omega (arith, few, one)))))

      front_apart : (at h : Home) → contains (results before) at.id ≡ true → In (homes body 1) h → at.id ≡ h.id → ⊥
      front_apart at h k i e =
          let two = apart (results before) (results (body ++ ending)) h.id (subst (λ l. are_distinct l ≡ true) (results_append before (body ++ ending)) distinct)
          (body_home h i) in
          let one : contains (results before) h.id ≡ true = subst (λ n. contains (results before) n ≡ true) e k in
          cc

      all_homes : homes (before ++ (body ++ ending)) 0 ≡ homes before 0 ++ homes body 1
      all_homes =
          homes_on before (body ++ ending) 0
          ∙ ap (λ l. homes before 0 ++ l) (ap (homes (body ++ ending)) (front_behind before opens)
          ∙ (homes_on body ending 1 ∙ append-nil (homes body 1)))

      all_used : used_at (before ++ (body ++ ending)) 0 ≡ used_at before 0 ++ used_at body 1
      all_used =
          used_on before (body ++ ending) 0
          ∙ ap (λ l. used_at before 0 ++ l) (ap (used_at (body ++ ending)) (front_behind before opens)
          ∙ (used_on body ending 1 ∙ append-nil (used_at body 1)))

      at_home : (at : Home) → ((h : Home) → In (homes body 1) h → at.id ≡ h.id → (h.block ≡ 0) ⊎ (at.block ≡ h.block))
          → IsHome (homes before 0 ++ homes body 1) at
      at_home at f h i e = ⊎_elim (λ j. inl (front_homes before opens h j)) (λ j. f h j e) (in_either (homes before 0) (homes body 1) h i)

      pub local_results_hold : IsTrue (has_local_results (before ++ (body ++ ending)))
      local_results_hold =
          let hs = homes before 0 ++ homes body 1 in
          let used : Each (IsHome hs) (used_at before 0 ++ used_at body 1) =
          each_append (IsHome hs) (used_at before 0) (used_at body 1)
          (each_mapped (λ (at : Home). contains (results before) at.id ≡ true) (IsHome hs) (used_at before 0)
          (λ at k. at_home at (λ h j e. absurd (front_apart at h k j e))) front_used)
          (each_mapped (IsHome (homes body 1)) (IsHome hs) (used_at body 1) (λ at k. at_home at k)
          (body_at_home t.entries low high globals x w)) in
          subst (λ l. list_all (λ at. list_all (is_at_home at) l) (used_at (before ++ (body ++ ending)) 0) ≡ true)
          (sym all_homes)
          (subst (λ l. list_all (λ at. list_all (is_at_home at) hs) l ≡ true) (sym all_used)
          (all_at_home hs (used_at before 0 ++ used_at body 1) used))

  -- THE BLOCKS are those of a layout behind what opens the function
  pub as_whole : (x : Layout) → code_with (with_leave (code_of x 0 0)) ≡ whole before x
  as_whole x = parted (with_leave (code_of x 0 0)) ∙ ap (λ l. before ++ l) (append_assoc (code_of x 0 0) (leave ∷ []) ending)

  pub is_front' : IsFront before
  is_front' = is_front before opens
