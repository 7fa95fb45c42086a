-- The results of code that takes only ids that are known in front of it are used in their blocks alone: behind a label only the ids of
-- symbols are known.
use Rattle.std.proofs.Common.{◌≡◌, ℕ, ◌+◌, ◌≤◌, ◌⊎◌, inl, inr, ⊎_elim, List, [], ◌∷◌, ◌++◌, map, Bool, true, false, refl, sym, ap, ◌∙◌, subst, arith}
use Rattle.std.specs.Prelude.{nat_eq, ◌||◌, not, IsTrue}
use Rattle.std.specs.List.{list_all}
use Rattle.std.proofs.lemmas.Bool.{and_from, eqb-true, eq-eqb}
use Rattle.std.proofs.lemmas.Bool.Decides.{nat_tests}
use Rattle.shader_tree.specs.Walks.{Each}
use Rattle.spirv_words.specs.Roles.{Flow, Local, Label}
use Rattle.spirv_words.specs.Operations.{op_of}
use Rattle.spirv_words.specs.Blocks.{flow_of, next_block}
use Rattle.spirv_words.specs.Ids.{ids_of}
use Rattle.spirv_words.specs.Definitions.{results, Home, at_block, local_results, homes, used_at, is_at_home}
use Rattle.spirv_words.specs.Sections.{is_body, section_of}
use Rattle.spirv_words.specs.Text.{Instr}
use Rattle.spirv_symbols.specs.declared.symbol.Symbol.{Symbol}
use Rattle.spirv_symbols.specs.declared.entry.Entry.{Entry}
use Rattle.spirv_symbols.specs.Tables.{Has}
use Rattle.spirv_emit.specs.Code.{Typed, typed, In, known_by, known_behind, typed_result, AreTyped}
use Rattle.spirv_flow.specs.Labels.{labels_of, labels_in}
use Rattle.spirv_flow.specs.Lowers.{times}
use Rattle.spirv_flow.proofs.Numbers.{hit, hit_defined}
use Rattle.spirv_flow.proofs.FormEach.{each_append, each_mapped}
use Rattle.spirv_flow.proofs.FormKnown.{in_either}
use Rattle.spirv_flow.proofs.Composing.{in_right, times_append}
use Rattle.spirv_flow.proofs.FormNames.{in_front}
use Rattle.spirv_flow.proofs.FormUses.{IsSeen, uses_seen, typed_is_result}
use Rattle.spirv_flow.proofs.FormResults.{contained_in, in_times}

abbrev pub home : ℕ → ℕ → Home
home x b = record { id = x; block = b }

abbrev pub ids_at : List Home → List ℕ
ids_at hs = map (λ h. h.id) hs

-- HOW OFTEN an id has a home, and is a label
ids_both : (xs ys : List Home) → ids_at (xs ++ ys) ≡ ids_at xs ++ ids_at ys
ids_both [] ys = refl
ids_both (x ∷ xs) ys = ap (λ l. x.id ∷ l) (ids_both xs ys)

ids_in_block : (b : ℕ) (xs : List ℕ) → ids_at (at_block b xs) ≡ xs
ids_in_block b [] = refl
ids_in_block b (x ∷ xs) = ap (λ l. x ∷ l) (ids_in_block b xs)

here_few : (x : ℕ) (f : Flow) (rs : List ℕ) → hit x f ≤ times x rs → times x (local_results f rs) + times x (labels_of f) ≤ times x rs
here_few x (Label l) rs h = omega (arith, h)
here_few x Local rs h = omega arith
here_few x f rs h = omega arith

pub homes_few : (x : ℕ) (code : List Instr) (b : ℕ) → times x (ids_at (homes code b)) + times x (labels_in code) ≤ times x (results code)
homes_few x [] b = omega arith
homes_few x (i ∷ is) b =
    let f = flow_of i in
    let rs = (ids_of i).results in
    let here = here_few x f rs (hit_defined x (op_of i.op) i.operands) in
    let later = homes_few x is (next_block b f) in
    let own : times x (ids_at (at_block b (local_results f rs))) ≡ times x (local_results f rs) = ap (times x) (ids_in_block b (local_results f rs)) in
    let split = ap (times x) (ids_both (at_block b (local_results f rs)) (homes is (next_block b f)))
    ∙ times_append x (ids_at (at_block b (local_results f rs))) (ids_at (homes is (next_block b f))) in
    let labels = times_append x (labels_of f) (labels_in is) in
    let all = times_append x rs (results is) in
    omega (arith, here, later, own, split, labels, all)

id_in : (hs : List Home) (h : Home) → In hs h → In (ids_at hs) h.id
id_in [] h i = absurd i
id_in (k ∷ hs) h (inl e) = inl (ap (λ (y : Home). y.id) e)
id_in (k ∷ hs) h (inr i) = inr (id_in hs h i)

pub id_times : (hs : List Home) (h : Home) → In hs h → 1 ≤ times h.id (ids_at hs)
id_times hs h i = in_times (ids_at hs) h.id (id_in hs h i)

its_time : (y x : ℕ) → y ≡ x → times x (y ∷ []) ≡ 1
its_time y x e = grind (arith, nat_tests, e)

two_times : (k : Home) (hs : List Home) (x : ℕ) → k.id ≡ x → 1 ≤ times x (ids_at hs) → ((y : ℕ) → times y (ids_at (k ∷ hs)) ≤ 1) → ⊥
two_times k hs x e h few =
    let own = its_time k.id x e in
    let all = few x in
    omega (arith, own, all, h)

-- each id has one home
pub one_home : (hs : List Home) → ((x : ℕ) → times x (ids_at hs) ≤ 1) → (g h : Home) → In hs g → In hs h → g.id ≡ h.id → g ≡ h
one_home [] few g h i j e = absurd i
one_home (k ∷ hs) few g h (inl p) (inl q) e = sym p ∙ q
one_home (k ∷ hs) few g h (inl p) (inr j) e = absurd (two_times k hs h.id (ap (λ (y : Home). y.id) p ∙ e) (id_times hs h j) few)
one_home (k ∷ hs) few g h (inr i) (inl q) e = absurd (two_times k hs g.id (ap (λ (y : Home). y.id) q ∙ sym e) (id_times hs g i) few)
one_home (k ∷ hs) few g h (inr i) (inr j) e = one_home hs (λ x. let f = few x in omega (arith, f)) g h i j e

-- WHERE an id is used, its home is.
abbrev pub IsHome : List Home → Home → Type 0
IsHome hs at = (h : Home) → In hs h → at.id ≡ h.id → (h.block ≡ 0) ⊎ (at.block ≡ h.block)

home_test : (at h : Home) → (at.id ≡ h.id → (h.block ≡ 0) ⊎ (at.block ≡ h.block)) → is_at_home at h ≡ true
home_test at h f = by (nat_eq at.id h.id) refl where
  inside : (h.block ≡ 0) ⊎ (at.block ≡ h.block) → (nat_eq h.block 0 || nat_eq at.block h.block) ≡ true
  inside (inl e) = ap (λ b. b || nat_eq at.block h.block) (eq-eqb h.block 0 e)
  inside (inr e) = second (nat_eq h.block 0) (eq-eqb at.block h.block e) where
    second : (a : Bool) → nat_eq at.block h.block ≡ true → (a || nat_eq at.block h.block) ≡ true
    second true q = refl
    second false q = q

  by : (b : Bool) → nat_eq at.id h.id ≡ b → (not b || (nat_eq h.block 0 || nat_eq at.block h.block)) ≡ true
  by false e = refl
  by true e = inside (f (eqb-true at.id h.id e))

homes_test : (at : Home) (hs : List Home) → IsHome hs at → list_all (is_at_home at) hs ≡ true
homes_test at [] f = refl
homes_test at (h ∷ hs) f =
    and_from (is_at_home at h) (list_all (is_at_home at) hs) (home_test at h (f h (inl refl))) (homes_test at hs (λ k i. f k (inr i)))

pub all_at_home : (hs used : List Home) → Each (IsHome hs) used → list_all (λ at. list_all (is_at_home at) hs) used ≡ true
all_at_home hs [] h = refl
all_at_home hs (at ∷ used) h =
    and_from (list_all (is_at_home at) hs) (list_all (λ a. list_all (is_at_home a) hs) used) (homes_test at hs h.0) (all_at_home hs used h.1)

each_at : (P : Home → Type 0) (b : ℕ) (xs : List ℕ) → Each (λ x. P (home x b)) xs → Each P (at_block b xs)
each_at P b [] h = tt
each_at P b (x ∷ xs) h = (h.0, each_at P b xs h.1)

in_block : (b : ℕ) (xs : List ℕ) (x : ℕ) → In xs x → In (at_block b xs) (home x b)
in_block b [] x h = absurd h
in_block b (y ∷ xs) x (inl e) = inl (ap (λ z. home z b) e)
in_block b (y ∷ xs) x (inr h) = inr (in_block b xs x h)

module _ (names : List Entry) (globals : List Typed) (hs : List Home) (single : (g h : Home) → In hs g → In hs h → g.id ≡ h.id → g ≡ h)
    (symbols : (s : Symbol) (x : ℕ) (h : Home) → Has names s x → In hs h → x ≡ h.id → ⊥)
    (of_symbols : (x t : ℕ) → In globals (typed x t) → (s : Symbol) × Has names s x) where
  -- no home has the id
  abbrev pub IsNowhere : ℕ → Type 0
  IsNowhere x = (h : Home) → In hs h → x ≡ h.id → ⊥

  abbrev AreLocal : List Typed → ℕ → Type 0
  AreLocal known b = (x t : ℕ) → In known (typed x t) → ((s : Symbol) × Has names s x) ⊎ In hs (home x b)

  used_here : (known : List Typed) (b x : ℕ) → AreLocal known b → IsSeen names known x → IsHome hs (home x b)
  used_here known b x l (inl s) h i e = absurd (symbols s.0 x h s.1 i e)
  used_here known b x l (inr k) h i e =
      ⊎_elim (λ s. absurd (symbols s.0 x h s.1 i e)) (λ j. inr (ap (λ (y : Home). y.block) (single (home x b) h j i e))) (l x k.0 k.1)

  nowhere_here : (b x : ℕ) → IsNowhere x → IsHome hs (home x b)
  nowhere_here b x n h i e = absurd (n h i e)

  local_on : (f : Flow) (b : ℕ) (own known : List Typed) → (f ≡ Local → ⊥)
      → ((x t : ℕ) → In own (typed x t) → (f ≡ Local → ⊥) → ((l : ℕ) → f ≡ Label l → ⊥) → In hs (home x b))
      → AreLocal known b → AreLocal (known_by f globals (own ++ known)) (next_block b f)
  local_on (Label l) b own known n new old x t i = inl (of_symbols x t i)
  local_on Local b own known n new old x t i = absurd (n refl)
  local_on f b own known n new old x t i =
      ⊎_elim (λ j. inr (new x t j n (λ l e. absurd (cc)))) (λ j. old x t j) (in_either own known (typed x t) i)

  of_flow : (f : Flow) (rs : List ℕ) → (f ≡ Local → ⊥) → ((l : ℕ) → f ≡ Label l → ⊥) → local_results f rs ≡ rs
  of_flow (Label l) rs n k = absurd (k l refl)
  of_flow Local rs n k = absurd (n refl)
  of_flow f rs n k = refl

  pub used_at_home : (known : List Typed) (b : ℕ) (code : List Instr) → AreTyped names globals known code
      → Each (λ i. IsTrue (is_body (section_of i))) code → Each (λ i. flow_of i ≡ Local → ⊥) code → Each (λ i. Each IsNowhere (ids_of i).names) code
      → ((h : Home) → In (homes code b) h → In hs h) → AreLocal known b → Each (IsHome hs) (used_at code b)
  used_at_home known b [] t body flows named inside l = tt
  used_at_home known b (i ∷ is) t body flows named inside l =
      let f = flow_of i in
      let rs = (ids_of i).results in
      let here = at_block b (local_results f rs) in
      let rest = homes is (next_block b f) in
      each_append (IsHome hs) (at_block b ((ids_of i).uses ++ (ids_of i).names)) (used_at is (next_block b f))
      (each_at (IsHome hs) b ((ids_of i).uses ++ (ids_of i).names)
      (each_append (λ x. IsHome hs (home x b)) (ids_of i).uses (ids_of i).names
      (each_mapped (IsSeen names known) (λ x. IsHome hs (home x b)) (ids_of i).uses (λ x s. used_here known b x l s)
      (uses_seen names known i t.0 body.0))
      (each_mapped IsNowhere (λ x. IsHome hs (home x b)) (ids_of i).names (λ x n. nowhere_here b x n) named.0)))
      (used_at_home (known_behind globals known i) (next_block b f) is t.1 body.1 flows.1 named.1 (λ h j. inside h (in_right here rest h j))
      (local_on f b (typed_result i) known flows.0
      (λ x y own n k. inside (home x b) (in_front here rest (home x b)
      (in_block b (local_results f rs) x (subst (λ ys. In ys x) (sym (of_flow f rs n k))
      (contained_in rs x (typed_is_result i (typed x y) own)))))) l))
