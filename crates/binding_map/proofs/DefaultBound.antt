-- The default map of a program whose declarations break no rule binds each constant buffer.
use Rattle.std.proofs.Common.{◌≡◌, ℕ, zero, suc, ◌+◌, ◌<◌, ◌≤◌, Bool, true, false, ◌&&◌, ◌||◌, not, cond, List, [], ◌∷◌, ◌++◌, map, filter, slice_get, Option, Some, None, is_none, refl, ap, sym, ◌∙◌, subst, arith, nat_eq, nat_lt, true≢false, find}
use Rattle.std.specs.List.{list_any, range_with_len}
use Rattle.std.specs.Option.{option_map}
use Rattle.std.proofs.lemmas.List.Folds.{list_any-append}
use Rattle.word_base.specs.declared.rule.Rule.{Rule}
use Rattle.word_base.specs.declared.rule.Rule.TheVariants.{L1, L2, L3, L4, L7, B1}
use Rattle.word_base.specs.Rules.{broken, refusal}
use Rattle.tpf_program.specs.declared.declaration.Declaration.{Declaration}
use Rattle.tpf_program.specs.declared.declaration.Declaration.TheVariants.{Flags, Constants, Resource, Uav, Shared, Input, Temps, Indexable, Group, ImmediateConstants}
use Rattle.tpf_program.specs.declared.declaration.Declared.{Declared}
use Rattle.tpf_program.specs.Declarations.{same_thing, is_past_limit, is_within, is_from_to, has_sizes, declares_group, refusals_at, refusals_from, declaration_refusals}
use Rattle.tpf_program.specs.Extents.{is_resource, is_uav}
use Rattle.tpf_program.specs.Program.{Shader}
use Rattle.binding_map.specs.declared.register.Register.{Register}
use Rattle.binding_map.specs.declared.register.Register.TheVariants as register
use Rattle.binding_map.specs.Bindings.{Binding, place_of, same_register}
use Rattle.binding_map.specs.Completeness.{is_unbound, binding_refusals}
use Rattle.binding_map.proofs.Marked.{or_true}
use Rattle.binding_map.specs.Defaults.{is_constants, declared_slots, counter_slots, default_registers, numbered, default_map}

-- LISTS OF REFUSALS that are empty
front : {X : Type 0} (xs ys : List X) → xs ++ ys ≡ [] → xs ≡ []
front [] ys h = refl
front (x ∷ xs) ys h = absurd cc

back : {X : Type 0} (xs ys : List X) → xs ++ ys ≡ [] → ys ≡ []
back [] ys h = h
back (x ∷ xs) ys h = absurd cc

passed : (test : Bool) (rule : Rule) (place : ℕ) → broken test rule place ≡ [] → test ≡ false
passed true rule place h = absurd cc
passed false rule place h = refl

is_inside : (within others : Bool) → (not within || others) ≡ false → within ≡ true
is_inside true others h = refl
is_inside false others h = absurd cc

within_from : (p : Shader) (before ds : List Declared) → refusals_from 0 p before ds ≡ [] → (i : ℕ) (d : Declared) → slice_get ds i ≡ Some d
    → is_within d.what ≡ true
within_from p before [] sound i d h = absurd cc
within_from p before (e ∷ ds) sound zero d h =
    let same : e ≡ d = cc in
    let first = broken (list_any (λ f. same_thing f.what e.what) before) L1 e.place ++ broken (list_any (λ i. nat_lt i.place e.place) p.instructions) L2 e.place in
    let limit = broken (is_past_limit 0 before e.what) L3 e.place in
    let none : limit ≡ [] =
    back first limit (front (first ++ limit) (broken (not (has_sizes e.what)) L7 e.place) (front (refusals_at 0 p before e) (refusals_from 0 p (before ++ e ∷ []) ds) sound)) in
    subst (λ (f : Declared). is_within f.what ≡ true) same (is_inside (is_within e.what) _ (passed (is_past_limit 0 before e.what) L3 e.place none))
within_from p before (e ∷ ds) sound (suc i) d h =
    within_from p (before ++ e ∷ []) ds (back (refusals_at 0 p before e) (refusals_from 0 p (before ++ e ∷ []) ds) sound) i d h

-- A REGISTER THAT IS NUMBERED has a place
found_place : (test : Bool) (b : Binding) (rest : Option Binding)
    → is_none (option_map (λ c. c.place) (cond test (Some b) rest)) ≡ not (test || not (is_none (option_map (λ c. c.place) rest)))
found_place true b rest = refl
found_place false b None = refl
found_place false b (Some c) = refl

placed : (r : Register) (n : ℕ) (rs : List Register) → is_none (place_of (numbered n rs) r) ≡ not (list_any (same_register r) rs)
placed r n [] = refl
placed r n (s ∷ rs) =
    found_place (same_register r s) _ (find (λ b. same_register r b.register) (numbered (n + 1) rs))
    ∙ (ap (λ t. not (same_register r s || not t)) (placed r (n + 1) rs) ∙ ap (λ t. not (same_register r s || t)) (twice (list_any (same_register r) rs)))
  where
    twice : (b : Bool) → not (not b) ≡ b
    twice true = refl
    twice false = refl

abbrev any_of : ℕ → List ℕ → Bool
any_of slot slots = list_any (same_register (register.Constant slot)) (map register.Constant slots)

here : (a slot : ℕ) (rest : List ℕ) → nat_eq a slot ≡ true → any_of slot (a ∷ rest) ≡ true
here a slot rest e =
    let same : nat_eq slot a ≡ true = grind (arith, e) in
    ap (λ b. b || any_of slot rest) same

later : (test : Bool) (a slot : ℕ) (rest : List ℕ) → any_of slot rest ≡ true → any_of slot (cond test (a ∷ rest) rest) ≡ true
later true a slot rest h = ap (λ b. nat_eq slot a || b) h ∙ or_true (nat_eq slot a)
later false a slot rest h = h

-- a slot that the test takes is among those that are chosen
chosen : (test : ℕ → Bool) (slot a n : ℕ) → a ≤ slot → slot < a + n → test slot ≡ true → any_of slot (filter test (range_with_len a n)) ≡ true
chosen test slot a zero low high t = absurd (omega (arith, low, high))
chosen test slot a (suc n) low high t =
    by (λ apart. chosen test slot (a + 1) n (omega (arith, low, apart)) (omega (arith, high)) t) (nat_eq a slot) refl
  where
    rest : List ℕ
    rest = filter test (range_with_len (a + 1) n)

    by : ((a ≡ slot → ⊥) → any_of slot rest ≡ true) → (b : Bool) → nat_eq a slot ≡ b → any_of slot (cond (test a) (a ∷ rest) rest) ≡ true
    by onward true e =
        let same : a ≡ slot = grind (arith, e) in
        ap (λ b. any_of slot (cond b (a ∷ rest) rest)) (ap test same ∙ t) ∙ here a slot rest e
    by onward false e =
        let apart : a ≡ slot → ⊥ = λ h. true≢false (sym (let q : nat_eq a slot ≡ true = grind (arith, h) in q) ∙ e) in
        later (test a) a slot rest (onward apart)

declares : (slot size : ℕ) (ds : List Declared) (i : ℕ) (d : Declared) → slice_get ds i ≡ Some d → d.what ≡ Constants slot size
    → list_any (λ e. is_constants slot e.what) ds ≡ true
declares slot size [] i d h e = absurd cc
declares slot size (f ∷ ds) zero d h e =
    let same : f ≡ d = cc in
    let first : is_constants slot f.what ≡ true =
    ap (λ (g : Declared). is_constants slot g.what) same ∙ (ap (is_constants slot) e ∙ (let q : nat_eq slot slot ≡ true = grind arith in q)) in
    ap (λ b. b || list_any (λ g. is_constants slot g.what) ds) first
declares slot size (f ∷ ds) (suc i) d h e =
    ap (λ b. is_constants slot f.what || b) (declares slot size ds i d h e) ∙ or_true (is_constants slot f.what)

-- a declared constant buffer of a slot below 14 has a place in the default map
constant_placed : (p : Shader) (slot : ℕ) → slot < 14 → list_any (λ e. is_constants slot e.what) p.declarations ≡ true
    → is_none (place_of (default_map p) (register.Constant slot)) ≡ false
constant_placed p slot low any =
    placed (register.Constant slot) 0 (default_registers p) ∙ ap not (in_first A B C D among)
  where
    A : List Register
    A = map register.Constant (declared_slots 14 is_constants p)

    B : List Register
    B = map register.Resource (declared_slots 128 is_resource p)

    C : List Register
    C = map register.Uav (declared_slots 64 is_uav p)

    D : List Register
    D = map register.Counter (counter_slots p)

    test : Register → Bool
    test = same_register (register.Constant slot)

    among : list_any test A ≡ true
    among = chosen (λ s. list_any (λ d. is_constants s d.what) p.declarations) slot 0 14 (omega arith) (omega (arith, low)) any

    in_first : (A B C D : List Register) → list_any test A ≡ true → list_any test (A ++ B ++ C ++ D) ≡ true
    in_first A B C D h =
        list_any-append test (A ++ B ++ C) D ∙ ap (λ b. b || list_any test D)
        (list_any-append test (A ++ B) C ∙ ap (λ b. b || list_any test C) (list_any-append test A B ∙ ap (λ b. b || list_any test B) h))

first_part : (a b : Bool) → (a && b) ≡ true → a ≡ true
first_part true b h = refl
first_part false b h = absurd cc

bound_by : (p : Shader) (i : ℕ) (d : Declared) → slice_get p.declarations i ≡ Some d → is_within d.what ≡ true → (what : Declaration) → d.what ≡ what
    → is_unbound (default_map p) what ≡ false
bound_by p i d h within (Constants slot size) e =
    let inside : (nat_lt slot 14 && is_from_to 1 4096 size) ≡ true = sym (ap is_within e) ∙ within in
    let test : nat_lt slot 14 ≡ true = first_part (nat_lt slot 14) (is_from_to 1 4096 size) inside in
    let low : slot < 14 = grind (arith, test) in
    constant_placed p slot low (declares slot size p.declarations i d h e)
bound_by p i d h within (Flags flags) e = refl
bound_by p i d h within (Resource slot view) e = refl
bound_by p i d h within (Uav slot view coherent ordered) e = refl
bound_by p i d h within (Shared slot kind) e = refl
bound_by p i d h within (Input kind select) e = refl
bound_by p i d h within (Temps count) e = refl
bound_by p i d h within (Indexable slot count components) e = refl
bound_by p i d h within (Group x y z) e = refl
bound_by p i d h within (ImmediateConstants vectors) e = refl

none_left : (test : Declared → Bool) (ds : List Declared) → ((i : ℕ) (d : Declared) → slice_get ds i ≡ Some d → test d ≡ false) → filter test ds ≡ []
none_left test [] h = refl
none_left test (d ∷ ds) h =
    ap (λ b. cond b (d ∷ filter test ds) (filter test ds)) (h 0 d refl) ∙ none_left test ds (λ i e at_i. h (suc i) e at_i)

pub default_bound : (p : Shader) → declaration_refusals 0 p ≡ [] → binding_refusals p (default_map p) ≡ []
default_bound p sound =
    let within : (i : ℕ) (d : Declared) → slice_get p.declarations i ≡ Some d → is_within d.what ≡ true =
    within_from p [] p.declarations (front (refusals_from 0 p [] p.declarations) (broken (not (list_any (λ d. declares_group d.what) p.declarations)) L4 p.words) sound) in
    ap (map (λ d. refusal B1 d.place))
    (none_left (λ d. is_unbound (default_map p) d.what) p.declarations (λ i d h. bound_by p i d h (within i d h) d.what refl))
