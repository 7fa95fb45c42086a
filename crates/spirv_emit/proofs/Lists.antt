-- Lists of code: what stands where, which values are defined, what is known.
use Rattle.std.proofs.Common.{◌≡◌, ℕ, ◌+◌, ◌⊎◌, ⊎_elim, inl, inr, List, [], ◌∷◌, ◌++◌, length, refl, sym, ap, ◌∙◌, subst, arith, append_assoc}
use Rattle.std.specs.Prelude.{map, Bool, true, false, not, ◌&&◌, ◌||◌, IsTrue, nat_eq}
use Rattle.std.specs.List.{list_all}
use Rattle.std.proofs.lemmas.Bool.Decides.{nat_tests}
use Rattle.shader_tree.specs.Walks.{Each}
use Rattle.spirv_words.specs.Text.{Instr}
use Rattle.spirv_words.specs.Ids.{contains}
use Rattle.spirv_words.specs.Definitions.{are_distinct}
use Rattle.spirv_symbols.specs.declared.entry.Entry.{Entry}
use Rattle.spirv_emit.specs.Code.{In, Typed, values, typed_result, Defines, known_behind, behind, AreTyped}
use Rattle.spirv_emit.specs.Lanes.{HasAt}

pub code_front : (code : List Instr) (at : ℕ) (a b : List Instr) → HasAt code at (a ++ b) → HasAt code at a
code_front code at [] b h = tt
code_front code at (i ∷ a) b h = (h.0, code_front code (at + 1) a b h.1)

pub code_back : (code : List Instr) (at : ℕ) (a b : List Instr) → HasAt code at (a ++ b) → HasAt code (at + length a) b
code_back code at [] b h = let e : at ≡ at + 0 = omega arith in subst (λ n. HasAt code n b) e h
code_back code at (i ∷ a) b h =
    let e : at + 1 + length a ≡ at + length (i ∷ a) = omega arith in
    subst (λ n. HasAt code n b) e (code_back code (at + 1) a b h.1)

-- MEMBERS.
pub in_front : {X : Type 0} (xs ys : List X) (x : X) → In xs x → In (xs ++ ys) x
in_front [] ys x h = absurd h
in_front (z ∷ xs) ys x (inl e) = inl e
in_front (z ∷ xs) ys x (inr h) = inr (in_front xs ys x h)

pub in_back : {X : Type 0} (xs ys : List X) (x : X) → In ys x → In (xs ++ ys) x
in_back [] ys x h = h
in_back (z ∷ xs) ys x h = inr (in_back xs ys x h)

pub in_split : {X : Type 0} (xs ys : List X) (x : X) → In (xs ++ ys) x → In xs x ⊎ In ys x
in_split [] ys x h = inr h
in_split (z ∷ xs) ys x (inl e) = inl (inl e)
in_split (z ∷ xs) ys x (inr h) = ⊎_elim (λ a. inl (inr a)) inr (in_split xs ys x h)

pub each_append : {X : Type 0} (P : X → Type 0) (xs ys : List X) → Each P xs → Each P ys → Each P (xs ++ ys)
each_append P [] ys a b = b
each_append P (x ∷ xs) ys a b = (a.0, each_append P xs ys a.1 b)

pub each_front : {X : Type 0} (P : X → Type 0) (xs ys : List X) → Each P (xs ++ ys) → Each P xs
each_front P [] ys h = tt
each_front P (x ∷ xs) ys h = (h.0, each_front P xs ys h.1)

pub each_back : {X : Type 0} (P : X → Type 0) (xs ys : List X) → Each P (xs ++ ys) → Each P ys
each_back P [] ys h = h
each_back P (x ∷ xs) ys h = each_back P xs ys h.1

pub each_by : {X : Type 0} (P Q : X → Type 0) (xs : List X) → ((x : X) → P x → Q x) → Each P xs → Each Q xs
each_by P Q [] f h = tt
each_by P Q (x ∷ xs) f h = (f x h.0, each_by P Q xs f h.1)

-- VALUES that code defines.
pub values_append : (a b : List Instr) → values (a ++ b) ≡ values a ++ values b
values_append [] b = refl
values_append (i ∷ a) b =
    ap (λ l. map (λ x. x.id) (typed_result i) ++ l) (values_append a b)
    ∙ sym (append_assoc (map (λ x. x.id) (typed_result i)) (values a) (values b))

pub defines_front : (a b : List Instr) (id : ℕ) → Defines a id → Defines (a ++ b) id
defines_front a b id h = subst (λ l. In l id) (sym (values_append a b)) (in_front (values a) (values b) id h)

pub defines_back : (a b : List Instr) (id : ℕ) → Defines b id → Defines (a ++ b) id
defines_back a b id h = subst (λ l. In l id) (sym (values_append a b)) (in_back (values a) (values b) id h)

pub defines_split : (a b : List Instr) (id : ℕ) → Defines (a ++ b) id → Defines a id ⊎ Defines b id
defines_split a b id h = in_split (values a) (values b) id (subst (λ l. In l id) (values_append a b) h)

-- lists of distinct numbers that have none in common
pub and_join : (b c : Bool) → IsTrue b → IsTrue c → IsTrue (b && c)
and_join true true x y = refl
and_join true false x y = absurd (cc y)
and_join false c x y = absurd (cc x)

pub and_left : (b c : Bool) → IsTrue (b && c) → IsTrue b
and_left true c h = refl
and_left false c h = absurd (cc h)

pub and_right : (b c : Bool) → IsTrue (b && c) → IsTrue c
and_right true c h = h
and_right false c h = absurd (cc h)

pub all_append : {X : Type 0} (test : X → Bool) (xs ys : List X) → IsTrue (list_all test xs) → IsTrue (list_all test ys)
    → IsTrue (list_all test (xs ++ ys))
all_append test [] ys a b = b
all_append test (x ∷ xs) ys a b =
    and_join (test x) (list_all test (xs ++ ys)) (and_left (test x) (list_all test xs) a)
    (all_append test xs ys (and_right (test x) (list_all test xs) a) b)

contains_by : (b : Bool) (y x : ℕ) (xs : List ℕ) → nat_eq y x ≡ b → IsTrue (b || contains xs x) → (IsTrue (contains xs x) → In xs x) → In (y ∷ xs) x
contains_by true y x xs e h f = inl (grind (arith, nat_tests, e))
contains_by false y x xs e h f = inr (f h)

pub contains_in : (xs : List ℕ) (x : ℕ) → IsTrue (contains xs x) → In xs x
contains_in [] x h = absurd (cc h)
contains_in (y ∷ xs) x h = contains_by (nat_eq y x) y x xs refl h (contains_in xs x)

not_true : (b : Bool) → (IsTrue b → ⊥) → IsTrue (not b)
not_true true f = absurd (f refl)
not_true false f = refl

pub true_not : (b : Bool) → IsTrue (not b) → IsTrue b → ⊥
true_not true h k = cc h
true_not false h k = cc k

pub in_contains : (xs : List ℕ) (x : ℕ) → In xs x → IsTrue (contains xs x)
in_contains [] x h = absurd h
in_contains (y ∷ xs) x (inl e) = let q : nat_eq y x ≡ true = grind (arith, nat_tests, e) in rw q refl
in_contains (y ∷ xs) x (inr h) = or_back (nat_eq y x) (contains xs x) (in_contains xs x h) where
  or_back : (b c : Bool) → IsTrue c → IsTrue (b || c)
  or_back true c k = refl
  or_back false c k = k

pub distinct_append : (xs ys : List ℕ) → IsTrue (are_distinct xs) → IsTrue (are_distinct ys) → ((x : ℕ) → In xs x → In ys x → ⊥)
    → IsTrue (are_distinct (xs ++ ys))
distinct_append [] ys a b f = b
distinct_append (x ∷ xs) ys a b f =
    let n = and_left (not (contains xs x)) (are_distinct xs) a in
    let here : IsTrue (not (contains (xs ++ ys) x)) = not_true (contains (xs ++ ys) x) (λ h.
    ⊎_elim (λ i. true_not (contains xs x) n (in_contains xs x i)) (λ i. f x (inl refl) i)
    (in_split xs ys x (contains_in (xs ++ ys) x h))) in
    and_join (not (contains (xs ++ ys) x)) (are_distinct (xs ++ ys)) here
    (distinct_append xs ys (and_right (not (contains xs x)) (are_distinct xs) a) b (λ y i j. f y (inr i) j))

-- ALL that is known is known behind code too, and what it takes.
pub behind_append : (g k : List Typed) (x y : List Instr) → behind g k (x ++ y) ≡ behind g (behind g k x) y
behind_append g k [] y = refl
behind_append g k (i ∷ x) y = behind_append g (known_behind g k i) x y

pub typed_append : (names : List Entry) (g k : List Typed) (x y : List Instr)
    → AreTyped names g k x → AreTyped names g (behind g k x) y → AreTyped names g k (x ++ y)
typed_append names g k [] y a b = b
typed_append names g k (i ∷ x) y a b = (a.0, typed_append names g (known_behind g k i) x y a.1 b)
