-- What follows of a program from the rules that it does not break.
use Rattle.std.proofs.Common.{◌≡◌, ℕ, zero, suc, ◌+◌, ◌≤◌, Bool, true, false, not, List, [], ◌∷◌, ◌++◌, length, take, Option, Some, None, refl, sym, ap, subst, ◌∙◌, arith}
use Rattle.std.specs.Prelude.{nat_eq, nat_lt, nat_le, if◌then◌else◌, ◌&&◌, ◌||◌, sum_by, is_some, slice_get, filter, flat_map}
use Rattle.std.specs.List.{list_any}
use Rattle.std.proofs.lemmas.Bool.{false≢true, or_parts, and_parts, not-false, ltb-false, leb-true, le-leb}
use Rattle.std.proofs.lemmas.List.Sums.{sum_by-append}
use Rattle.word_base.specs.Rules.{broken}
use Rattle.word_base.specs.declared.rule.Rule.{Rule}
use Rattle.word_base.specs.declared.rule.Rule.TheVariants.{L1, L2, L3, L4, L5, L6, L7, L8}
use Rattle.word_base.specs.declared.rule.Refusal.{Refusal}
use Rattle.tpf_decode.specs.Opcodes.{meaning_of, form_of_meaning, roles_of}
use Rattle.tpf_decode.specs.Profiles.{Base}
use Rattle.tpf_decode.specs.declared.argument.Argument.{Argument}
use Rattle.tpf_decode.specs.declared.meaning.Meaning.{Meaning}
use Rattle.tpf_program.specs.Declarations.{declaration_refusals, refusals_from, refusals_at, is_past_limit, is_within, is_from_to, first_past, register_count, shared_bytes, same_thing, has_sizes, declares_group}
use Rattle.tpf_program.specs.Program.{Shader}
use Rattle.tpf_program.specs.Sizes.{first_size, temps_declared, elements_declared, vectors_declared, temps_of, elements_of, vectors_of}
use Rattle.tpf_program.specs.Spelling.{operands}
use Rattle.tpf_program.specs.Uses.{Use, uses, use_refusals, refusals_by, is_missing, is_past, is_other_view, is_thing, is_declared, declares, operand_uses, up_to}
use Rattle.tpf_program.specs.declared.declaration.Declaration.{Declaration}
use Rattle.tpf_program.specs.declared.declaration.Declaration.TheVariants as declaration
use Rattle.tpf_program.specs.declared.declaration.Declared.{Declared}
use Rattle.tpf_program.specs.declared.instruction.Instruction.{Instruction}
use Rattle.shader_tree.specs.Walks.{Each}
use Rattle.raise_operands.specs.Raises.{arity}

-- lists without elements, and rules that are not broken
left_empty : {X : Type 0} (xs ys : List X) → xs ++ ys ≡ [] → xs ≡ []
left_empty [] ys e = refl
left_empty (x ∷ xs) ys e = absurd (cc e)

right_empty : {X : Type 0} (xs ys : List X) → xs ++ ys ≡ [] → ys ≡ []
right_empty [] ys e = e
right_empty (x ∷ xs) ys e = absurd (cc e)

not_broken : (b : Bool) (rule : Rule) (place : ℕ) → broken b rule place ≡ [] → b ≡ false
not_broken true rule place e = absurd (cc e)
not_broken false rule place e = refl

-- USES
at_place : (f : Instruction → List Refusal) (is : List Instruction) (k : ℕ) (i : Instruction) → flat_map f is ≡ [] → slice_get is k ≡ Some i
    → f i ≡ []
at_place f [] k i e h = absurd (cc h)
at_place f (x ∷ xs) zero i e h = let x_is : x ≡ i = cc h in subst (λ y. f y ≡ []) x_is (left_empty (f x) (flat_map f xs) e)
at_place f (x ∷ xs) (suc k) i e h = at_place f xs k i (right_empty (f x) (flat_map f xs) e) h

kept_any : (t : Declared → Bool) (f : Declared → Bool) (ds : List Declared) → list_any f ds ≡ false → list_any f (filter t ds) ≡ false
kept_any t f [] e = refl
kept_any t f (d ∷ ds) e =
    let q = or_parts (f d) (list_any f ds) e in
    by_test (t d) q.0 (kept_any t f ds q.1)
  where
    by_test : (b : Bool) → f d ≡ false → list_any f (filter t ds) ≡ false → list_any f (if b then d ∷ filter t ds else filter t ds) ≡ false
    by_test true p r = ap (λ x. x || list_any f (filter t ds)) p ∙ r
    by_test false p r = r

found_more : (ds : List Declared) (place : ℕ) (u : Use) → is_missing (up_to place ds) u ≡ false → is_missing ds u ≡ false
found_more ds place u e = by_thing (is_thing u.kind) (is_declared ds u) refl e
  where
    by_thing : (b d : Bool) → is_declared ds u ≡ d → (b && not (is_declared (up_to place ds) u)) ≡ false → (b && not d) ≡ false
    by_thing false d p h = refl
    by_thing true true p h = refl
    by_thing true false p h =
        absurd (false≢true (sym (kept_any (λ d. nat_le d.place place) (λ d. declares d.what u.kind u.slot) ds p) ∙ not-false _ h))

none_missing : (ds : List Declared) (place : ℕ) (us : List Use) → list_any (is_missing (up_to place ds)) us ≡ false → list_any (is_missing ds) us ≡
    false
none_missing ds place [] e = refl
none_missing ds place (u ∷ us) e =
    let q = or_parts (is_missing (up_to place ds) u) (list_any (is_missing (up_to place ds)) us) e in
    ap (λ b. b || list_any (is_missing ds) us) (found_more ds place u q.0) ∙ none_missing ds place us q.1

any_split : (f : Use → Bool) (xs ys : List Use) → list_any f (xs ++ ys) ≡ false → (list_any f xs ≡ false) × (list_any f ys ≡ false)
any_split f [] ys e = (refl, e)
any_split f (x ∷ xs) ys e =
    let q = or_parts (f x) (list_any f (xs ++ ys)) e in
    let r = any_split f xs ys q.1 in
    (ap (λ b. b || list_any f xs) q.0 ∙ r.0, r.1)

each_used : (f : Use → Bool) (as' : List Argument) → list_any f (flat_map operand_uses as') ≡ false → Each (λ a. list_any f (operand_uses a) ≡ false)
    as'
each_used f [] e = tt
each_used f (a ∷ as') e = let q = any_split f (operand_uses a) (flat_map operand_uses as') e in (q.0, each_used f as' q.1)

meant : (p : Shader) (i : Instruction) (o : Option Meaning) → is_some o ≡ true → refusals_by p.typed (up_to i.place p.declarations) o i ≡ []
    → Each (λ a. list_any (is_missing p.declarations) (operand_uses a) ≡ false) (take (arity o) (operands i))
meant p i None h e = absurd (false≢true h)
meant p i (Some m) h e =
    each_used (is_missing p.declarations) (take (length (roles_of (form_of_meaning m))) (operands i))
    (none_missing p.declarations i.place (uses m i)
    (let missing = broken (list_any (is_missing (up_to i.place p.declarations)) (uses m i)) L5 i.place in
    let past = broken (list_any (is_past (up_to i.place p.declarations)) (uses m i)) L6 i.place in
    let view = broken (list_any (is_other_view p.typed (up_to i.place p.declarations) m) (uses m i)) L8 i.place in
    not_broken (list_any (is_missing (up_to i.place p.declarations)) (uses m i)) L5 i.place
    (left_empty missing past (left_empty (missing ++ past) view e))))

pub names : (p : Shader) (k : ℕ) (i : Instruction) (o : Option Meaning) → use_refusals Base p ≡ [] → slice_get p.instructions k ≡ Some i
    → meaning_of Base i.code ≡ o → is_some o ≡ true
    → Each (λ a. list_any (is_missing p.declarations) (operand_uses a) ≡ false) (take (arity o) (operands i))
names p k i o e h m s =
    meant p i o s (ap (λ x. refusals_by p.typed (up_to i.place p.declarations) x i) (sym m) ∙ at_place
    (λ j. refusals_by p.typed (up_to j.place p.declarations) (meaning_of Base j.code) j) p.instructions k i e h)

-- DECLARATIONS
sum_past : (n m : ℕ) → n ≤ 4096 → (nat_le (0 + n) 4096 && nat_lt 4096 (0 + n + m)) ≡ false → n + m ≤ 4096
sum_past n m h e =
    let t : nat_le (0 + n) 4096 ≡ true = le-leb (0 + n) 4096 (omega arith) in
    let f = ltb-false 4096 (0 + n + m) (sym (ap (λ b. b && nat_lt 4096 (0 + n + m)) t) ∙ e) in
    omega arith

-- each is within its limits, and declares few registers
abbrev IsFew : Declared → Type 0
IsFew d = (is_within d.what ≡ true) × (register_count d.what ≤ 4096)

all_few : (p : Shader) (before ds : List Declared) → sum_by (λ d. register_count d.what) before ≤ 4096 → refusals_from 0 p before ds ≡ []
    → Each IsFew ds
all_few p before [] h e = tt
all_few p before (d ∷ ds) h e =
    let here = left_empty (refusals_at 0 p before d) (refusals_from 0 p (before ++ d ∷ []) ds) e in
    let rest = right_empty (refusals_at 0 p before d) (refusals_from 0 p (before ++ d ∷ []) ds) e in
    let one = broken (list_any (λ e. same_thing e.what d.what) before) L1 d.place in
    let two = broken (list_any (λ i. nat_lt i.place d.place) p.instructions) L2 d.place in
    let last = broken (not (has_sizes d.what)) L7 d.place in
    let limits = broken (is_past_limit 0 before d.what) L3 d.place in
    let third = not_broken (is_past_limit 0 before d.what) L3 d.place
    (right_empty (one ++ two) limits (left_empty ((one ++ two) ++ limits) last here)) in
    let q = or_parts (not (is_within d.what)) (first_past 32768 0 shared_bytes before d.what || first_past 4096 0 register_count before d.what) third
    in
    let r = or_parts (first_past 32768 0 shared_bytes before d.what) (first_past 4096 0 register_count before d.what) q.1 in
    let s : sum_by (λ e. register_count e.what) before + register_count d.what ≤ 4096 = sum_past (sum_by (λ e. register_count e.what) before)
    (register_count d.what) h r.1 in
    let t = sum_by-append (λ e. register_count e.what) before (d ∷ []) in
    ((not-false (is_within d.what) q.0, omega arith), all_few p (before ++ d ∷ []) ds (omega arith) rest)

size_below : (size : Declaration → ℕ) → ((d : Declared) → IsFew d → size d.what ≤ 4096) → (ds : List Declared) → Each IsFew ds
    → first_size size ds ≤ 4096
size_below size f [] h = omega arith
size_below size f (d ∷ ds) h = by_test (nat_eq (size d.what) 0) (f d h.0) (size_below size f ds h.1)
  where
    by_test : (b : Bool) → size d.what ≤ 4096 → first_size size ds ≤ 4096 → (if b then first_size size ds else size d.what) ≤ 4096
    by_test true k l = l
    by_test false k l = k

temps_below : (what : Declaration) → register_count what ≤ 4096 → temps_declared what ≤ 4096
temps_below (declaration.Temps count) h = h
temps_below other h = omega arith

chosen_below : (b : Bool) (n : ℕ) → n ≤ 4096 → (if b then n else 0) ≤ 4096
chosen_below true n h = h
chosen_below false n h = omega arith

elements_below : (slot : ℕ) (what : Declaration) → register_count what ≤ 4096 → elements_declared slot what ≤ 4096
elements_below slot (declaration.Indexable s count components) h = chosen_below (nat_eq s slot) count h
elements_below slot other h = omega arith

vectors_below : (slot : ℕ) (what : Declaration) → is_within what ≡ true → vectors_declared slot what ≤ 4096
vectors_below slot (declaration.Constants s size) h =
    let q = and_parts (nat_lt s 14) (is_from_to 1 4096 size) h in
    let r = and_parts (nat_le 1 size) (nat_le size 4096) q.1 in
    chosen_below (nat_eq s slot) size (leb-true size 4096 r.1)
vectors_below slot other h = omega arith

pub few_declared : (p : Shader) → declaration_refusals 0 p ≡ [] → Each IsFew p.declarations
few_declared p e =
    all_few p [] p.declarations (omega arith)
    (left_empty (refusals_from 0 p [] p.declarations) (broken (not (list_any (λ d. declares_group d.what) p.declarations)) L4 p.words) e)

pub few_temps : (p : Shader) → Each IsFew p.declarations → temps_of p.declarations ≤ 4096
few_temps p h = size_below temps_declared (λ d k. temps_below d.what k.1) p.declarations h

pub few_elements : (p : Shader) (slot : ℕ) → Each IsFew p.declarations → elements_of slot p.declarations ≤ 4096
few_elements p slot h = size_below (elements_declared slot) (λ d k. elements_below slot d.what k.1) p.declarations h

pub few_vectors : (p : Shader) (slot : ℕ) → Each IsFew p.declarations → vectors_of slot p.declarations ≤ 4096
few_vectors p slot h = size_below (vectors_declared slot) (λ d k. vectors_below slot d.what k.0) p.declarations h
