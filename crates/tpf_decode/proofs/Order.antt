-- The first of refusals of tokens, whose places rise.
use Rattle.std.proofs.Common.{◌≡◌, ℕ, ◌+◌, ◌<◌, ◌≤◌, List, [], ◌∷◌, ◌++◌, Option, Some, None, Bool, true, false, refl, ap, ◌∙◌, arith, append_assoc}
use Rattle.std.specs.Prelude.{if◌then◌else◌}
use Rattle.std.proofs.lemmas.Bool.Decides.{nat_tests}
use Rattle.word_base.specs.declared.rule.Rule.{Rule}
use Rattle.word_base.specs.declared.rule.Refusal.{Refusal}
use Rattle.word_base.specs.Rules.{broken, Order, order_of, key_by, is_below, comes_before, refusal, earlier, first}
use Rattle.tpf_decode.specs.Refusals.{StandsFrom, Test, broken_at, first_rule}

below_later : (o p : Order) (m n : ℕ) → o.phase ≡ 5 → p.phase ≡ 5 → n < m → is_below (key_by o m) (key_by p n) ≡ false
below_later o p m n h k l = grind (arith, nat_tests)

below_higher : (o p : Order) (m : ℕ) → o.phase ≡ 5 → p.phase ≡ 5 → p.number ≤ o.number → is_below (key_by o m) (key_by p m) ≡ false
below_higher o p m h k l = grind (arith, nat_tests)

-- none of them comes before the refusal
abbrev pub NotBefore : Refusal → List Refusal → Type 0
NotBefore r [] = Unit {0}
NotBefore r (q ∷ qs) = (comes_before q r ≡ false) × NotBefore r qs

abbrev NoneBefore : Refusal → Option Refusal → Type 0
NoneBefore r None = Unit {0}
NoneBefore r (Some q) = comes_before q r ≡ false

none_earlier : (r q : Refusal) (o : Option Refusal) → comes_before q r ≡ false → NoneBefore r o → NoneBefore r (Some (earlier q o))
none_earlier r q None h k = h
none_earlier r q (Some b) h k =
    elim (comes_before b q) as (λ t. comes_before (if t then b else q) r ≡ false) [ true ↦ k | false ↦ h ]

none_before : (r : Refusal) (qs : List Refusal) → NotBefore r qs → NoneBefore r (first qs)
none_before r [] h = tt
none_before r (q ∷ qs) h = none_earlier r q (first qs) h.0 (none_before r qs h.1)

earlier_itself : (r : Refusal) (o : Option Refusal) → NoneBefore r o → earlier r o ≡ r
earlier_itself r None h = refl
earlier_itself r (Some q) h = ap (λ t. if t then q else r) h

-- a refusal that none comes before is the first
pub first_kept : (r : Refusal) (qs : List Refusal) → NotBefore r qs → first (r ∷ qs) ≡ Some r
first_kept r qs h = ap (λ x. Some x) (earlier_itself r (first qs) (none_before r qs h))

-- the first of a test and of what does not come before it
pub first_broken : (t : Bool) (rule : Rule) (at : ℕ) (qs : List Refusal) → NotBefore (refusal rule at) qs
    → first (broken t rule at ++ qs) ≡ (if t then Some (refusal rule at) else first qs)
first_broken true rule at qs h = first_kept (refusal rule at) qs h
first_broken false rule at qs h = refl

pub NotBefore-append : (r : Refusal) (ps qs : List Refusal) → NotBefore r ps → NotBefore r qs → NotBefore r (ps ++ qs)
NotBefore-append r [] qs h k = k
NotBefore-append r (p ∷ ps) qs h k = (h.0, NotBefore-append r ps qs h.1 k)

-- what stands behind a place does not come before a refusal there
pub behind_place : (rule : Rule) (at : ℕ) (qs : List Refusal) → (order_of rule).phase ≡ 5 → StandsFrom (at + 1) qs → NotBefore (refusal rule at) qs
behind_place rule at [] h k = tt
behind_place rule at (q ∷ qs) h k =
    (below_later (order_of q.rule) (order_of rule) q.place at k.0 h (omega (arith, k.1)), behind_place rule at qs h k.2)

-- a test of the same place whose rule has no lower number
pub same_place : (lower rule : Rule) (at : ℕ) (t : Bool) → (order_of lower).phase ≡ 5 → (order_of rule).phase ≡ 5 → (order_of lower).number ≤ (order_of rule).number
    → NotBefore (refusal lower at) (broken t rule at)
same_place lower rule at true h k l = (below_higher (order_of rule) (order_of lower) at k h l, tt)
same_place lower rule at false h k l = tt

pub StandsFrom-append : (at : ℕ) (ps qs : List Refusal) → StandsFrom at ps → StandsFrom at qs → StandsFrom at (ps ++ qs)
StandsFrom-append at [] qs h k = k
StandsFrom-append at (p ∷ ps) qs h k = (h.0, h.1, StandsFrom-append at ps qs h.2 k)

pub stands_earlier : (low high : ℕ) (qs : List Refusal) → low ≤ high → StandsFrom high qs → StandsFrom low qs
stands_earlier low high [] l h = tt
stands_earlier low high (q ∷ qs) l h = (h.0, omega (arith, h.1), stands_earlier low high qs l h.2)

pub StandsFrom-broken : (t : Bool) (rule : Rule) (at : ℕ) → (order_of rule).phase ≡ 5 → StandsFrom at (broken t rule at)
StandsFrom-broken true rule at h = (h, omega arith, tt)
StandsFrom-broken false rule at h = tt

-- Tests whose rules are of the phase of tokens and have rising numbers, none below that one.
abbrev pub IsRising : ℕ → List Test → Type 0
IsRising low [] = Unit {0}
IsRising low (test ∷ tests) = ((order_of test.rule).phase ≡ 5) × (low ≤ (order_of test.rule).number) × IsRising (order_of test.rule).number tests

rising_kept : (rule : Rule) (at low : ℕ) (tests : List Test) → (order_of rule).phase ≡ 5 → (order_of rule).number ≤ low → IsRising low tests → NotBefore (refusal rule at) (broken_at at tests)
rising_kept rule at low [] h l r = tt
rising_kept rule at low (test ∷ tests) h l r =
    let k : (order_of rule).number ≤ (order_of test.rule).number = omega (arith, r.1) in
    NotBefore-append (refusal rule at) (broken test.holds test.rule at) (broken_at at tests)
    (same_place rule test.rule at test.holds h r.0 k) (rising_kept rule at (order_of test.rule).number tests h k r.2)

-- the refusal by a rule, or another one
abbrev pub by_rule : Option Rule → ℕ → Option Refusal → Option Refusal
by_rule None at other = other
by_rule (Some rule) at other = Some (refusal rule at)

chosen : (b : Bool) (rule : Rule) (at : ℕ) (other : Option Rule) (o behind : Option Refusal) → o ≡ by_rule other at behind
    → (if b then Some (refusal rule at) else o) ≡ by_rule (if b then Some rule else other) at behind
chosen true rule at other o behind h = refl
chosen false rule at other o behind h = h

-- the first of tests of one place and of what stands behind it
pub first_of_tests : (low at : ℕ) (tests : List Test) (qs : List Refusal) → IsRising low tests → StandsFrom (at + 1) qs
    → first (broken_at at tests ++ qs) ≡ by_rule (first_rule tests) at (first qs)
first_of_tests low at [] qs r h = refl
first_of_tests low at (test ∷ tests) qs r h =
    ap first (append_assoc (broken test.holds test.rule at) (broken_at at tests) qs)
    ∙ (first_broken test.holds test.rule at (broken_at at tests ++ qs)
    (NotBefore-append (refusal test.rule at) (broken_at at tests) qs
    (rising_kept test.rule at (order_of test.rule).number tests r.0 (omega arith) r.2)
    (behind_place test.rule at qs r.0 h))
    ∙ chosen test.holds test.rule at (first_rule tests) (first (broken_at at tests ++ qs)) (first qs) (first_of_tests (order_of test.rule).number at tests qs r.2 h))

pub StandsFrom-tests : (at low : ℕ) (tests : List Test) → IsRising low tests → StandsFrom at (broken_at at tests)
StandsFrom-tests at low [] r = tt
StandsFrom-tests at low (test ∷ tests) r =
    StandsFrom-append at (broken test.holds test.rule at) (broken_at at tests) (StandsFrom-broken test.holds test.rule at r.0) (StandsFrom-tests at (order_of test.rule).number tests r.2)

-- tests of which none holds
pub none_holds : (b : Bool) (rule : Rule) (tests : List Test) → first_rule (record { holds = b; rule = rule } ∷ tests) ≡ None → (b ≡ false) × (first_rule tests ≡ None)
none_holds true rule tests h = cc
none_holds false rule tests h = (refl, h)

pub no_tests : (at : ℕ) (tests : List Test) → first_rule tests ≡ None → broken_at at tests ≡ []
no_tests at [] h = refl
no_tests at (test ∷ tests) h =
    let k = none_holds test.holds test.rule tests h in
    ap (λ b. broken b test.rule at ++ broken_at at tests) k.0 ∙ no_tests at tests k.1
