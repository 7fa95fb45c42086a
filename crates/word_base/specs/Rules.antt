-- Rules, and which of the broken ones counts. The phases are those of the translator, one after the other: the sizes of the
-- files and the container (2), the head of the program (3), its size (4), its tokens (5), its declarations (6), its structure (7),
-- its size with the words that its typed views grow to (8), the bindings (9), their completeness (10), the dispatch (11), and
-- modules, their texts and batches (12).
use Rattle.std.specs.Prelude.{◌≡◌, ℕ, nat_le, if◌then◌else◌, Bool, true, false, List, [], ◌∷◌, Option, Some, None, refl, ⊤, ◌⊎◌, codes, map, slice_get}
use denote.Enum.Declared.{tag_of}
use Rattle.word_base.specs.contracts.rule.Rule.{the_type}
use Rattle.word_base.specs.declared.rule.TheConstants.{ROWS}
use Rattle.word_base.specs.declared.rule.Rule.{Rule}
use Rattle.word_base.specs.declared.rule.Rule.TheVariants.{C1, C4, C5, C6, G6, K3, K4, K11, K15, K16, L1, M2, M3, S9, Z3}
use Rattle.word_base.specs.declared.rule.Refusal.{Refusal}
use Rattle.word_base.specs.declared.rule.Halt.{Halt}
use Rattle.word_base.specs.declared.rule.Halt.TheVariants.{Refused, NoMemory}
use Rattle.word_base.specs.Firsts.{comes_before_by, earlier_by, first_by}
pub use Rattle.word_base.specs.Firsts.{Key, is_below}

-- when a rule is tested: its phase, and its number among the rules of the phase
pub record Order : Type 0 where
  pub phase : ℕ
  pub number : ℕ

abbrev pub tested : ℕ → ℕ → Order
tested phase number = record { phase = phase; number = number }

-- The rule's row of the table, whose rows stand as the rules are declared: its name, its text, its phase and its number.
abbrev pub Row : Type 0
Row = List ℕ × List ℕ × ℕ × ℕ

abbrev pub rows : List Row
rows = map (λ row. (row.0.now, row.1.now, row.2, row.3)) ROWS

abbrev pub row_of : Rule → Option Row
row_of rule = slice_get rows (tag_of the_type rule)

abbrev pub order_in : Option Row → Order
order_in None = tested 0 0
order_in (Some row) = tested row.2 row.3

-- M1 stands before the container's rules, M2 before M4, G6 before the rules of root signatures, and M3 behind the rules of
-- structure.
abbrev pub order_of : Rule → Order
order_of rule = order_in (row_of rule)

abbrev pub name_in : Option Row → List ℕ
name_in None = []
name_in (Some row) = row.0

abbrev pub text_in : Option Row → List ℕ
text_in None = []
text_in (Some row) = row.1

-- how a rule is printed: its name, and what stands behind its place
abbrev pub name_of : Rule → List ℕ
name_of rule = name_in (row_of rule)

abbrev pub text_of : Rule → List ℕ
text_of rule = text_in (row_of rule)

-- M2 has a second part, on the words that a program of typed views grows to. It is tested behind the structure.
abbrev pub order_of_growth : Order
order_of_growth = tested 8 0

abbrev pub refusal : Rule → ℕ → Refusal
refusal rule place = record { rule = rule; place = place }

-- a rule that is broken there where the test says so
abbrev pub broken : Bool → Rule → ℕ → List Refusal
broken test rule place = if test then refusal rule place ∷ [] else []

-- up to the head of the program the number goes before the place, and from then on the place before the number
abbrev pub key_by : Order → ℕ → Key
key_by order place =
    if nat_le order.phase 3 then record { phase = order.phase; first = order.number; second = place }
    else record { phase = order.phase; first = place; second = order.number }

abbrev pub key_of : Refusal → Key
key_of r = key_by (order_of r.rule) r.place

abbrev pub comes_before : Refusal → Refusal → Bool
comes_before a b = comes_before_by key_of a b

-- Of the refusals that are broken this one comes first.
pub record IsFirst (broken : Refusal → Type 0) (r : Refusal) : Type 0 where
  pub is_broken : broken r
  pub is_least : (q : Refusal) → broken q → comes_before q r ≡ false

-- no rule is broken
abbrev pub IsSound : (Refusal → Type 0) → Type 0
IsSound broken = (q : Refusal) → broken q → ⊥

-- Rules with the second part of M2 behind them: that is broken where nothing before it is.
abbrev pub WithGrowth : (Refusal → Type 0) → Type 0 → Refusal → Type 0
WithGrowth broken grows r = broken r ⊎ (IsSound broken × grows × (r ≡ refusal M2 1))

-- Why a call that reads an input stopped: by the first broken rule, or for want of memory, of which nothing is said.
abbrev pub HaltsBy : (Refusal → Type 0) → Halt → Type 0
HaltsBy broken (Refused r) = IsFirst broken r
HaltsBy broken NoMemory = ⊤

-- the first of a list of broken rules
abbrev pub earlier : Refusal → Option Refusal → Refusal
earlier a o = earlier_by key_of a o

abbrev pub first : List Refusal → Option Refusal
first qs = first_by key_of qs

-- Examples: of a phase before the head of the program the lower number counts, later on the lower place; M3 yields to S9.
pub number_first : first (refusal C6 8 ∷ refusal C4 24 ∷ refusal C5 28 ∷ []) ≡ Some (refusal C4 24)
number_first = refl

pub place_first : first (refusal K4 9 ∷ refusal K11 6 ∷ refusal K3 6 ∷ refusal L1 2 ∷ []) ≡ Some (refusal K3 6)
place_first = refl

pub structure_before_nesting : first (refusal M3 136 ∷ refusal S9 136 ∷ []) ≡ Some (refusal S9 136)
structure_before_nesting = refl

-- a program that grows too long: behind a nesting that is too deep, before a root signature without a version
pub growth_behind_nesting : is_below (key_of (refusal M3 136)) (key_by order_of_growth 1) ≡ true
growth_behind_nesting = refl

pub growth_before_bindings : is_below (key_by order_of_growth 1) (key_of (refusal G6 0)) ≡ true
growth_before_bindings = refl

-- how rules are printed
pub printed_container : (name_of C1 ≡ codes "C1") × (text_of C1 ≡ codes "container shorter than 32 bytes")
printed_container = (refl, refl)

pub printed_batch : (name_of Z3 ≡ codes "Z3") × (text_of Z3 ≡ codes "batch line not read")
printed_batch = (refl, refl)

-- a typed view behind a global flag in one place, and both before a declaration
pub typed_view_behind_flags : first (refusal K16 5 ∷ refusal L1 2 ∷ refusal K15 5 ∷ []) ≡ Some (refusal K15 5)
typed_view_behind_flags = refl
