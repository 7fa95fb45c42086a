-- The conditions on ids and their sorts (SPIR-V specification, unified1, sections 2.4 and 2.16, Universal Validation Rules).
use Rattle.std.specs.Prelude.{ℕ, nat_eq, nat_lt, Bool, true, false, ◌&&◌, ◌||◌, not, List, [], ◌∷◌, ◌++◌, filter, Option}
use Rattle.std.specs.Cmp.Lexicographic.{pointwise}
use Rattle.std.specs.List.{list_any, list_all}
use Rattle.spirv_words.specs.Roles.{Defined, ATypeOnce, Flow, Label, Local}
use Rattle.spirv_words.specs.Operations.{Op, op_of}
use Rattle.spirv_words.specs.Text.{Instr}
use Rattle.spirv_words.specs.Ids.{ids_of, defined_by, contains}
use Rattle.spirv_words.specs.Operands.{is_sorted}
use Rattle.spirv_words.specs.Blocks.{flow_of, next_block}

-- SINGLE DEFINITION. Every id is above 0, below the bound and defined once, and in front of its uses. Entry points, modes, decorations,
-- merges and branches may name an id that is defined later.
abbrev pub results : List Instr → List ℕ
results [] = []
results (i ∷ is) = (ids_of i).results ++ results is

abbrev pub are_distinct : List ℕ → Bool
are_distinct [] = true
are_distinct (x ∷ xs) = not (contains xs x) && are_distinct xs

abbrev pub is_id : ℕ → ℕ → Bool
is_id bound x = nat_lt 0 x && nat_lt x bound

-- the ids that are used are among those seen or defined in front
abbrev pub uses_follow : List ℕ → List Instr → Bool
uses_follow seen [] = true
uses_follow seen (i ∷ is) = list_all (contains seen) (ids_of i).uses && uses_follow ((ids_of i).results ++ seen) is

abbrev pub names_are_among : List ℕ → List Instr → Bool
names_are_among xs code = list_all (λ i. list_all (contains xs) (ids_of i).names) code

abbrev pub has_single_definitions : ℕ → List Instr → Bool
has_single_definitions bound code =
    (are_distinct (results code) && list_all (is_id bound) (results code)) &&
    (uses_follow [] code && names_are_among (results code) code)

-- DISTINCT TYPES. No two types but arrays, runtime arrays and structs are the same instruction, their results aside.
abbrev pub is_once : Defined → Bool
is_once ATypeOnce = true
is_once d = false

abbrev pub is_single_type : Option Op → Bool
is_single_type op = is_once (defined_by op)

abbrev pub behind_first : List ℕ → List ℕ
behind_first [] = []
behind_first (x ∷ xs) = xs

abbrev pub is_same_type : Instr → Instr → Bool
is_same_type i j = nat_eq i.op j.op && pointwise nat_eq (behind_first i.operands) (behind_first j.operands)

abbrev pub types_differ : List Instr → Bool
types_differ [] = true
types_differ (i ∷ is) = not (list_any (is_same_type i) is) && types_differ is

abbrev pub has_distinct_types : List Instr → Bool
has_distinct_types code = types_differ (filter (λ i. is_single_type (op_of i.op)) code)

-- SORTS. Operands and results have the sorts that their instructions ask.
abbrev pub has_sorts : List Instr → Bool
has_sorts code = list_all (is_sorted code) code

-- LOCAL RESULTS. The result of an instruction in a block is used in that block alone, labels and Function variables excepted.
pub record Home : Type 0 where
  pub id : ℕ
  pub block : ℕ

abbrev pub at_block : ℕ → List ℕ → List Home
at_block b [] = []
at_block b (x ∷ xs) = record { id = x; block = b } ∷ at_block b xs

abbrev pub local_results : Flow → List ℕ → List ℕ
local_results (Label l) xs = []
local_results Local xs = []
local_results f xs = xs

-- the results and the uses of a list's instructions with their blocks, where b blocks have begun
abbrev pub homes : List Instr → ℕ → List Home
homes [] b = []
homes (i ∷ is) b = at_block b (local_results (flow_of i) (ids_of i).results) ++ homes is (next_block b (flow_of i))

abbrev pub used_at : List Instr → ℕ → List Home
used_at [] b = []
used_at (i ∷ is) b = at_block b ((ids_of i).uses ++ (ids_of i).names) ++ used_at is (next_block b (flow_of i))

abbrev pub is_at_home : Home → Home → Bool
is_at_home at home = not (nat_eq at.id home.id) || (nat_eq home.block 0 || nat_eq at.block home.block)

abbrev pub has_local_results : List Instr → Bool
has_local_results code = list_all (λ at. list_all (is_at_home at) (homes code 0)) (used_at code 0)
