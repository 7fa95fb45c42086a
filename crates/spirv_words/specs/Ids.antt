-- The ids of an instruction, read from its operands by its layout.
use Rattle.std.specs.Prelude.{◌≡◌, ℕ, nat_eq, if◌then◌else◌, Bool, true, false, ◌&&◌, not, List, [], ◌∷◌, ◌++◌, length, drop, filter, Option, Some, None, find, slice_get, slice_index, option_and_then, refl}
use Rattle.std.specs.List.{list_any}
use Rattle.spirv_words.specs.Roles.{Part, ResultType, Result, Use, Name, Literal, Text, OptionalUse, OptionalLiteral, Uses, Names, Literals, Targets, Defined, Nothing, AType, ATypeOnce, AConstant, AValue, seconds}
use Rattle.spirv_words.specs.Enumerants.{GLCompute, main_text}
use Rattle.spirv_words.specs.Operations.{Op, OpEntryPoint, OpFunction, OpSelect, OpSwitch, row_of, layout_of, op_of}
use Rattle.spirv_words.specs.Layouts.{ends_text}
use Rattle.spirv_words.specs.Text.{Instr, instruction, is_op}

-- the ids that an instruction defines, those that it uses, and those that it names
pub record Ids : Type 0 where
  pub results : List ℕ
  pub uses : List ℕ
  pub names : List ℕ

abbrev pub no_ids : Ids
no_ids = record { results = []; uses = []; names = [] }

abbrev pub add_result : ℕ → Ids → Ids
add_result x ids = record { results = x ∷ ids.results; uses = ids.uses; names = ids.names }

abbrev pub add_use : ℕ → Ids → Ids
add_use x ids = record { results = ids.results; uses = x ∷ ids.uses; names = ids.names }

abbrev pub add_name : ℕ → Ids → Ids
add_name x ids = record { results = ids.results; uses = ids.uses; names = x ∷ ids.names }

abbrev pub add_none : ℕ → Ids → Ids
add_none x ids = ids

-- the words behind a text
abbrev pub behind_text : List ℕ → List ℕ
behind_text [] = []
behind_text (word ∷ rest) = if ends_text word then rest else behind_text rest

abbrev pub ids_from : (ℕ → Ids → Ids) → (List ℕ → Ids) → List ℕ → Ids
ids_from add further [] = no_ids
ids_from add further (word ∷ rest) = add word (further rest)

abbrev pub ids_of_part : Part → (List ℕ → Ids) → List ℕ → Ids
ids_of_part ResultType further words = ids_from add_use further words
ids_of_part Result further words = ids_from add_result further words
ids_of_part Use further words = ids_from add_use further words
ids_of_part Name further words = ids_from add_name further words
ids_of_part Literal further words = ids_from add_none further words
ids_of_part Text further words = further (behind_text words)
ids_of_part OptionalUse further words = ids_from add_use further words
ids_of_part OptionalLiteral further words = ids_from add_none further words
ids_of_part Uses further words = record { results = []; uses = words; names = [] }
ids_of_part Names further words = record { results = []; uses = []; names = words }
ids_of_part Literals further words = no_ids
ids_of_part Targets further words = record { results = []; uses = []; names = seconds words }

abbrev pub ids_in : List Part → List ℕ → Ids
ids_in [] words = no_ids
ids_in (part ∷ parts) words = ids_of_part part (ids_in parts) words

abbrev pub parts_of : Option Op → List Part
parts_of None = []
parts_of (Some op) = layout_of op

abbrev pub ids_of : Instr → Ids
ids_of i = ids_in (parts_of (op_of i.op)) i.operands

abbrev pub contains : List ℕ → ℕ → Bool
contains xs x = list_any (λ y. nat_eq y x) xs

-- the first instruction with that result
abbrev pub definition : List Instr → ℕ → Option Instr
definition code x = find (λ i. contains (ids_of i).results x) code

-- The function is the one that the first entry point names.
abbrev pub entry_function : List Instr → Option ℕ
entry_function code = option_and_then (λ i. slice_get i.operands 1) (find (is_op OpEntryPoint) code)

abbrev pub is_function : ℕ → Instr → Bool
is_function f i = is_op OpFunction i && nat_eq (slice_index i.operands 1) f

-- The declarations: all instructions in front of the function (section 2.4, Logical Layout of a Module), or of the first one where no
-- entry point names one.
abbrev pub is_entry : Option ℕ → Instr → Bool
is_entry None i = is_op OpFunction i
is_entry (Some f) i = is_function f i

abbrev pub in_front_of : (Instr → Bool) → List Instr → List Instr
in_front_of test [] = []
in_front_of test (i ∷ rest) = if test i then [] else i ∷ in_front_of test rest

abbrev pub declared : List Instr → List Instr
declared code = in_front_of (is_entry (entry_function code)) code

-- what an instruction defines
abbrev pub defined_by : Option Op → Defined
defined_by None = Nothing
defined_by (Some op) = (row_of op).defines

abbrev pub defines : Instr → Defined
defines i = defined_by (op_of i.op)

abbrev pub is_a_type : Defined → Bool
is_a_type AType = true
is_a_type ATypeOnce = true
is_a_type d = false

abbrev pub is_a_constant : Defined → Bool
is_a_constant AConstant = true
is_a_constant d = false

-- the code without the types that are defined behind the declarations, which define nothing
abbrev pub is_type_instr : Instr → Bool
is_type_instr i = is_a_type (defines i)

abbrev pub without_late_types : List Instr → List Instr
without_late_types code = declared code ++ filter (λ i. not (is_type_instr i)) (drop (length (declared code)) code)

-- the type of an instruction's result, where that is a constant or a value; a function's is none
abbrev pub type_in : Defined → List ℕ → Option ℕ
type_in AConstant (t ∷ rest) = Some t
type_in AValue (t ∷ rest) = Some t
type_in d words = None

abbrev pub type_of_instr : Option Instr → Option ℕ
type_of_instr None = None
type_of_instr (Some i) = type_in (defines i) i.operands

-- the type of an id
abbrev pub type_of : List Instr → ℕ → Option ℕ
type_of code x = type_of_instr (definition code x)

-- Examples: a choice between two words; a switch with two cases; an entry point with one variable.
pub select_ids :
    ids_of (instruction OpSelect (2 ∷ 9 ∷ 5 ∷ 6 ∷ 7 ∷ [])) ≡ record { results = 9 ∷ []; uses = 2 ∷ 5 ∷ 6 ∷ 7 ∷ []; names = [] }
select_ids = refl

pub switch_ids :
    ids_of (instruction OpSwitch (9 ∷ 20 ∷ 0 ∷ 21 ∷ 7 ∷ 22 ∷ [])) ≡ record { results = []; uses = 9 ∷ []; names = 20 ∷ 21 ∷ 22 ∷ [] }
switch_ids = refl

pub entry_ids :
    ids_of (instruction OpEntryPoint (GLCompute ∷ 1 ∷ main_text ++ 8 ∷ [])) ≡ record { results = []; uses = []; names = 1 ∷ 8 ∷ [] }
entry_ids = refl
