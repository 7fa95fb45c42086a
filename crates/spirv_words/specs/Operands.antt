-- The sorts that instructions ask of their operands and results (SPIR-V specification, unified1, section 3.52). An operand
-- without a definition has no sort, and breaks another rule.
use Rattle.std.specs.Prelude.{ℕ, nat_eq, if◌then◌else◌, Bool, true, false, ◌&&◌, ◌||◌, List, [], ◌∷◌, Option, Some, None, slice_get, is_some}
use Rattle.std.specs.List.{list_all}
use Rattle.spirv_words.specs.StorageClass.{StorageBuffer, has_events, is_own}
use Rattle.spirv_words.specs.Roles.{ValueSort, AWord, ATruth, APair, Asks, Makes, Takes, Selects, Loads, Stores, Chains, Lengths, Extracts, Composes, Gathers, Constants, Nulls, Extends, Atomics, Variables, Functions, Types, Integers, Arrays, Pointers, Free}
use Rattle.spirv_words.specs.Operations.{Op, OpExtInstImport, row_of, op_of}
use Rattle.spirv_words.specs.Text.{Instr, is_op}
use Rattle.spirv_words.specs.Ids.{ids_of, definition, declared, type_of, defines, is_a_constant}
use Rattle.spirv_words.specs.Sorts.{Sort, Vector, Array, RuntimeArray, Struct, Pointer, Function, sort_of, sort_of_value, literal_of, is_words, is_truths, is_type, is_pair, is_data, moves, same_type, parts_of_sort}

-- a test of an operand that has a definition, and of one that is a type
abbrev pub defined_and : List Instr → ℕ → Bool → Bool
defined_and code x test = if is_some (definition code x) then test else true

abbrev pub value_is : List Instr → (Sort → Bool) → ℕ → Bool
value_is code test x = defined_and code x (test (sort_of_value code x))

abbrev pub type_is : List Instr → (Sort → Bool) → ℕ → Bool
type_is code test t = defined_and code t (test (sort_of code t))

abbrev pub is_same : List Instr → Option ℕ → ℕ → Bool
is_same code None t = false
is_same code (Some u) t = same_type code u t

abbrev pub has_type : List Instr → ℕ → ℕ → Bool
has_type code x t = defined_and code x (is_same code (type_of code x) t)

-- what most instructions ask of values
abbrev pub wants : List Instr → ValueSort → Sort → Bool
wants code AWord s = is_words s
wants code ATruth s = is_truths s
wants code APair s = is_pair code s

-- Where indices lead by their types: to a type, past what is known (behind the end of a struct, or by an index without a definition), or
-- nowhere. An index of an access chain into a struct is a constant.
pub data Way : Type 0 where
  Leads : (type : ℕ) → Way
  Past : Way
  Nowhere : Way

abbrev pub member_way : Option ℕ → Way
member_way None = Past
member_way (Some t) = Leads t

abbrev pub struct_way : List ℕ → Bool → Option ℕ → Way
struct_way members defined None = if defined then Nowhere else Past
struct_way members defined (Some k) = member_way (slice_get members k)

abbrev pub index_way : List Instr → Sort → ℕ → Way
index_way code (Vector element count) x = Leads element
index_way code (Array element count) x = Leads element
index_way code (RuntimeArray element) x = Leads element
index_way code (Struct members) x = struct_way members (is_some (definition code x)) (literal_of code x)
index_way code s x = Nowhere

abbrev pub way_by : List Instr → (ℕ → Way) → Way → Way
way_by code further (Leads t) = further t
way_by code further way = way

abbrev pub chain_way : List Instr → List ℕ → ℕ → Way
chain_way code [] t = Leads t
chain_way code (x ∷ xs) t = way_by code (chain_way code xs) (index_way code (sort_of code t) x)

-- the way that literal indices lead, as those of an extract
abbrev pub literal_way : Sort → ℕ → Way
literal_way (Vector element count) k = Leads element
literal_way (Array element count) k = Leads element
literal_way (Struct members) k = member_way (slice_get members k)
literal_way s k = Nowhere

abbrev pub extract_way : List Instr → List ℕ → ℕ → Way
extract_way code [] t = Leads t
extract_way code (k ∷ ks) t = way_by code (extract_way code ks) (literal_way (sort_of code t) k)

abbrev pub way_from : (ℕ → Way) → Option ℕ → Way
way_from way None = Nowhere
way_from way (Some t) = way t

abbrev pub leads_to : Way → (ℕ → Bool) → Bool
leads_to (Leads t) test = test t
leads_to Past test = true
leads_to Nowhere test = false

abbrev pub is_pointer_to : List Instr → Sort → ℕ → ℕ → Bool
is_pointer_to code (Pointer class pointee) c t = nat_eq class c && same_type code pointee t
is_pointer_to code s c t = false

abbrev pub is_pointer : Sort → Bool
is_pointer (Pointer class pointee) = true
is_pointer s = false

-- a load of a type, a store of a value, and an atomic, through a pointer of that sort
abbrev pub loads : List Instr → ℕ → Sort → Bool
loads code t (Pointer class pointee) = type_is code (λ s. same_type code pointee t && moves code class s) t
loads code t s = false

abbrev pub stores : List Instr → ℕ → Sort → Bool
stores code x (Pointer class pointee) =
    (has_events class || is_own class) && (moves code class (sort_of code pointee) && has_type code x pointee)
stores code x s = false

abbrev pub changes : List Instr → Sort → Bool
changes code (Pointer class pointee) = has_events class && is_words (sort_of code pointee)
changes code s = false

abbrev pub chains : List Instr → ℕ → List ℕ → Sort → Bool
chains code t xs (Pointer class pointee) = leads_to (chain_way code xs pointee) (λ u. type_is code (λ s. is_pointer_to code s class u) t)
chains code t xs s = false

-- the pointee is a struct whose member of that number is an array without a length
abbrev pub is_runtime_array : Sort → Bool
is_runtime_array (RuntimeArray element) = true
is_runtime_array s = false

abbrev pub is_runtime_member : List Instr → Option ℕ → Bool
is_runtime_member code None = false
is_runtime_member code (Some t) = is_runtime_array (sort_of code t)

abbrev pub has_runtime_member : List Instr → ℕ → Sort → Bool
has_runtime_member code k (Struct members) = is_runtime_member code (slice_get members k)
has_runtime_member code k s = false

abbrev pub measures : List Instr → ℕ → Sort → Bool
measures code k (Pointer class pointee) = nat_eq class StorageBuffer && has_runtime_member code k (sort_of code pointee)
measures code k s = false

-- the values have these types, one each
abbrev pub have_types : List Instr → List ℕ → List ℕ → Bool
have_types code [] [] = true
have_types code (x ∷ xs) (t ∷ ts) = has_type code x t && have_types code xs ts
have_types code xs ts = false

abbrev pub is_composite : Sort → Bool
is_composite (Vector element count) = true
is_composite (Array element count) = true
is_composite (Struct members) = true
is_composite s = false

-- a constant in front of the function
abbrev pub is_constant_instr : Option Instr → Bool
is_constant_instr None = false
is_constant_instr (Some i) = is_a_constant (defines i)

abbrev pub is_constant : List Instr → ℕ → Bool
is_constant code x = defined_and code x (is_constant_instr (definition (declared code) x))

abbrev pub is_import : Option Instr → Bool
is_import None = true
is_import (Some i) = is_op OpExtInstImport i

abbrev pub declares : List Instr → ℕ → List ℕ → Sort → Bool
declares code class initializer (Pointer c pointee) = nat_eq c class && list_all (λ x. has_type code x pointee) initializer
declares code class initializer s = false

-- The parts of a composite are words, truths and composites of these. So no pointer is put into one or taken out of one.
abbrev pub composes : List Instr → List ℕ → Sort → Bool
composes code xs s = is_composite s && (is_data code s && have_types code xs (parts_of_sort s))

abbrev pub extracts : List Instr → ℕ → Way → Bool
extracts code t way = leads_to way (λ u. type_is code (λ s. same_type code u t) t)

abbrev pub returns : List Instr → ℕ → Sort → Bool
returns code t (Function result parameters) = type_is code (λ s. nat_eq result t) t
returns code t s = false

-- what an instruction asks of its operands
abbrev pub row_holds : List Instr → Asks → List ℕ → List ℕ → Bool
row_holds code (Makes result operands) uses (t ∷ r ∷ xs) =
    type_is code (wants code result) t && list_all (value_is code (wants code operands)) xs
row_holds code (Takes operands) uses os = list_all (value_is code (wants code operands)) uses
row_holds code Selects uses (t ∷ r ∷ c ∷ xs) =
    type_is code is_words t && (value_is code is_truths c && list_all (value_is code is_words) xs)
row_holds code Loads uses (t ∷ r ∷ p ∷ rest) = type_is code (is_data code) t && value_is code (loads code t) p
row_holds code Stores uses (p ∷ x ∷ rest) = value_is code (stores code x) p && value_is code (is_data code) x
row_holds code Chains uses (t ∷ r ∷ p ∷ xs) =
    type_is code is_pointer t && (list_all (value_is code is_words) xs && value_is code (chains code t xs) p)
row_holds code Lengths uses (t ∷ r ∷ p ∷ k ∷ []) = type_is code is_words t && value_is code (measures code k) p
row_holds code Extracts uses (t ∷ r ∷ c ∷ ks) =
    type_is code (is_data code) t && defined_and code c (extracts code t (way_from (extract_way code ks) (type_of code c)))
row_holds code Composes uses (t ∷ r ∷ xs) = type_is code (composes code xs) t
row_holds code Gathers uses (t ∷ r ∷ xs) = type_is code (composes code xs) t && list_all (is_constant code) xs
row_holds code Constants uses (t ∷ r ∷ word ∷ []) = type_is code is_words t
row_holds code Nulls uses (t ∷ r ∷ []) = type_is code (is_data code) t
row_holds code Extends uses (t ∷ r ∷ set ∷ n ∷ xs) =
    type_is code is_words t && (is_import (definition code set) && list_all (value_is code is_words) xs)
row_holds code Atomics uses (t ∷ r ∷ p ∷ xs) =
    type_is code is_words t && (value_is code (changes code) p && list_all (value_is code is_words) xs)
row_holds code Variables uses (t ∷ r ∷ class ∷ initializer) = type_is code (declares code class initializer) t
row_holds code Functions uses (t ∷ r ∷ control ∷ f ∷ []) = type_is code is_type t && type_is code (returns code t) f
row_holds code Types uses os = list_all (type_is code is_type) uses
row_holds code Integers uses (r ∷ width ∷ sign ∷ []) = nat_eq width 32 && nat_eq sign 0
row_holds code Arrays uses (r ∷ element ∷ length ∷ []) =
    type_is code is_type element && defined_and code length (is_some (literal_of code length))
row_holds code Pointers uses (r ∷ class ∷ pointee ∷ []) = type_is code is_type pointee
row_holds code Free uses os = true
row_holds code asks uses os = false

abbrev pub op_sorted : List Instr → Option Op → List ℕ → List ℕ → Bool
op_sorted code None uses os = true
op_sorted code (Some op) uses os = row_holds code (row_of op).asks uses os

-- no operand that has a definition is of another sort than asked
abbrev pub is_sorted : List Instr → Instr → Bool
is_sorted code i = op_sorted code (op_of i.op) (ids_of i).uses i.operands

-- each id that it uses has a definition
abbrev pub is_defined : List Instr → Instr → Bool
is_defined code i = list_all (λ x. is_some (definition code x)) (ids_of i).uses
