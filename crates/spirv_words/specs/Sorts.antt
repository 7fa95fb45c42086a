-- The sorts of ids: what their types are, as far as instructions ask (SPIR-V specification, unified1, sections 3.52.6 to 3.52.16).
-- A type means what its first definition in front of the function says.
use Rattle.std.specs.Prelude.{ℕ, zero, suc, nat_eq, if◌then◌else◌, Bool, true, false, ◌&&◌, ◌||◌, List, [], ◌∷◌, length, replicate, Option, Some, None}
use Rattle.std.specs.List.{list_all}
use Rattle.spirv_words.specs.StorageClass.{has_events, is_own, is_given}
use Rattle.spirv_words.specs.Operations.{Op, op_of, OpTypeVoid, OpTypeBool, OpTypeInt, OpTypeVector, OpTypeArray, OpTypeRuntimeArray, OpTypeStruct, OpTypePointer, OpTypeFunction, OpConstant}
use Rattle.spirv_words.specs.Text.{Instr}
use Rattle.spirv_words.specs.Ids.{definition, declared, type_of}

pub data Sort : Type 0 where
  NoType : Sort
  Void : Sort
  Truths : Sort
  Words : Sort
  Vector : (element count : ℕ) → Sort
  Array : (element count : ℕ) → Sort
  RuntimeArray : (element : ℕ) → Sort
  Struct : (members : List ℕ) → Sort
  Pointer : (class pointee : ℕ) → Sort
  Function : (result : ℕ) (parameters : List ℕ) → Sort

-- The one integer type has 32 bits and no sign.
abbrev pub word_sort : List ℕ → Sort
word_sort (r ∷ width ∷ sign ∷ []) = if nat_eq width 32 && nat_eq sign 0 then Words else NoType
word_sort os = NoType

abbrev pub vector_sort : List ℕ → Sort
vector_sort (r ∷ element ∷ count ∷ []) = Vector element count
vector_sort os = NoType

abbrev pub runtime_sort : List ℕ → Sort
runtime_sort (r ∷ element ∷ []) = RuntimeArray element
runtime_sort os = NoType

abbrev pub struct_sort : List ℕ → Sort
struct_sort (r ∷ members) = Struct members
struct_sort os = NoType

abbrev pub pointer_sort : List ℕ → Sort
pointer_sort (r ∷ class ∷ pointee ∷ []) = Pointer class pointee
pointer_sort os = NoType

abbrev pub function_sort : List ℕ → Sort
function_sort (r ∷ result ∷ parameters) = Function result parameters
function_sort os = NoType

-- the number that a constant of words stands for
abbrev pub literal_in : Option Op → List ℕ → Option ℕ
literal_in (Some OpConstant) (t ∷ r ∷ word ∷ []) = Some word
literal_in op os = None

abbrev pub literal_of_instr : Option Instr → Option ℕ
literal_of_instr None = None
literal_of_instr (Some i) = literal_in (op_of i.op) i.operands

abbrev pub literal_of : List Instr → ℕ → Option ℕ
literal_of code x = literal_of_instr (definition (declared code) x)

-- an array whose length is no such constant is no type
abbrev pub array_by : ℕ → Option ℕ → Sort
array_by element None = NoType
array_by element (Some count) = Array element count

abbrev pub array_sort : List Instr → List ℕ → Sort
array_sort code (r ∷ element ∷ length ∷ []) = array_by element (literal_of code length)
array_sort code os = NoType

abbrev pub sort_by : List Instr → Op → List ℕ → Sort
sort_by code OpTypeVoid os = Void
sort_by code OpTypeBool os = Truths
sort_by code OpTypeInt os = word_sort os
sort_by code OpTypeVector os = vector_sort os
sort_by code OpTypeArray os = array_sort code os
sort_by code OpTypeRuntimeArray os = runtime_sort os
sort_by code OpTypeStruct os = struct_sort os
sort_by code OpTypePointer os = pointer_sort os
sort_by code OpTypeFunction os = function_sort os
sort_by code op os = NoType

abbrev pub sort_of_op : List Instr → Option Op → List ℕ → Sort
sort_of_op code None os = NoType
sort_of_op code (Some op) os = sort_by code op os

abbrev pub sort_of_instr : List Instr → Option Instr → Sort
sort_of_instr code None = NoType
sort_of_instr code (Some i) = sort_of_op code (op_of i.op) i.operands

-- the sort of a type, and of a value by its type
abbrev pub sort_of : List Instr → ℕ → Sort
sort_of code t = sort_of_instr code (definition (declared code) t)

abbrev pub sort_of_type : List Instr → Option ℕ → Sort
sort_of_type code None = NoType
sort_of_type code (Some t) = sort_of code t

abbrev pub sort_of_value : List Instr → ℕ → Sort
sort_of_value code x = sort_of_type code (type_of code x)

abbrev pub is_words : Sort → Bool
is_words Words = true
is_words s = false

abbrev pub is_truths : Sort → Bool
is_truths Truths = true
is_truths s = false

abbrev pub is_type : Sort → Bool
is_type NoType = false
is_type s = true

-- the types of a composite's parts, in order
abbrev pub parts_of_sort : Sort → List ℕ
parts_of_sort (Vector element count) = replicate count element
parts_of_sort (Array element count) = replicate count element
parts_of_sort (Struct members) = members
parts_of_sort s = []

-- A type has values that are words, truths or composites of these: inside it is no pointer, function, void or array without a length.
-- Types nest less deep than there are instructions.
abbrev pub is_data_by : (ℕ → Bool) → Sort → Bool
is_data_by inner Words = true
is_data_by inner Truths = true
is_data_by inner (Vector element count) = inner element
is_data_by inner (Array element count) = inner element
is_data_by inner (Struct members) = list_all inner members
is_data_by inner s = false

abbrev pub is_data_within : List Instr → ℕ → ℕ → Bool
is_data_within code zero t = false
is_data_within code (suc depth) t = is_data_by (is_data_within code depth) (sort_of code t)

abbrev pub is_data_type : List Instr → ℕ → Bool
is_data_type code t = is_data_by (is_data_within code (length code)) (sort_of code t)

abbrev pub is_data : List Instr → Sort → Bool
is_data code s = is_data_by (is_data_type code) s

-- Types are compared by what they are: words and truths, and vectors of these, are each one type whatever its id. Arrays and structs of two
-- ids are two types, which may have decorations of their own (section 2.8, Types).
abbrev pub are_scalars : Sort → Sort → Bool
are_scalars Words Words = true
are_scalars Truths Truths = true
are_scalars s u = false

abbrev pub are_alike : List Instr → Sort → Sort → Bool
are_alike code (Vector e n) (Vector f k) = nat_eq n k && (nat_eq e f || are_scalars (sort_of code e) (sort_of code f))
are_alike code s u = are_scalars s u

abbrev pub same_type : List Instr → ℕ → ℕ → Bool
same_type code t u = nat_eq t u || are_alike code (sort_of code t) (sort_of code u)

-- two words, as the instructions with two results give them
abbrev pub are_two_words : List Instr → List ℕ → Bool
are_two_words code (a ∷ b ∷ []) = is_words (sort_of code a) && is_words (sort_of code b)
are_two_words code ms = false

abbrev pub is_pair : List Instr → Sort → Bool
is_pair code (Struct members) = are_two_words code members
is_pair code s = false

-- What moves between a lane and the memory of a storage class: one word of memory that lanes share, and any value of words and truths of
-- the lane's own memory and of what it is given. Of another class nothing moves.
abbrev pub moves : List Instr → ℕ → Sort → Bool
moves code class s = (has_events class && is_words s) || ((is_own class || is_given class) && is_data code s)
