-- The condition on the variables of a module: what is bound has its variable, and there is no other (SPIR-V specification, unified1,
-- sections 3.7, Storage Class, 3.20, Decoration, and 3.21, BuiltIn).
use Rattle.std.specs.Prelude.{ℕ, nat_eq, nat_le, if◌then◌else◌, Bool, true, false, ◌&&◌, ◌||◌, not, List, [], ◌∷◌, filter, Option, Some, None, slice_index, is_some, find}
use Rattle.std.specs.Bool.{beq}
use Rattle.std.specs.Option.{option_eq}
use Rattle.std.specs.List.{list_any, list_all}
use Rattle.spirv_words.specs.StorageClass as storage_class
use Rattle.spirv_words.specs.Decoration.{Block, ArrayStride, BuiltIn, Coherent, NonWritable, Binding, DescriptorSet, Offset}
use Rattle.spirv_words.specs.BuiltIn.{WorkgroupId, GlobalInvocationId, LocalInvocationIndex}
use Rattle.spirv_words.specs.Operations.{OpVariable}
use Rattle.spirv_words.specs.Text.{Instr, is_op}
use Rattle.spirv_words.specs.Ids.{definition, declared}
use Rattle.spirv_words.specs.Sorts.{Sort, Vector, Array, RuntimeArray, Struct, Pointer, sort_of, sort_of_value, is_words}
use Rattle.spirv_words.specs.Operands.{is_constant_instr}
use Rattle.spirv_words.specs.Globals.{decorates, decorates_member, decoration, member_decoration}
use Rattle.spirv_words.specs.Sections.{variables_of}

-- A view of words, or a counter: where it is bound, whether it is read only and whether it is coherent.
pub record WantedBuffer : Type 0 where
  pub set : ℕ
  pub binding : ℕ
  pub is_read_only : Bool
  pub is_coherent : Bool

-- A constant buffer: where it is bound, and its vectors of four words.
pub record WantedUniform : Type 0 where
  pub set : ℕ
  pub binding : ℕ
  pub vectors : ℕ

-- What a program wants of a module: the views and counters, the constant buffers, the words of push constants where there are any, the
-- words of each shared memory in the order of their slots, and the built-ins of its threads.
pub record Wanted : Type 0 where
  pub buffers : List WantedBuffer
  pub uniforms : List WantedUniform
  pub push : Option ℕ
  pub shared : List ℕ
  pub inputs : List ℕ

abbrev pub nothing_wanted : Wanted
nothing_wanted = record { buffers = []; uniforms = []; push = None; shared = []; inputs = [] }

abbrev pub is_number : Option ℕ → ℕ → Bool
is_number o n = option_eq nat_eq o (Some n)

-- the type that a variable points to
abbrev pub pointee_in : ℕ → Sort → Option ℕ
pointee_in class (Pointer c pointee) = if nat_eq c class then Some pointee else None
pointee_in class s = None

abbrev pub pointee : List Instr → ℕ → ℕ → Option ℕ
pointee code class x = pointee_in class (sort_of_value code x)

-- a test of a type that is there
abbrev pub meets : (ℕ → Bool) → Option ℕ → Bool
meets test None = false
meets test (Some t) = test t

abbrev pub is_word_type : List Instr → ℕ → Bool
is_word_type code t = is_words (sort_of code t)

abbrev pub is_vector_sort : List Instr → ℕ → Sort → Bool
is_vector_sort code n (Vector element count) = is_word_type code element && nat_eq count n
is_vector_sort code n s = false

abbrev pub is_vector : List Instr → ℕ → ℕ → Bool
is_vector code n t = is_vector_sort code n (sort_of code t)

-- arrays of a number of elements, and without one, with a stride in bytes
abbrev pub is_array_sort : (ℕ → Bool) → ℕ → Sort → Bool
is_array_sort element n (Array e count) = element e && nat_eq count n
is_array_sort element n s = false

abbrev pub is_runtime_sort : (ℕ → Bool) → Sort → Bool
is_runtime_sort element (RuntimeArray e) = element e
is_runtime_sort element s = false

abbrev pub has_stride : List Instr → ℕ → ℕ → Bool
has_stride code bytes t = is_number (decoration code t ArrayStride) bytes

abbrev pub is_runtime_array : List Instr → ℕ → Bool
is_runtime_array code t = is_runtime_sort (is_word_type code) (sort_of code t) && has_stride code 4 t

abbrev pub is_words_array : List Instr → ℕ → ℕ → Bool
is_words_array code n t = is_array_sort (is_word_type code) n (sort_of code t) && has_stride code 4 t

abbrev pub is_vectors_array : List Instr → ℕ → ℕ → Bool
is_vectors_array code n t = is_array_sort (is_vector code 4) n (sort_of code t) && has_stride code 16 t

-- a Block struct of one member at offset 0
abbrev pub has_one_member : (ℕ → Bool) → Sort → Bool
has_one_member member (Struct (t ∷ [])) = member t
has_one_member member s = false

abbrev pub is_block : List Instr → (ℕ → Bool) → ℕ → Bool
is_block code member t =
    has_one_member member (sort_of code t) && (is_some (find (decorates t Block) code) && is_number (member_decoration code t 0 Offset) 0)

abbrev pub has_flags : List Instr → Bool → Bool → ℕ → Bool
has_flags code read_only coherent t =
    beq read_only (is_some (find (decorates_member t 0 NonWritable) code)) &&
    beq coherent (is_some (find (decorates_member t 0 Coherent) code))

-- a variable at a set and binding
abbrev pub is_bound : List Instr → ℕ → ℕ → ℕ → Bool
is_bound code set binding x = is_number (decoration code x DescriptorSet) set && is_number (decoration code x Binding) binding

abbrev pub is_buffer : List Instr → WantedBuffer → ℕ → Bool
is_buffer code w x =
    meets (λ t. is_block code (is_runtime_array code) t && has_flags code w.is_read_only w.is_coherent t)
    (pointee code storage_class.StorageBuffer x)

abbrev pub is_uniform : List Instr → WantedUniform → ℕ → Bool
is_uniform code w x = meets (is_block code (is_vectors_array code w.vectors)) (pointee code storage_class.Uniform x)

-- the one variable of a list meets a test
abbrev pub is_one : (ℕ → Bool) → List ℕ → Bool
is_one test (x ∷ []) = test x
is_one test xs = false

abbrev pub of_class : List Instr → ℕ → List ℕ
of_class code class = variables_of (nat_eq class) code

abbrev pub has_buffers : List Instr → List WantedBuffer → Bool
has_buffers code wanted =
    list_all (λ w. is_one (is_buffer code w) (filter (is_bound code w.set w.binding) (of_class code storage_class.StorageBuffer))) wanted &&
    list_all (λ x. list_any (λ w. is_bound code w.set w.binding x) wanted) (of_class code storage_class.StorageBuffer)

abbrev pub has_uniforms : List Instr → List WantedUniform → Bool
has_uniforms code wanted =
    list_all (λ w. is_one (is_uniform code w) (filter (is_bound code w.set w.binding) (of_class code storage_class.Uniform))) wanted &&
    list_all (λ x. list_any (λ w. is_bound code w.set w.binding x) wanted) (of_class code storage_class.Uniform)

-- push constants are one block, an array that reaches to the last of their words
abbrev pub is_empty : List ℕ → Bool
is_empty [] = true
is_empty xs = false

abbrev pub has_push : List Instr → Option ℕ → Bool
has_push code None = is_empty (of_class code storage_class.PushConstant)
has_push code (Some words) =
    is_one (λ x. meets (is_block code (is_words_array code words)) (pointee code storage_class.PushConstant x))
    (of_class code storage_class.PushConstant)

-- shared memory is an array of words for each slot, in their order
abbrev pub is_shared : List Instr → ℕ → ℕ → Bool
is_shared code words x = meets (λ t. is_array_sort (is_word_type code) words (sort_of code t)) (pointee code storage_class.Workgroup x)

abbrev pub are_shared : List Instr → List ℕ → List ℕ → Bool
are_shared code [] [] = true
are_shared code (words ∷ more) (x ∷ xs) = is_shared code words x && are_shared code more xs
are_shared code wanted xs = false

-- LocalInvocationIndex is one word; WorkgroupId, LocalInvocationId and GlobalInvocationId are vectors of three
abbrev pub is_input_type : List Instr → ℕ → ℕ → Bool
is_input_type code kind t =
    if nat_eq kind LocalInvocationIndex then is_word_type code t else
    (nat_le WorkgroupId kind && nat_le kind GlobalInvocationId) && is_vector code 3 t

abbrev pub is_input : List Instr → ℕ → ℕ → Bool
is_input code kind x = meets (is_input_type code kind) (pointee code storage_class.Input x)

abbrev pub carries : List Instr → ℕ → ℕ → Bool
carries code kind x = is_number (decoration code x BuiltIn) kind

-- Each built-in that is wanted has one Input variable, and each Input variable is one of these.
abbrev pub has_inputs : List Instr → List ℕ → Bool
has_inputs code wanted =
    list_all (λ kind. is_one (is_input code kind) (filter (carries code kind) (of_class code storage_class.Input))) wanted &&
    list_all (λ x. list_any (λ kind. carries code kind x) wanted) (of_class code storage_class.Input)

-- no variable of another storage class; Function and Private variables have a constant as initializer
abbrev pub is_class : ℕ → Bool
is_class class = storage_class.has_events class || (storage_class.is_own class || storage_class.is_given class)

abbrev pub has_initializer : List Instr → List ℕ → Bool
has_initializer code (t ∷ r ∷ class ∷ []) = not (storage_class.is_own class)
has_initializer code (t ∷ r ∷ class ∷ x ∷ []) = not (storage_class.is_own class) || is_constant_instr (definition (declared code) x)
has_initializer code os = false

abbrev pub is_variable_well : List Instr → Instr → Bool
is_variable_well code i = not (is_op OpVariable i) || (is_class (slice_index i.operands 2) && has_initializer code i.operands)

abbrev pub has_variables : Wanted → List Instr → Bool
has_variables wanted code =
    (has_buffers code wanted.buffers && has_uniforms code wanted.uniforms) &&
    ((has_push code wanted.push && are_shared code wanted.shared (of_class code storage_class.Workgroup)) &&
    (has_inputs code wanted.inputs && list_all (is_variable_well code) code))
