-- The sorts of the types of a table, and the types of its values (SPIR-V specification, unified1, section 3.52.6).
use Rattle.std.specs.Prelude.{◌≡◌, ℕ, Bool, true, false, List, [], ◌∷◌, length, Option, Some, None}
use Rattle.word_base.specs.declared.event.Room.{Room}
use Rattle.word_base.specs.declared.event.Room.TheVariants.{Resource, Uav, Counter, Shared}
use Rattle.spirv_words.specs.StorageClass as storage
use Rattle.spirv_words.specs.Sorts as sort
use Rattle.spirv_words.specs.Text.{Instr}
use Rattle.spirv_words.specs.Ids.{definition, declared}
use Rattle.spirv_symbols.specs.declared.symbol.Access.TheVariants.{Plain, ReadOnly}
use Rattle.spirv_symbols.specs.declared.symbol.Section.{Section}
use Rattle.spirv_symbols.specs.declared.symbol.Section.TheVariants.{Heads, Labels, Locals}
use Rattle.spirv_symbols.specs.declared.symbol.Symbol.{Symbol}
use Rattle.spirv_symbols.specs.declared.symbol.Symbol.TheVariants.{AType, Constant, True, Null, Immediates, Input, Memory, Uniform, Push, Scratch, Register, Registers, Elements, ImmediateArray}
use Rattle.spirv_symbols.specs.declared.symbol.TypeSymbol.{TypeSymbol}
use Rattle.spirv_symbols.specs.declared.symbol.TypeSymbol.TheVariants.{Void, Procedure, Word, Truth, Triple, Quad, Pair, Words, PushWords, Vectors, RuntimeWords, View, VectorsBlock, PushBlock, WordPointer, TriplePointer, LocalPointer, SharedPointer, ViewPointer, VectorsPointer, PushPointer}
use Rattle.spirv_symbols.specs.Contexts.{Context, declared_of, size_of}
use Rattle.spirv_symbols.specs.Rows.{section_of, instr_for, input_pointer, uav_access}
use Rattle.spirv_symbols.specs.Tables.{Entry, Has, id_of}

-- in front of the function
abbrev pub is_front : Section → Bool
is_front Heads = false
is_front Labels = false
is_front Locals = false
is_front section = true

-- A code defines the ids of symbols by their instructions, those of the front among its declarations.
pub record Defines (c : Context) (entries : List Entry) (code : List Instr) : Type 0 where
  pub whole : (s : Symbol) (x : ℕ) → Has entries s x → definition code x ≡ Some (instr_for c (id_of entries) s x)
  pub front : (s : Symbol) (x : ℕ) → Has entries s x → is_front (section_of c s) ≡ true
      → definition (declared code) x ≡ Some (instr_for c (id_of entries) s x)

-- the sort of a type, where the ids of types are told
abbrev pub id_of_type : List Entry → TypeSymbol → ℕ
id_of_type entries t = id_of entries (AType t)

abbrev pub sort_for : (TypeSymbol → ℕ) → TypeSymbol → sort.Sort
sort_for ids Void = sort.Void
sort_for ids Procedure = sort.Function (ids Void) []
sort_for ids Word = sort.Words
sort_for ids Truth = sort.Truths
sort_for ids Triple = sort.Vector (ids Word) 3
sort_for ids Quad = sort.Vector (ids Word) 4
sort_for ids Pair = sort.Struct (ids Word ∷ ids Word ∷ [])
sort_for ids (Words n) = sort.Array (ids Word) n
sort_for ids (PushWords n) = sort.Array (ids Word) n
sort_for ids (Vectors n) = sort.Array (ids Quad) n
sort_for ids RuntimeWords = sort.RuntimeArray (ids Word)
sort_for ids (View access) = sort.Struct (ids RuntimeWords ∷ [])
sort_for ids (VectorsBlock n) = sort.Struct (ids (Vectors n) ∷ [])
sort_for ids (PushBlock n) = sort.Struct (ids (PushWords n) ∷ [])
sort_for ids (WordPointer class) = sort.Pointer class (ids Word)
sort_for ids TriplePointer = sort.Pointer storage.Input (ids Triple)
sort_for ids (LocalPointer n) = sort.Pointer storage.Function (ids (Words n))
sort_for ids (SharedPointer n) = sort.Pointer storage.Workgroup (ids (Words n))
sort_for ids (ViewPointer access) = sort.Pointer storage.StorageBuffer (ids (View access))
sort_for ids (VectorsPointer n) = sort.Pointer storage.Uniform (ids (VectorsBlock n))
sort_for ids (PushPointer n) = sort.Pointer storage.PushConstant (ids (PushBlock n))

-- the type of a constant or a variable
abbrev pub memory_type : Context → Room → TypeSymbol
memory_type c (Resource slot) = ViewPointer ReadOnly
memory_type c (Uav slot) = ViewPointer (uav_access (declared_of c (Memory (Uav slot))).coherent)
memory_type c (Counter slot) = ViewPointer Plain
memory_type c (Shared slot) = SharedPointer (size_of c (Memory (Shared slot)))

abbrev pub value_type : Context → Symbol → Option TypeSymbol
value_type c (Constant w) = Some Word
value_type c True = Some Truth
value_type c (Null n) = Some (Words n)
value_type c Immediates = Some (Words (length c.immediates))
value_type c (Input built_in) = Some (input_pointer built_in)
value_type c (Memory room) = Some (memory_type c room)
value_type c (Uniform slot) = Some (VectorsPointer (size_of c (Uniform slot)))
value_type c Push = Some (PushPointer c.pushed)
value_type c (Scratch n) = Some (WordPointer storage.Function)
value_type c (Register k) = Some (WordPointer storage.Function)
value_type c Registers = Some (LocalPointer c.registers)
value_type c (Elements slot) = Some (LocalPointer (size_of c (Elements slot)))
value_type c ImmediateArray = Some (LocalPointer (length c.immediates))
value_type c s = None
