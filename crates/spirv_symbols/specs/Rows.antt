-- The symbols of a module, one row each: the instruction that declares it, in which section it stands, what it needs in
-- front of it, and how its own id is decorated (SPIR-V specification, unified1, sections 2.4, 3.20 and 3.52.6 to
-- 3.52.8).
use Rattle.std.specs.Prelude.{ℕ, zero, suc, ◌+◌, nat_eq, if◌then◌else◌, Bool, List, [], ◌∷◌, length, map}
use Rattle.word_base.specs.declared.event.Room.{Room}
use Rattle.word_base.specs.declared.event.Room.TheVariants.{Resource, Uav, Counter, Shared}
use Rattle.spirv_words.specs.StorageClass as storage
use Rattle.spirv_words.specs.Decoration as decoration
use Rattle.spirv_words.specs.BuiltIn.{LocalInvocationIndex}
use Rattle.spirv_words.specs.Enumerants.{glsl_text}
use Rattle.spirv_words.specs.Operations.{Op, number_of, OpDecorate, OpMemberDecorate, OpExtInstImport, OpTypeVoid, OpTypeBool, OpTypeInt, OpTypeVector, OpTypeArray, OpTypeRuntimeArray, OpTypeStruct, OpTypePointer, OpTypeFunction, OpConstantTrue, OpConstant, OpConstantComposite, OpConstantNull, OpFunction, OpVariable, OpLabel}
use Rattle.spirv_words.specs.Text.{Instr, instr, instruction}
use Rattle.spirv_symbols.specs.declared.symbol.Access.{Access}
use Rattle.spirv_symbols.specs.declared.symbol.Access.TheVariants.{Plain, ReadOnly, Coherent}
use Rattle.spirv_symbols.specs.declared.symbol.Symbol.{Symbol}
use Rattle.spirv_symbols.specs.declared.symbol.Symbol.TheVariants.{AType, Constant, True, Null, Immediates, Import, Main, FirstLabel, Input, Memory, Uniform, Push, Scratch, Register, Registers, Elements, ImmediateArray}
use Rattle.spirv_symbols.specs.declared.symbol.TypeSymbol.{TypeSymbol}
use Rattle.spirv_symbols.specs.declared.symbol.TypeSymbol.TheVariants.{Void, Procedure, Word, Truth, Triple, Quad, Pair, Words, PushWords, Vectors, RuntimeWords, View, VectorsBlock, PushBlock, WordPointer, TriplePointer, LocalPointer, SharedPointer, ViewPointer, VectorsPointer, PushPointer}
use Rattle.spirv_symbols.specs.declared.symbol.Section.{Section}
use Rattle.spirv_symbols.specs.declared.symbol.Section.TheVariants.{Imports, Types, Constants, Declarations, Heads, Labels, Locals}
use Rattle.spirv_symbols.specs.declared.declared.Declared.{Declared}
use Rattle.spirv_symbols.specs.declared.row.Part.{Part}
use Rattle.spirv_symbols.specs.declared.row.Part.TheVariants.{Own, Of, Number}
use Rattle.spirv_symbols.specs.declared.row.Marks.{Marks}
use Rattle.spirv_symbols.specs.declared.row.Marks.TheVariants.{Nothing, Stride, Block, Bound, BuiltIn}
use Rattle.spirv_symbols.specs.Contexts.{Context, declared_of, size_of}

-- An operand is the symbol's own id, the id of a symbol that it needs, or a number.
pub record Row : Type 0 where
  pub section : Section
  pub op : Op
  pub parts : List Part
  pub marks : Marks

abbrev pub row : Section → Op → List Part → Marks → Row
row section op parts marks = record { section = section; op = op; parts = parts; marks = marks }

-- types that need no constant
abbrev pub simple_row : Op → List Part → Marks → Row
simple_row op parts marks = row Types op (Own ∷ parts) marks

-- types that need a constant
abbrev pub sized_row : Op → List Part → Marks → Row
sized_row op parts marks = row Declarations op (Own ∷ parts) marks

abbrev pub value_row : Section → Op → Symbol → List Part → Marks → Row
value_row section op type parts marks = row section op (Of type ∷ Own ∷ parts) marks

abbrev pub bound_at : Declared → Marks
bound_at d = Bound d.set d.binding

-- global variables, and those of the function, which have an initializer
abbrev pub global_row : TypeSymbol → ℕ → Marks → Row
global_row pointer class marks = value_row Declarations OpVariable (AType pointer) (Number class ∷ []) marks

abbrev pub local_row : TypeSymbol → Symbol → Row
local_row pointer initializer = value_row Locals OpVariable (AType pointer) (Number storage.Function
    ∷ Of initializer ∷ []) Nothing

abbrev pub word_row : Row
word_row = local_row (WordPointer storage.Function) (Constant 0)

abbrev pub array_row : ℕ → Row
array_row size = local_row (LocalPointer size) (Null size)

abbrev pub uav_access : Bool → Access
uav_access coherent = if coherent then Coherent else Plain

abbrev pub memory_row : Context → Room → Row
memory_row context (Resource slot) =
    global_row (ViewPointer ReadOnly) storage.StorageBuffer (bound_at (declared_of context (Memory (Resource slot))))
memory_row context (Uav slot) =
    global_row (ViewPointer (uav_access (declared_of context (Memory (Uav slot))).coherent)) storage.StorageBuffer
    (bound_at (declared_of context (Memory (Uav slot))))
memory_row context (Counter slot) =
    global_row (ViewPointer Plain) storage.StorageBuffer (bound_at (declared_of context (Memory (Counter slot))))
memory_row context (Shared slot) =
    global_row (SharedPointer (size_of context (Memory (Shared slot)))) storage.Workgroup Nothing

-- LocalInvocationIndex is one word, the other built-ins are three.
abbrev pub input_pointer : ℕ → TypeSymbol
input_pointer built_in = if nat_eq built_in LocalInvocationIndex then WordPointer storage.Input else TriplePointer

abbrev pub numbers : List ℕ → List Part
numbers ns = map (λ n. Number n) ns

abbrev pub type_row : TypeSymbol → Row
type_row Void = simple_row OpTypeVoid [] Nothing
type_row Procedure = simple_row OpTypeFunction (Of (AType Void) ∷ []) Nothing
type_row Word = simple_row OpTypeInt (Number 32 ∷ Number 0 ∷ []) Nothing
type_row Truth = simple_row OpTypeBool [] Nothing
type_row Triple = simple_row OpTypeVector (Of (AType Word) ∷ Number 3 ∷ []) Nothing
type_row Quad = simple_row OpTypeVector (Of (AType Word) ∷ Number 4 ∷ []) Nothing
type_row Pair = simple_row OpTypeStruct (Of (AType Word) ∷ Of (AType Word) ∷ []) Nothing
type_row (Words n) = sized_row OpTypeArray (Of (AType Word) ∷ Of (Constant n) ∷ []) Nothing
type_row (PushWords n) = sized_row OpTypeArray (Of (AType Word) ∷ Of (Constant n) ∷ []) (Stride 4)
type_row (Vectors n) = sized_row OpTypeArray (Of (AType Quad) ∷ Of (Constant n) ∷ []) (Stride 16)
type_row RuntimeWords = simple_row OpTypeRuntimeArray (Of (AType Word) ∷ []) (Stride 4)
type_row (View access) = simple_row OpTypeStruct (Of (AType RuntimeWords) ∷ []) (Block access)
type_row (VectorsBlock n) = sized_row OpTypeStruct (Of (AType (Vectors n)) ∷ []) (Block Plain)
type_row (PushBlock n) = sized_row OpTypeStruct (Of (AType (PushWords n)) ∷ []) (Block Plain)
type_row (WordPointer class) = simple_row OpTypePointer (Number class ∷ Of (AType Word) ∷ []) Nothing
type_row TriplePointer = simple_row OpTypePointer (Number storage.Input ∷ Of (AType Triple) ∷ []) Nothing
type_row (LocalPointer n) = sized_row OpTypePointer (Number storage.Function ∷ Of (AType (Words n)) ∷ []) Nothing
type_row (SharedPointer n) = sized_row OpTypePointer (Number storage.Workgroup ∷ Of (AType (Words n)) ∷ []) Nothing
type_row (ViewPointer access) = simple_row OpTypePointer (Number storage.StorageBuffer ∷ Of (AType (View access))
    ∷ []) Nothing
type_row (VectorsPointer n) = sized_row OpTypePointer (Number storage.Uniform ∷ Of (AType (VectorsBlock n))
    ∷ []) Nothing
type_row (PushPointer n) = sized_row OpTypePointer (Number storage.PushConstant ∷ Of (AType (PushBlock n)) ∷ []) Nothing

abbrev pub row_of : Context → Symbol → Row
row_of context (AType t) = type_row t
row_of context (Constant w) = value_row Constants OpConstant (AType Word) (Number w ∷ []) Nothing
row_of context True = value_row Declarations OpConstantTrue (AType Truth) [] Nothing
row_of context (Null n) = value_row Declarations OpConstantNull (AType (Words n)) [] Nothing
row_of context Immediates =
    value_row Declarations OpConstantComposite (AType (Words (length context.immediates)))
    (map (λ w. Of (Constant w)) context.immediates) Nothing
row_of context Import = row Imports OpExtInstImport (Own ∷ numbers glsl_text) Nothing
row_of context Main = row Heads OpFunction (Of (AType Void) ∷ Own ∷ Number 0 ∷ Of (AType Procedure) ∷ []) Nothing
row_of context FirstLabel = row Labels OpLabel (Own ∷ []) Nothing
row_of context (Input built_in) =
    global_row (input_pointer built_in) storage.Input (BuiltIn built_in)
row_of context (Memory room) = memory_row context room
row_of context (Uniform slot) =
    global_row (VectorsPointer (size_of context (Uniform slot))) storage.Uniform (bound_at (declared_of context
    (Uniform slot)))
row_of context Push = global_row (PushPointer context.pushed) storage.PushConstant Nothing
row_of context (Scratch n) = word_row
row_of context (Register k) = word_row
row_of context Registers = array_row context.registers
row_of context (Elements slot) = array_row (size_of context (Elements slot))
row_of context ImmediateArray = local_row (LocalPointer (length context.immediates)) Immediates

-- the symbols that must stand in front of a symbol
abbrev pub needs_in : List Part → List Symbol
needs_in [] = []
needs_in (Own ∷ parts) = needs_in parts
needs_in (Of s ∷ parts) = s ∷ needs_in parts
needs_in (Number n ∷ parts) = needs_in parts

abbrev pub needs : Context → Symbol → List Symbol
needs context s = needs_in (row_of context s).parts

abbrev pub section_of_type : TypeSymbol → Section
section_of_type t = (type_row t).section

abbrev pub section_of : Context → Symbol → Section
section_of context s = (row_of context s).section

-- the instruction, where the ids of symbols are told
abbrev pub operand : (Symbol → ℕ) → ℕ → Part → ℕ
operand ids own Own = own
operand ids own (Of s) = ids s
operand ids own (Number n) = n

abbrev pub instr_for : Context → (Symbol → ℕ) → Symbol → ℕ → Instr
instr_for context ids s own = instr (number_of (row_of context s).op) (map (operand ids own) (row_of context s).parts)

-- the decorations of an id, and of the one member of a block
abbrev pub decorated : ℕ → ℕ → List ℕ → Instr
decorated own kind literals = instruction OpDecorate (own ∷ kind ∷ literals)

abbrev pub member_decorated : ℕ → ℕ → List ℕ → Instr
member_decorated own kind literals = instruction OpMemberDecorate (own ∷ 0 ∷ kind ∷ literals)

abbrev pub access_decorations : ℕ → Access → List Instr
access_decorations own Plain = []
access_decorations own ReadOnly = member_decorated own decoration.NonWritable [] ∷ []
access_decorations own Coherent = member_decorated own decoration.Coherent [] ∷ []

abbrev pub decorations_by : ℕ → Marks → List Instr
decorations_by own Nothing = []
decorations_by own (Stride bytes) = decorated own decoration.ArrayStride (bytes ∷ []) ∷ []
decorations_by own (Block access) =
    decorated own decoration.Block [] ∷ member_decorated own decoration.Offset (0 ∷ []) ∷ access_decorations own access
decorations_by own (Bound set binding) =
    decorated own decoration.DescriptorSet (set ∷ []) ∷ decorated own decoration.Binding (binding ∷ []) ∷ []
decorations_by own (BuiltIn built_in) = decorated own decoration.BuiltIn (built_in ∷ []) ∷ []

abbrev pub decorations_for : Context → Symbol → ℕ → List Instr
decorations_for context s own = decorations_by own (row_of context s).marks

-- What a symbol needs has a lower rank.
abbrev pub rank_of_type : TypeSymbol → ℕ
rank_of_type Void = 0
rank_of_type Procedure = 1
rank_of_type Word = 0
rank_of_type Truth = 0
rank_of_type Triple = 1
rank_of_type Quad = 1
rank_of_type Pair = 1
rank_of_type (Words n) = 2
rank_of_type (PushWords n) = 2
rank_of_type (Vectors n) = 2
rank_of_type RuntimeWords = 1
rank_of_type (View access) = 2
rank_of_type (VectorsBlock n) = 3
rank_of_type (PushBlock n) = 3
rank_of_type (WordPointer class) = 1
rank_of_type TriplePointer = 2
rank_of_type (LocalPointer n) = 3
rank_of_type (SharedPointer n) = 3
rank_of_type (ViewPointer access) = 3
rank_of_type (VectorsPointer n) = 4
rank_of_type (PushPointer n) = 4

abbrev pub rank : Symbol → ℕ
rank (AType t) = rank_of_type t
rank (Constant w) = 1
rank True = 1
rank (Null n) = 3
rank Immediates = 3
rank Import = 0
rank Main = 2
rank FirstLabel = 0
rank other = 5

-- THE COST. The words of a symbol's instruction and decorations, and at most so many ids and words with all that it
-- needs.
abbrev pub words_of_marks : Marks → ℕ
words_of_marks Nothing = 0
words_of_marks (Stride bytes) = 4
words_of_marks (Block Plain) = 8
words_of_marks (Block access) = 12
words_of_marks (Bound set binding) = 8
words_of_marks (BuiltIn built_in) = 4

abbrev pub words_of : Context → Symbol → ℕ
words_of context s = length (row_of context s).parts + 1 + words_of_marks (row_of context s).marks

abbrev pub total : (Symbol → ℕ) → List Symbol → ℕ
total f [] = 0
total f (s ∷ ss) = f s + total f ss

abbrev pub with_needs : Context → (Symbol → ℕ) → ℕ → Symbol → ℕ
with_needs context f zero s = f s
with_needs context f (suc depth) s = f s + total (with_needs context f depth) (needs context s)

abbrev pub most_ids : Context → Symbol → ℕ
most_ids context s = with_needs context (λ _. 1) (rank s) s

abbrev pub most_words : Context → Symbol → ℕ
most_words context s = with_needs context (words_of context) (rank s) s
