-- While the lane of a finished module runs code that was emitted: what the ids of symbols stand for, and what the lane
-- has of the words of the tree's lane.
use Rattle.std.specs.Prelude.{◌≡◌, ℕ, ◌+◌, ◌/◌, ◌%◌, ◌<◌, ◌≤◌, ◌^◌, nat_eq, true, false, List, [], ◌∷◌, length, Option, Some, None, slice_get, slice_index, IsTrue}
use Rattle.word_base.specs.declared.event.Room.{Room}
use Rattle.word_base.specs.declared.event.Room.TheVariants as room
use Rattle.binding_map.specs.declared.register.Place.TheVariants.{Push as InPush}
use Rattle.kept_values.specs.declared.word.Word.{Word as Kept}
use Rattle.kept_values.specs.declared.word.Word.TheVariants as kept
use Rattle.kept_values.specs.Tables.{Table, id_in, dirty_in, Among}
use Rattle.shader_tree.specs.declared.node.Space.{Space}
use Rattle.shader_tree.specs.declared.node.Space.TheVariants as space
use Rattle.shader_tree.specs.Values.{Words, size_of}
use Rattle.shader_tree.specs.Holding.{AreGiven, HoldWords}
use Rattle.spirv_words.specs.StorageClass as storage
use Rattle.spirv_words.specs.BuiltIn.{LocalInvocationIndex}
use Rattle.spirv_words.specs.Decoration.{ArrayStride, Offset}
use Rattle.spirv_words.specs.Text.{Instr}
use Rattle.spirv_words.specs.Sorts.{Pointer, Vector, Array, RuntimeArray, Struct, sort_of, sort_of_value}
use Rattle.spirv_words.specs.Sorts as sort
use Rattle.spirv_words.specs.Operands.{is_sorted, is_defined}
use Rattle.spirv_words.specs.Values.{Value, AtLocal, AtRoom, AtConstants, AtPush, AtInput}
use Rattle.spirv_words.specs.Values as value
use Rattle.spirv_words.specs.Globals.{Machine, decoration, member_decoration, push_word}
use Rattle.spirv_words.specs.Lane.{State, is_glsl}
use Rattle.spirv_symbols.specs.declared.symbol.Symbol.{Symbol}
use Rattle.spirv_symbols.specs.declared.symbol.Symbol.TheVariants.{AType, Constant, True, Import, Input, Memory, Uniform, Push, Scratch, Register, Registers, Elements, ImmediateArray}
use Rattle.spirv_symbols.specs.declared.symbol.TypeSymbol.TheVariants.{Word}
use Rattle.spirv_symbols.specs.Contexts.{Context}
use Rattle.spirv_symbols.specs.Contexts as context
use Rattle.spirv_symbols.specs.declared.entry.Entry.{Entry}
pub use Rattle.spirv_symbols.specs.Starts.{HasAt, meaning}
use Rattle.spirv_symbols.specs.Tables.{Has}
use Rattle.spirv_emit.specs.declared.buffer.ConstantBuffer.{ConstantBuffer}
use Rattle.spirv_emit.specs.Emission.{Frame, spaces_of, buffer_of, space_of_element, index_of_element}

-- WHAT THE IDS OF SYMBOLS STAND FOR: constants, or where variables are.
abbrev pub Knows : List Entry → (ℕ → Option Value) → Type 0
Knows names values = (s : Symbol) (id : ℕ) (v : Value) → Has names s id → meaning s id ≡ Some v → values id ≡ Some v

-- THE TYPES of variables, as far as an access chain asks. An array of words that lie side by side:
pub record IsArray (code : List Instr) (class id count : ℕ) : Type 0 where
  pub array : ℕ
  pub element : ℕ
  pub pointer : sort_of_value code id ≡ Pointer class array
  pub array' : sort_of code array ≡ Array element count
  pub element' : sort_of code element ≡ sort.Words

-- the block of an array of words of four bytes each, of push constants and of views
pub record IsPushBlock (code : List Instr) (id count : ℕ) : Type 0 where
  pub block : ℕ
  pub array : ℕ
  pub element : ℕ
  pub pointer : sort_of_value code id ≡ Pointer storage.PushConstant block
  pub block' : sort_of code block ≡ Struct (array ∷ [])
  pub array' : sort_of code array ≡ Array element count
  pub element' : sort_of code element ≡ sort.Words
  pub offset : member_decoration code block 0 Offset ≡ Some 0
  pub stride : decoration code array ArrayStride ≡ Some 4

pub record IsView (code : List Instr) (id : ℕ) : Type 0 where
  pub block : ℕ
  pub array : ℕ
  pub element : ℕ
  pub pointer : sort_of_value code id ≡ Pointer storage.StorageBuffer block
  pub block' : sort_of code block ≡ Struct (array ∷ [])
  pub array' : sort_of code array ≡ RuntimeArray element
  pub element' : sort_of code element ≡ sort.Words
  pub offset : member_decoration code block 0 Offset ≡ Some 0
  pub stride : decoration code array ArrayStride ≡ Some 4

-- the block of an array of vectors of four words
pub record IsVectors (code : List Instr) (id count : ℕ) : Type 0 where
  pub block : ℕ
  pub array : ℕ
  pub vector : ℕ
  pub element : ℕ
  pub pointer : sort_of_value code id ≡ Pointer storage.Uniform block
  pub block' : sort_of code block ≡ Struct (array ∷ [])
  pub array' : sort_of code array ≡ Array vector count
  pub vector' : sort_of code vector ≡ Vector element 4
  pub element' : sort_of code element ≡ sort.Words
  pub offset : member_decoration code block 0 Offset ≡ Some 0
  pub stride : decoration code array ArrayStride ≡ Some 16

-- a vector of three words
pub record IsTriple (code : List Instr) (id : ℕ) : Type 0 where
  pub vector : ℕ
  pub element : ℕ
  pub pointer : sort_of_value code id ≡ Pointer storage.Input vector
  pub vector' : sort_of code vector ≡ Vector element 3
  pub element' : sort_of code element ≡ sort.Words

abbrev pub HasMemorySort : List Instr → Context → Room → ℕ → Type 0
HasMemorySort code c (room.Shared slot) id =
    IsArray code storage.Workgroup id (context.size_of c (Memory (room.Shared slot)))
HasMemorySort code c view id = IsView code id

abbrev pub HasSort : List Instr → Context → Symbol → ℕ → Type 0
HasSort code c (AType Word) id = sort_of code id ≡ sort.Words
HasSort code c Import id = is_glsl code id ≡ true
HasSort code c (Input built_in) id = nat_eq built_in LocalInvocationIndex ≡ false → IsTriple code id
HasSort code c (Memory room) id = HasMemorySort code c room id
HasSort code c (Uniform slot) id = IsVectors code id (context.size_of c (Uniform slot))
HasSort code c Push id = IsPushBlock code id c.pushed
HasSort code c Registers id = IsArray code storage.Function id c.registers
HasSort code c (Elements slot) id = IsArray code storage.Function id (context.size_of c (Elements slot))
HasSort code c ImmediateArray id = IsArray code storage.Function id (length c.immediates)
HasSort code c s id = Unit {0}

-- THE SETTING fits what the program and its bindings say.
pub record FitsSetting (f : Frame) (names : List Entry) (m : Machine) : Type 0 where
  pub given : AreGiven (spaces_of f) m.setting
  pub counters : (slot id : ℕ) → Has names (Memory (room.Counter slot)) id → m.setting.extent (room.Counter slot) ≡ 1
  pub shared : (slot : ℕ) → m.setting.extent (room.Shared slot) ≡ context.size_of f.context (Memory (room.Shared slot))
  pub vectors : (slot : ℕ) (b : ConstantBuffer) → buffer_of f.buffers.list slot ≡ Some b
      → b.vectors ≤ context.size_of f.context (Uniform slot)
  pub few : f.context.pushed < 2 ^ 32
  pub pushed : (slot first count : ℕ) (b : ConstantBuffer) → buffer_of f.buffers.list slot ≡ Some b
      → b.place ≡ InPush first count
      → (w : ℕ) → w < count → (first + w < f.context.pushed)
      × (push_word m (first + w) ≡ slice_index (m.setting.constants slot) w)
  pub past : (slot first count : ℕ) (b : ConstantBuffer) → buffer_of f.buffers.list slot ≡ Some b
      → b.place ≡ InPush first count
      → (w : ℕ) → count ≤ w → slice_index (m.setting.constants slot) w ≡ 0

-- A FINISHED MODULE with all its symbols, run by a lane under a setting: no instruction has operands of other sorts or
-- without definitions, and the symbols have their types.
pub record Site : Type 0 where
  pub frame : Frame
  pub names : List Entry
  pub machine : Machine

pub record IsWhole (z : Site) : Type 0 where
  pub sorted : (k : ℕ) (i : Instr) → slice_get z.machine.code k ≡ Some i → IsTrue (is_sorted z.machine.code i)
  pub defined : (k : ℕ) (i : Instr) → slice_get z.machine.code k ≡ Some i → IsTrue (is_defined z.machine.code i)
  pub sorts : (s : Symbol) (id : ℕ) → Has z.names s id → HasSort z.machine.code z.frame.context s id
  pub fits : FitsSetting z.frame z.names z.machine

-- THE WORDS OF THE TREE'S LANE. A word that may be kept as an id:
abbrev pub element_at : Words → Space → ℕ → ℕ
element_at t space.Temps i = t.registers.temp (i / 4) (i % 4)
element_at t (space.Indexable slot) i = t.registers.indexable slot (i / 4) (i % 4)
element_at t constants i = 0

abbrev pub word_of : Words → Kept → ℕ
word_of t (kept.Scratch n) = t.scratch n
word_of t (kept.Register k) = t.registers.temp (k / 4) (k % 4)
word_of t (kept.Element n) = element_at t (space_of_element n) (index_of_element n)

-- Words of r# are kept as registers where each has a variable of its own, and else as elements.
abbrev pub IsUsed : Frame → Kept → Type 0
IsUsed f (kept.Scratch n) = Unit {0}
IsUsed f (kept.Register k) = f.separate ≡ true
IsUsed f (kept.Element n) = space_of_element n ≡ space.Temps → f.separate ≡ false

-- A word that waits is not in memory. One of an array that does lies inside.
abbrev pub IsClean : List Kept → Kept → Type 0
IsClean dirty w = Among dirty w → ⊥

abbrev pub IsInside : Frame → Kept → Type 0
IsInside f (kept.Element n) = index_of_element n < size_of (spaces_of f) (space_of_element n)
IsInside f w = Unit {0}

-- no word of an array that waits is that one
abbrev pub IsCleanAt : List Kept → Space → ℕ → Type 0
IsCleanAt dirty space i = (n : ℕ) → space_of_element n ≡ space → index_of_element n ≡ i → IsClean dirty (kept.Element n)

abbrev pub HoldsArray : Frame → (ℕ → Option ℕ) → List Kept → Words → Space → Type 0
HoldsArray f cells dirty t space =
    (i : ℕ) → i < size_of (spaces_of f) space → IsCleanAt dirty space i → cells i ≡ Some (element_at t space i)

-- what the variable of a symbol holds, but for the words that wait
abbrev pub Holds : Frame → (ℕ → Option ℕ) → List Kept → Words → Symbol → Type 0
Holds f cells dirty t (Scratch n) = IsClean dirty (kept.Scratch n) → cells 0 ≡ Some (t.scratch n)
Holds f cells dirty t (Register k) =
    f.separate ≡ true → IsClean dirty (kept.Register k) → cells 0 ≡ Some (word_of t (kept.Register k))
Holds f cells dirty t Registers = f.separate ≡ false → HoldsArray f cells dirty t space.Temps
Holds f cells dirty t (Elements slot) = HoldsArray f cells dirty t (space.Indexable slot)
Holds f cells dirty t ImmediateArray =
    (i : ℕ) → i < length f.context.immediates → cells i ≡ Some (slice_index f.context.immediates i)
Holds f cells dirty t s = Unit {0}

-- THE LANE MIRRORS the tree's: it knows the ids of all symbols, each word with an id is the id's value, and each word
-- that does not wait is in memory.
pub record Mirrors (z : Site) (table : Table) (s : State) (t : Words) : Type 0 where
  pub knows : Knows z.names s.values
  pub ids : (w : Kept) (id : ℕ) → id_in table w ≡ Some id → IsUsed z.frame w
      → s.values id ≡ Some (value.Word (word_of t w))
  pub inside : (w : Kept) → Among (dirty_in table) w → IsUsed z.frame w × IsInside z.frame w
  pub cells : (y : Symbol) (id : ℕ) → Has z.names y id → Holds z.frame (s.memory id) (dirty_in table) t y

-- The lane stands where the code stands, and mirrors the tree's, whose words are below 2 ^ 32.
pub record Stands (z : Site) (seg : List Instr) (table : Table) (s : State) (t : Words) : Type 0 where
  pub here : HasAt z.machine.code s.place seg
  pub mirrors : Mirrors z table s t
  pub words : HoldWords t
