-- What holds of the instructions of a function's code, whatever a lane does: which ids they define, and that each takes
-- ids that are known in front of it, of the types that it asks (SPIR-V specification, unified1, sections 2.4 and 2.16).
use Rattle.std.specs.Prelude.{◌≡◌, ℕ, ◌<◌, ◌||◌, ◌⊎◌, Bool, List, [], ◌∷◌, ◌++◌, map, Option, Some, None, IsTrue}
use Rattle.shader_tree.specs.Walks.{Each}
use Rattle.kept_values.specs.declared.word.Word.{Word as Kept}
use Rattle.kept_values.specs.Tables.{Table, id_in}
use Rattle.spirv_words.specs.StorageClass as storage
use Rattle.spirv_words.specs.StorageClass.{has_events, is_own, is_given}
use Rattle.spirv_words.specs.Roles.{ValueSort, AWord, ATruth, APair, Asks, Makes, Takes, Selects, Loads, Stores, Chains, Lengths, Extracts, Extends, Atomics, Free, Defined, AValue, Section, Body, Flow, Plain, Label}
use Rattle.spirv_words.specs.Operations.{Op, op_of, row_of}
use Rattle.spirv_words.specs.Text.{Instr}
use Rattle.spirv_words.specs.Ids.{ids_of, defines}
use Rattle.spirv_words.specs.Blocks.{flow_of}
use Rattle.spirv_symbols.specs.declared.symbol.Access.{Access}
use Rattle.spirv_symbols.specs.declared.symbol.Symbol.{Symbol}
use Rattle.spirv_symbols.specs.declared.symbol.Symbol.TheVariants.{AType, Constant, Import}
use Rattle.spirv_symbols.specs.declared.symbol.TypeSymbol.{TypeSymbol}
use Rattle.spirv_symbols.specs.declared.symbol.TypeSymbol.TheVariants.{Word, Truth, Pair, WordPointer, TriplePointer, LocalPointer, SharedPointer, ViewPointer, VectorsPointer, PushPointer}
use Rattle.spirv_symbols.specs.Contexts.{Context}
use Rattle.spirv_symbols.specs.Rows as symbols
use Rattle.spirv_symbols.specs.declared.row.Part.{Part}
use Rattle.spirv_symbols.specs.declared.row.Part.TheVariants.{Own, Of}
use Rattle.spirv_symbols.specs.declared.entry.Entry.{Entry}
use Rattle.spirv_symbols.specs.Tables.{Has}

-- x is one of a list
abbrev pub In : {X : Type 0} → List X → X → Type 0
In [] x = ⊥
In (y ∷ ys) x = (y ≡ x) ⊎ In ys x

-- the section of a module where an instruction stands
abbrev pub section_by : Option Op → List ℕ → Option Section
section_by None os = None
section_by (Some op) os = Some ((row_of op).section os)

abbrev pub section_of : Instr → Option Section
section_of i = section_by (op_of i.op) i.operands

-- the instruction stands in a function's body, and neither ends a block nor begins one
abbrev pub IsPlain : Instr → Type 0
IsPlain i = (flow_of i ≡ Plain) × (section_of i ≡ Some Body)

abbrev pub ArePlain : List Instr → Type 0
ArePlain seg = Each IsPlain seg

-- TYPES. An id that is known, with the id of its type.
pub record Typed : Type 0 where
  pub id : ℕ
  pub type' : ℕ

abbrev pub typed : ℕ → ℕ → Typed
typed id t = record { id = id; type' = t }

-- the type of a symbol that is a value
abbrev pub type_in : List Part → Option TypeSymbol
type_in (Of (AType type) ∷ Own ∷ rest) = Some type
type_in parts = None

abbrev pub type_of_symbol : Context → Symbol → Option TypeSymbol
type_of_symbol context s = type_in (symbols.row_of context s).parts

abbrev pub type_for : ValueSort → TypeSymbol
type_for AWord = Word
type_for ATruth = Truth
type_for APair = Pair

-- what an instruction is
abbrev pub asks_by : Option Op → Asks
asks_by None = Free
asks_by (Some op) = (row_of op).asks

abbrev pub asks_of : Instr → Asks
asks_of i = asks_by (op_of i.op)

abbrev pub typed_by : Defined → List ℕ → List Typed
typed_by AValue (t ∷ r ∷ os) = typed r t ∷ []
typed_by d os = []

abbrev pub typed_result : Instr → List Typed
typed_result i = typed_by (defines i) i.operands

-- the ids of the values that code defines; labels are none
abbrev pub values : List Instr → List ℕ
values [] = []
values (i ∷ is) = map (λ x. x.id) (typed_result i) ++ values is

abbrev pub Defines : List Instr → ℕ → Type 0
Defines seg id = In (values seg) id

abbrev pub is_loaded : ℕ → Bool
is_loaded class = has_events class || (is_own class || is_given class)

abbrev pub is_stored : ℕ → Bool
is_stored class = has_events class || is_own class

-- What is known behind an instruction: its result too, and behind a label the ids of symbols alone, which are the first
-- of the two lists.
abbrev pub known_by : Flow → List Typed → List Typed → List Typed
known_by (Label l) globals known = globals
known_by f globals known = known

abbrev pub known_behind : List Typed → List Typed → Instr → List Typed
known_behind globals known i = known_by (flow_of i) globals (typed_result i ++ known)

abbrev pub behind : List Typed → List Typed → List Instr → List Typed
behind globals known [] = known
behind globals known (i ∷ is) = behind globals (known_behind globals known i) is

module _ (names : List Entry) where
  -- an id that is known, of the type that is that symbol; and several
  abbrev pub IsOf : List Typed → TypeSymbol → ℕ → Type 0
  IsOf known type x = (t : ℕ) × Has names (AType type) t × In known (typed x t)

  abbrev pub AreOf : List Typed → TypeSymbol → List ℕ → Type 0
  AreOf known type xs = Each (IsOf known type) xs

  -- The indices of an access chain to one word, by what the pointer points to, whose words are of that class. The
  -- member of a block is the constant 0.
  abbrev pub Leads : List Typed → TypeSymbol → ℕ → List ℕ → Type 0
  Leads known TriplePointer class (x ∷ []) = (class ≡ storage.Input) × IsOf known Word x
  Leads known (LocalPointer n) class (x ∷ []) = (class ≡ storage.Function) × IsOf known Word x
  Leads known (SharedPointer n) class (x ∷ []) = (class ≡ storage.Workgroup) × IsOf known Word x
  Leads known (ViewPointer access) class (z ∷ x ∷ []) =
      (class ≡ storage.StorageBuffer) × Has names (Constant 0) z × AreOf known Word (z ∷ x ∷ [])
  Leads known (VectorsPointer n) class (z ∷ x ∷ y ∷ []) =
      (class ≡ storage.Uniform) × Has names (Constant 0) z × AreOf known Word (z ∷ x ∷ y ∷ [])
  Leads known (PushPointer n) class (z ∷ x ∷ []) =
      (class ≡ storage.PushConstant) × Has names (Constant 0) z × AreOf known Word (z ∷ x ∷ [])
  Leads known s class xs = ⊥

  -- what an instruction takes: uses of ids that are known, of the types that it asks
  abbrev pub TakesBy : List Typed → Asks → List ℕ → List ℕ → Type 0
  TakesBy known (Makes result operands) uses (t ∷ r ∷ xs) =
      Has names (AType (type_for result)) t × AreOf known (type_for operands) xs
  TakesBy known (Takes operands) uses os = AreOf known (type_for operands) uses
  TakesBy known Selects uses (t ∷ r ∷ c ∷ xs) = Has names (AType Word) t × IsOf known Truth c × AreOf known Word xs
  TakesBy known Loads uses (t ∷ r ∷ p ∷ []) =
      Has names (AType Word) t × ((class : ℕ) × IsOf known (WordPointer class) p × IsTrue (is_loaded class))
  TakesBy known Stores uses (p ∷ x ∷ []) =
      ((class : ℕ) × IsOf known (WordPointer class) p × IsTrue (is_stored class)) × IsOf known Word x
  TakesBy known Chains uses (t ∷ r ∷ p ∷ xs) =
      (class : ℕ) × (pointer : TypeSymbol) × Has names (AType (WordPointer class)) t × IsOf known pointer p
      × Leads known pointer class xs
  TakesBy known Lengths uses (t ∷ r ∷ p ∷ k ∷ []) =
      Has names (AType Word) t × ((access : Access) × IsOf known (ViewPointer access) p) × (k ≡ 0)
  TakesBy known Extracts uses (t ∷ r ∷ c ∷ k ∷ []) = Has names (AType Word) t × IsOf known Pair c × (k < 2)
  TakesBy known Extends uses (t ∷ r ∷ set ∷ n ∷ xs) =
      Has names (AType Word) t × Has names Import set × AreOf known Word xs
  TakesBy known Atomics uses (t ∷ r ∷ p ∷ xs) =
      Has names (AType Word) t × ((class : ℕ) × IsOf known (WordPointer class) p × IsTrue (has_events class))
      × AreOf known Word xs
  TakesBy known Free uses os = Unit {0}
  TakesBy known asks uses os = ⊥

  abbrev pub IsTyped : List Typed → Instr → Type 0
  IsTyped known i = TakesBy known (asks_of i) (ids_of i).uses i.operands

  -- each instruction takes ids that are known in front of it
  abbrev pub AreTyped : List Typed → List Typed → List Instr → Type 0
  AreTyped globals known [] = Unit {0}
  AreTyped globals known (i ∷ is) = IsTyped known i × AreTyped globals (known_behind globals known i) is

  -- the symbols that are values are known, and the ids of words that are kept
  abbrev pub Covers : Context → List Typed → Type 0
  Covers context known =
      (s : Symbol) (type : TypeSymbol) (id : ℕ) → Has names s id → type_of_symbol context s ≡ Some type
      → IsOf known type id

  abbrev pub CoversKept : Table → List Typed → Type 0
  CoversKept table known = (w : Kept) (id : ℕ) → id_in table w ≡ Some id → IsOf known Word id
