-- What the table of instructions says of each one: its operands, the sorts that it asks of them, what its result is, where it may stand
-- and what it is to the blocks of its function (SPIR-V specification, unified1, sections 2.2, 2.4 and 2.11).
use Rattle.std.specs.Prelude.{ℕ, nat_eq, if◌then◌else◌, List, [], ◌∷◌}
use Rattle.spirv_words.specs.StorageClass as storage_class

-- OPERANDS. An id is used where it must be defined before, and named where it may be defined later (by entry points, modes, decorations,
-- merges and branches). Parts of any number take all words that are left.
pub data Part : Type 0 where
  ResultType : Part
  Result : Part
  Use : Part
  Name : Part
  Literal : Part
  Text : Part
  OptionalUse : Part
  OptionalLiteral : Part
  Uses : Part
  Names : Part
  Literals : Part
  Targets : Part

-- SORTS. What most instructions ask of values:
pub data ValueSort : Type 0 where
  AWord : ValueSort
  ATruth : ValueSort
  APair : ValueSort

-- The instructions by what they ask: those that make a value of one sort from values of another, those that use values of one sort, and
-- the rest, each by itself.
pub data Asks : Type 0 where
  Makes : (result operands : ValueSort) → Asks
  Takes : (operands : ValueSort) → Asks
  Selects : Asks
  Loads : Asks
  Stores : Asks
  Chains : Asks
  Lengths : Asks
  Extracts : Asks
  Composes : Asks
  Gathers : Asks
  Constants : Asks
  Nulls : Asks
  Extends : Asks
  Atomics : Asks
  Variables : Asks
  Functions : Asks
  Types : Asks
  Integers : Asks
  Arrays : Asks
  Pointers : Asks
  Free : Asks

-- RESULTS. What an instruction defines. A module has a type that stands once, `ATypeOnce`, not twice with the same operands.
pub data Defined : Type 0 where
  Nothing : Defined
  AnImport : Defined
  AType : Defined
  ATypeOnce : Defined
  AConstant : Defined
  AValue : Defined
  AFunction : Defined
  ALabel : Defined

-- PLACES. Where an instruction may stand:
pub data Section : Type 0 where
  Capability : Section
  Import : Section
  Model : Section
  Entry : Section
  Mode : Section
  Decoration : Section
  Declaration : Section
  Function : Section
  Closing : Section
  Body : Section

-- BLOCKS. What an instruction is to the blocks. One that branches in no form of the table is plain, so that its block has no end.
pub data Flow : Type 0 where
  Plain : Flow
  Local : Flow
  Begins : Flow
  Closes : Flow
  Label : (label : ℕ) → Flow
  Merge : (merge : ℕ) → Flow
  LoopMerge : (merge continue : ℕ) → Flow
  Branch : (label : ℕ) → Flow
  Choose : (first second : ℕ) → Flow
  Switch : (other : ℕ) (targets : List ℕ) → Flow
  Leave : Flow

-- the second word of each pair, which is a case's label
abbrev pub seconds : List ℕ → List ℕ
seconds [] = []
seconds (value ∷ []) = []
seconds (value ∷ label ∷ rest) = label ∷ seconds rest

-- flows by the operands
abbrev pub labels : List ℕ → Flow
labels (label ∷ []) = Label label
labels os = Plain

abbrev pub merges : List ℕ → Flow
merges (merge ∷ control ∷ []) = Merge merge
merges os = Plain

abbrev pub merges_loop : List ℕ → Flow
merges_loop (merge ∷ continue ∷ control ∷ []) = LoopMerge merge continue
merges_loop os = Plain

abbrev pub branches : List ℕ → Flow
branches (label ∷ []) = Branch label
branches os = Plain

abbrev pub chooses : List ℕ → Flow
chooses (c ∷ first ∷ second ∷ []) = Choose first second
chooses os = Plain

abbrev pub switches : List ℕ → Flow
switches (x ∷ other ∷ cases) = Switch other (seconds cases)
switches os = Plain

-- A variable of Function stands in the function, and is one of those at the head of its first block.
abbrev pub class_flow : ℕ → Flow
class_flow class = if nat_eq class storage_class.Function then Local else Plain

abbrev pub variable_flow : List ℕ → Flow
variable_flow (t ∷ r ∷ class ∷ rest) = class_flow class
variable_flow os = Plain

abbrev pub class_section : ℕ → Section
class_section class = if nat_eq class storage_class.Function then Body else Declaration

abbrev pub variable_section : List ℕ → Section
variable_section (t ∷ r ∷ class ∷ rest) = class_section class
variable_section os = Declaration
