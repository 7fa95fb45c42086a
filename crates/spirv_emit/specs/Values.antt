-- What code computes in each finished module that completes it.
use Rattle.std.specs.Prelude.{◌≡◌, ℕ, ◌+◌, ◌<◌, List, [], ◌∷◌, length, Option, Some, None, Ok, Err}
use Rattle.word_base.specs.Lanes.{Goes}
use Rattle.kept_values.specs.Tables.{Table, dirty_in}
use Rattle.shader_tree.specs.Terms.{Term}
use Rattle.shader_tree.specs.Terms as term
use Rattle.shader_tree.specs.Values.{Words}
use Rattle.shader_tree.specs.Values as tree
use Rattle.shader_tree.specs.Holding.{OfWords}
use Rattle.spirv_words.specs.Globals.{Places}
use Rattle.spirv_words.specs.Sorts.{sort_of_value}
use Rattle.spirv_words.specs.Text.{Instr}
use Rattle.spirv_words.specs.Values.{Value, Word, Truth, Got}
use Rattle.spirv_words.specs.Lane.{State, step}
use Rattle.spirv_symbols.specs.declared.symbol.TypeSymbol.{TypeSymbol}
use Rattle.spirv_symbols.specs.declared.symbol.TypeSymbol.TheVariants as symbol
use Rattle.spirv_symbols.specs.declared.entry.Entry.{Entry}
use Rattle.spirv_emit.specs.Emission.{Emission, next_of, spaces_of}
use Rattle.spirv_emit.specs.Code.{Typed, Defines, ArePlain, IsOf, AreTyped, Covers, CoversKept, behind}
use Rattle.spirv_emit.specs.Lanes.{Site, Mirrors, Stands}
use Rattle.spirv_emit.specs.Growing.{Grows, Completes}
use Rattle.spirv_emit.specs.Linked.{IsPointer, IsLinked, StandsIn}
use Rattle.spirv_emit.specs.ModuleShape.{shape_of}

-- AN ID of code, with the symbol of its type. Lists of them have lists of values.
pub record Slot : Type 0 where
  pub id : ℕ
  pub type' : TypeSymbol

abbrev pub slot : ℕ → TypeSymbol → Slot
slot id type = record { id = id; type' = type }

abbrev pub a_word : ℕ → Slot
a_word id = slot id symbol.Word

abbrev pub a_truth : ℕ → Slot
a_truth id = slot id symbol.Truth

abbrev pub a_pair : ℕ → Slot
a_pair id = slot id symbol.Pair

abbrev pub AreValues : (ℕ → Option Value) → List Slot → List Value → Type 0
AreValues values [] [] = Unit {0}
AreValues values (x ∷ xs) (v ∷ vs) = (values x.id ≡ Some v) × AreValues values xs vs
AreValues values xs vs = ⊥

abbrev pub AreBelow : ℕ → List Slot → Type 0
AreBelow n [] = Unit {0}
AreBelow n (x ∷ xs) = (x.id < n) × AreBelow n xs

abbrev pub AreKnown : List Entry → List Typed → List Slot → Type 0
AreKnown names known [] = Unit {0}
AreKnown names known (x ∷ xs) = IsOf names known x.type' x.id × AreKnown names known xs

-- pointers to words are of their classes
abbrev pub HasClass : List Instr → TypeSymbol → ℕ → Type 0
HasClass code (symbol.WordPointer class) id = IsPointer (sort_of_value code id) class
HasClass code type id = Unit {0}

abbrev pub HaveClasses : List Instr → List Slot → Type 0
HaveClasses code [] = Unit {0}
HaveClasses code (x ∷ xs) = HasClass code x.type' x.id × HaveClasses code xs

-- The lane runs through the code of one block from s to t, and changes only the ids that the code defines.
pub record Runs (z : Site) (seg : List Instr) (s t : State) : Type 0 where
  pub goes : Goes (step z.machine) (length seg) s t
  pub place : t.place ≡ s.place + length seg
  pub kept : (id : ℕ) → (Defines seg id → ⊥) → t.values id ≡ s.values id

-- It runs through the code, mirrors the same words, and then the ids have the values.
pub record Reaches (z : Site) (seg : List Instr) (table : Table) (rs : List Slot) (vs : List Value) (s : State)
    (t : Words) : Type 0 where
  pub to : State
  pub runs : Runs z seg s to
  pub mirrors : Mirrors z table to t
  pub values : AreValues to.values rs vs

-- The code takes only what is known in front of it, and behind it the ids are known.
pub record Knowing (names : List Entry) (globals known : List Typed) (seg : List Instr) (table : Table)
    (rs : List Slot) : Type 0 where
  pub typed : AreTyped names globals known seg
  pub kept : CoversKept names table (behind globals known seg)
  pub results : AreKnown names (behind globals known seg) rs

-- The code has no event in a finished module, and behind it the ids that are pointers are of their classes.
pub record Quiet (z : Site) (places : Places) (seg : List Instr) (rs : List Slot) : Type 0 where
  pub none : shape_of z.machine.code places seg ≡ []
  pub classes : HaveClasses z.machine.code rs

-- what ids have by what others have, in a finished module and with these words of the tree's lane
abbrev pub Meaning : Type 0
Meaning = Site → Words → List Value → Got (List Value)

-- CODE OF ONE BLOCK WAS ADDED that gives the ids rs values by those of the ids xs.
pub record Gives (old new : Emission) (xs rs : List Slot) (f : Meaning) : Type 0 where
  pub seg : List Instr
  pub grows : Grows old new seg
  pub plain : ArePlain seg
  pub below : AreBelow (next_of old) xs → AreBelow (next_of new) rs
  pub known : (z : Site) → Completes new z → (globals known : List Typed) → Covers z.names z.frame.context known
      → CoversKept z.names old.kept known → AreKnown z.names known xs → Knowing z.names globals known seg new.kept rs
  pub quiet : (z : Site) (places : Places) → Completes new z → IsLinked z places → StandsIn z seg
      → HaveClasses z.machine.code xs → Quiet z places seg rs
  pub law : (z : Site) → Completes new z → AreBelow (next_of old) xs → (s : State) (t : Words) (vs ws : List Value)
      → Stands z seg old.kept s t → AreValues s.values xs vs → f z t vs ≡ Ok ws → Reaches z seg new.kept rs ws s t

-- EXPRESSIONS: the value as the module's lane has it, and the type of its id.
abbrev pub as_value : tree.Value → Value
as_value (tree.IsWord w) = Word w
as_value (tree.IsTruth b) = Truth b

abbrev pub got_of : Option tree.Value → Got (List Value)
got_of None = Err 0
got_of (Some v) = Ok (as_value v ∷ [])

abbrev pub valued : Term → Meaning
valued x z t vs = got_of (tree.value (spaces_of z.frame) z.machine.setting t x)

abbrev pub type_of_term : Term → TypeSymbol
type_of_term (term.Compare how a b) = symbol.Truth
type_of_term (term.Both a b) = symbol.Truth
type_of_term x = symbol.Word

-- Code for the expression was added, and r is the id of its value: where the tree's lane gives it one, the module's
-- lane runs through the code without breaking a rule, and the id has that value.
pub record Emitted (old new : Emission) (x : Term) (r : ℕ) : Type 0 where
  pub gives : Gives old new [] (slot r (type_of_term x) ∷ []) (valued x)
  pub literals : OfWords x

-- WORDS THAT WAIT were written to memory: all of them.
abbrev pub nothing : Meaning
nothing z t vs = Ok []

pub record Flushed (old new : Emission) : Type 0 where
  pub gives : Gives old new [] [] nothing
  pub clean : dirty_in new.kept ≡ []

-- One word that waited was written to memory.
pub record Saves (old new : Emission) : Type 0 where
  pub gives : Gives old new [] [] nothing
  pub count : length (dirty_in old.kept) ≡ length (dirty_in new.kept) + 1
