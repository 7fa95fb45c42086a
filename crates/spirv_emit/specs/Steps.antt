-- Steps of the writing.
use Rattle.std.specs.Prelude.{◌≡◌, ℕ, ◌+◌, ◌<◌, List, [], ◌∷◌, ◌++◌, Some, IsTrue}
use Rattle.word_base.specs.declared.event.Act.{Act}
use Rattle.kept_values.specs.declared.word.Word.{Word as Kept}
use Rattle.kept_values.specs.Tables.{id_in, Keeps, Puts, Pops, Drops, IsEmpty}
use Rattle.spirv_words.specs.Text.{Instr, instr, is_instr, words_of_instr}
use Rattle.spirv_symbols.specs.declared.symbol.Symbol.{Symbol}
use Rattle.spirv_symbols.specs.declared.symbol.Symbol.TheVariants.{AType, Constant}
use Rattle.spirv_symbols.specs.declared.symbol.TypeSymbol.TheVariants.{Word}
use Rattle.spirv_symbols.specs.Tables.{Has}
use Rattle.spirv_emit.specs.Emission.{Emission, next_of}
use Rattle.spirv_emit.specs.Growing.{Same, Grows}
use Rattle.spirv_emit.specs.Rooms.{number_of_act}

-- The id of a symbol was found or made.
pub record Named (old new : Emission) (s : Symbol) (r : ℕ) : Type 0 where
  pub grows : Grows old new []
  pub has : Has new.symbols.entries s r
  pub below : r < next_of new
  pub kept : new.kept ≡ old.kept

-- One instruction was added, without a result or with the next id as its result.
pub record Acts (old new : Emission) (i : Instr) : Type 0 where
  pub same : Same old new
  pub fits : IsTrue (is_instr i)
  pub code : new.code.list ≡ old.code.list ++ words_of_instr i
  pub symbols : new.symbols ≡ old.symbols
  pub kept : new.kept ≡ old.kept

pub record Adds (old new : Emission) (i : Instr) (r : ℕ) : Type 0 where
  pub same : Same old new
  pub fits : IsTrue (is_instr i)
  pub code : new.code.list ≡ old.code.list ++ words_of_instr i
  pub entries : new.symbols.entries ≡ old.symbols.entries
  pub next : next_of new ≡ next_of old + 1
  pub result : r ≡ next_of old
  pub kept : new.kept ≡ old.kept
  pub symbols_below : (s : Symbol) (id : ℕ) → Has old.symbols.entries s id → id < next_of old
  pub kept_below : (w : Kept) (id : ℕ) → id_in old.kept w ≡ Some id → id < next_of old

-- An id was taken that is no symbol's.
pub record Takes (old new : Emission) (r : ℕ) : Type 0 where
  pub same : Same old new
  pub code : new.code.list ≡ old.code.list
  pub entries : new.symbols.entries ≡ old.symbols.entries
  pub next : next_of new ≡ next_of old + 1
  pub result : r ≡ next_of old
  pub kept : new.kept ≡ old.kept
  pub symbols_below : (s : Symbol) (id : ℕ) → Has old.symbols.entries s id → id < next_of old

-- So many ids were taken that are no symbol's, in a row.
pub record TakesRow (old new : Emission) (first count : ℕ) : Type 0 where
  pub same : Same old new
  pub code : new.code.list ≡ old.code.list
  pub entries : new.symbols.entries ≡ old.symbols.entries
  pub next : next_of new ≡ first + count
  pub result : first ≡ next_of old
  pub kept : new.kept ≡ old.kept
  pub symbols_below : (s : Symbol) (id : ℕ) → Has old.symbols.entries s id → id < next_of old

-- These words were added.
pub record Lengthens (old new : Emission) (more : List ℕ) : Type 0 where
  pub same : Same old new
  pub code : new.code.list ≡ old.code.list ++ more
  pub symbols : new.symbols ≡ old.symbols
  pub kept : new.kept ≡ old.kept

-- Only the table of words changed: one that is in memory got an id; one got an id and waits; the last that waits was
-- taken for one that is in memory; those of arrays were dropped; all were.
pub record Settled (old new : Emission) : Type 0 where
  pub same : Same old new
  pub code : new.code.list ≡ old.code.list
  pub symbols : new.symbols ≡ old.symbols

pub record IsKept (old new : Emission) (w : Kept) (id : ℕ) : Type 0 where
  pub settled : Settled old new
  pub keeps : Keeps old.kept new.kept w id

pub record IsPut (old new : Emission) (w : Kept) (id : ℕ) : Type 0 where
  pub settled : Settled old new
  pub puts : Puts old.kept new.kept w id

pub record IsPopped (old new : Emission) (w : Kept) (id : ℕ) : Type 0 where
  pub settled : Settled old new
  pub pops : Pops old.kept new.kept w id

pub record IsDropped (old new : Emission) : Type 0 where
  pub settled : Settled old new
  pub drops : Drops old.kept new.kept

pub record IsEmptied (old new : Emission) : Type 0 where
  pub settled : Settled old new
  pub empty : IsEmpty new.kept

-- A word went to a variable.
pub record StoresTo (old new : Emission) (s : Symbol) (x : ℕ) : Type 0 where
  pub variable : ℕ
  pub mid : Emission
  pub named : Named old mid s variable
  pub acts : Acts mid new (instr 62 (variable ∷ x ∷ []))

-- An atomic with one value was added, and one that compares: the scope is the device, and no memory is ordered.
pub record Changes (old new : Emission) (kind : Act) (pointer x r : ℕ) : Type 0 where
  pub type' : ℕ
  pub device : ℕ
  pub unordered : ℕ
  pub typed : Has old.symbols.entries (AType Word) type'
  pub one : Has old.symbols.entries (Constant 1) device
  pub none : Has old.symbols.entries (Constant 0) unordered
  pub adds : Adds old new (instr (number_of_act kind) (type' ∷ r ∷ pointer ∷ device ∷ unordered ∷ x ∷ [])) r

pub record Exchanges (old new : Emission) (pointer expected x r : ℕ) : Type 0 where
  pub type' : ℕ
  pub device : ℕ
  pub unordered : ℕ
  pub typed : Has old.symbols.entries (AType Word) type'
  pub one : Has old.symbols.entries (Constant 1) device
  pub none : Has old.symbols.entries (Constant 0) unordered
  pub adds : Adds old new (instr 230 (type' ∷ r ∷ pointer ∷ device ∷ unordered ∷ unordered ∷ x ∷ expected ∷ [])) r
