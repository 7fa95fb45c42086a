-- How a module grows while its function is written, and what finished modules complete it.
use Rattle.std.specs.Prelude.{◌≡◌, ℕ, ◌≤◌, ◌<◌, ◌⊎◌, Bool, List, ◌++◌, filter, is_some, map, IsTrue}
use Rattle.std.specs.List.{list_all}
use Rattle.kept_values.specs.Tables.{limits_in}
use Rattle.spirv_words.specs.Text.{Instr, is_instr, words_of_code}
use Rattle.spirv_words.specs.Definitions.{are_distinct}
use Rattle.spirv_symbols.specs.declared.symbol.Symbol.{Symbol}
use Rattle.spirv_symbols.specs.declared.entry.Entry.{Entry}
use Rattle.spirv_symbols.specs.Modules.{class_of}
use Rattle.spirv_symbols.specs.Tables.{Has}
use Rattle.spirv_emit.specs.Emission.{Emission, next_of}
use Rattle.spirv_emit.specs.Code.{Defines, values}
use Rattle.spirv_emit.specs.Lanes.{Site, IsWhole}

-- Sizes, places and room stay.
pub record Same (old new : Emission) : Type 0 where
  pub frame : new.frame ≡ old.frame
  pub limit : new.symbols.limit ≡ old.symbols.limit
  pub capacity : new.code.capacity ≡ old.code.capacity
  pub limits : limits_in new.kept ≡ limits_in old.kept

-- THE GLOBAL VARIABLES, in the order of the table: they are there before code is written, and no code adds one.
abbrev pub is_global : Symbol → Bool
is_global s = is_some (class_of s)

abbrev pub globals_in : List Entry → List Symbol
globals_in entries = filter is_global (map (λ e. e.symbol) entries)

-- An emitter has gained the code, whose values have new ids, one each, and symbols with new ids,
-- none of a global variable.
pub record Grows (old new : Emission) (seg : List Instr) : Type 0 where
  pub same : Same old new
  pub next : next_of old ≤ next_of new
  pub code : new.code.list ≡ old.code.list ++ words_of_code seg
  pub instructions : IsTrue (list_all is_instr seg)
  pub distinct : IsTrue (are_distinct (values seg))
  pub has : (s : Symbol) (id : ℕ) → Has old.symbols.entries s id → Has new.symbols.entries s id
  pub later : (s : Symbol) (id : ℕ) → Has new.symbols.entries s id → Has old.symbols.entries s id ⊎ (next_of old ≤ id)
  pub globals : globals_in new.symbols.entries ≡ globals_in old.symbols.entries
  pub fresh : (id : ℕ) → Defines seg id → (next_of old ≤ id) × (id < next_of new)
      × ((s : Symbol) → Has new.symbols.entries s id → ⊥)

-- A finished module completes an emitter: it has the emitter's symbols, and others with new ids.
pub record Completes (e : Emission) (z : Site) : Type 0 where
  pub frame : e.frame ≡ z.frame
  pub whole : IsWhole z
  pub has : (s : Symbol) (id : ℕ) → Has e.symbols.entries s id → Has z.names s id
  pub later : (s : Symbol) (id : ℕ) → Has z.names s id → Has e.symbols.entries s id ⊎ (next_of e ≤ id)
  pub single : (s : Symbol) (i j : ℕ) → Has z.names s i → Has z.names s j → i ≡ j
  pub apart : (s y : Symbol) (id : ℕ) → Has z.names s id → Has z.names y id → s ≡ y
