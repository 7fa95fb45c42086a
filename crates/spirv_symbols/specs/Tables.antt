-- The table of the symbols of a module, each with one id, in the order in which they came.
use Rattle.std.specs.Prelude.{◌≡◌, ℕ, ◌+◌, ◌<◌, ◌≤◌, if◌then◌else◌, List, [], ◌∷◌, ◌++◌, Some, slice_get}
use Rattle.node_pool.specs.declared.key.Key.{Key}
use Rattle.spirv_words.specs.Text.{Instr}
use Rattle.spirv_symbols.specs.declared.symbol.Symbol.{Symbol}
pub use Rattle.spirv_symbols.specs.declared.entry.Entry.{Entry}
use Rattle.spirv_symbols.specs.Names.{is_symbol, symbol_at}
use Rattle.spirv_symbols.specs.Contexts.{Context}
use Rattle.spirv_symbols.specs.Rows.{needs, instr_for, words_of, most_ids, most_words}

abbrev pub entry : Symbol → ℕ → Entry
entry s id = record { symbol = s; id = id }

-- The entries, the first id that is free (code takes ids from there too), and a bound of the ids.
pub record Table : Type 0 where
  pub entries : List Entry
  pub next : ℕ
  pub limit : ℕ

abbrev pub table : List Entry → ℕ → ℕ → Table
table entries next limit = record { entries = entries; next = next; limit = limit }

abbrev pub empty_table : ℕ → Table
empty_table limit = table [] 1 limit

-- the entries of keys and ids, side by side
abbrev pub entries_of : List Key → List ℕ → List Entry
entries_of [] ids = []
entries_of (k ∷ ks) [] = []
entries_of (k ∷ ks) (x ∷ ids) = entry (symbol_at k) x ∷ entries_of ks ids

-- THE IDS. A symbol has an id, or none.
abbrev pub Has : List Entry → Symbol → ℕ → Type 0
Has entries s id = (k : ℕ) × (slice_get entries k ≡ Some (entry s id))

abbrev pub Absent : List Entry → Symbol → Type 0
Absent entries s = (id : ℕ) → Has entries s id → ⊥

-- the first id of a symbol, 0 where it has none
abbrev pub id_of : List Entry → Symbol → ℕ
id_of [] s = 0
id_of (e ∷ es) s = if is_symbol e.symbol s then e.id else id_of es s

-- each of the symbols has an id, below a bound
abbrev pub AreThere : List Entry → List Symbol → ℕ → Type 0
AreThere entries [] below = Unit {0}
AreThere entries (s ∷ ss) below = ((id : ℕ) × Has entries s id × (id < below)) × AreThere entries ss below

-- Ids rise from 1 on, each symbol has one, and what it needs has lower ones.
pub record IsTable (context : Context) (entries : List Entry) (next : ℕ) : Type 0 where
  pub positive : (k : ℕ) (e : Entry) → slice_get entries k ≡ Some e → 0 < e.id
  pub rises : (j k : ℕ) (e f : Entry) → j < k → slice_get entries j ≡ Some e → slice_get entries k ≡ Some f
      → e.id < f.id
  pub below : (k : ℕ) (e : Entry) → slice_get entries k ≡ Some e → e.id < next
  pub single : (j k : ℕ) (e f : Entry) → slice_get entries j ≡ Some e → slice_get entries k ≡ Some f
      → e.symbol ≡ f.symbol → j ≡ k
  pub founded : (k : ℕ) (e : Entry) → slice_get entries k ≡ Some e → AreThere entries (needs context e.symbol) e.id

-- An id is taken for no symbol, and for a symbol that is added.
pub record Takes (old new : Table) (r : ℕ) : Type 0 where
  pub entries' : new.entries ≡ old.entries
  pub id : r ≡ old.next
  pub next' : new.next ≡ old.next + 1
  pub limit' : new.limit ≡ old.limit

pub record Adds (old new : Table) (s : Symbol) (r : ℕ) : Type 0 where
  pub entries' : new.entries ≡ old.entries ++ entry s r ∷ []
  pub id : r ≡ old.next
  pub next' : new.next ≡ old.next + 1
  pub limit' : new.limit ≡ old.limit

-- What every table keeps, from the empty one on.
pub record Stands (context : Context) (t : Table) : Type 0 where
  pub table : IsTable context t.entries t.next
  pub some : 0 < t.next

-- The table has all that it had, where it had it, and further symbols with new ids.
pub record Extends (old new : Table) : Type 0 where
  pub more : List Entry
  pub list : new.entries ≡ old.entries ++ more
  pub later : (k : ℕ) (e : Entry) → slice_get more k ≡ Some e → old.next ≤ e.id
  pub next' : old.next ≤ new.next
  pub limit' : new.limit ≡ old.limit

-- the words of the instructions and decorations of entries
abbrev pub weight : Context → List Entry → ℕ
weight context [] = 0
weight context (e ∷ es) = words_of context e.symbol + weight context es

-- A symbol has an id in the new table, which extends the old one by the symbol and what it needs, if they were not
-- there.
pub record Makes (context : Context) (old new : Table) (s : Symbol) (r : ℕ) : Type 0 where
  pub stands : Stands context new
  pub extends : Extends old new
  pub here : Has new.entries s r
  pub below : r < new.next
  pub ids : new.next ≤ old.next + most_ids context s
  pub words : weight context new.entries ≤ weight context old.entries + most_words context s
  pub same : (id : ℕ) → Has old.entries s id → new ≡ old
  pub alone : AreThere old.entries (needs context s) old.next → Absent old.entries s
      → (new.entries ≡ old.entries ++ entry s r ∷ []) × (new.next ≡ old.next + 1)

-- A symbol whose needs are there has an id in the new table, and is all that was added, if anything was.
pub record Puts (context : Context) (old new : Table) (s : Symbol) (r : ℕ) : Type 0 where
  pub stands : Stands context new
  pub extends : Extends old new
  pub here : Has new.entries s r
  pub below : r < new.next
  pub ids : new.next ≤ old.next + 1
  pub words : weight context new.entries ≤ weight context old.entries + words_of context s
  pub same : (id : ℕ) → Has old.entries s id → new ≡ old
  pub alone : Absent old.entries s → (new.entries ≡ old.entries ++ entry s r ∷ []) × (new.next ≡ old.next + 1)

-- the instruction of an entry
abbrev pub instr_of : Context → List Entry → Entry → Instr
instr_of context entries e = instr_for context (id_of entries) e.symbol e.id
