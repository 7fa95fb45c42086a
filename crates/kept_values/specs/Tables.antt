-- What a table says: the id of each word that has one, and the words that wait, that is, that are not in memory yet.
use Rattle.std.specs.Prelude.{◌≡◌, ◌≢◌, ℕ, ◌+◌, ◌≤◌, nat_lt, Bool, ◌⊎◌, List, [], ◌∷◌, ◌++◌, map, sum_by, length, Option, Some, None}
use Rattle.kept_values.specs.declared.word.Word.{Word}
use Rattle.kept_values.specs.declared.word.Word.TheVariants.{Scratch, Register, Element}
use Rattle.kept_values.specs.Shelves.{Shelved, id_of}

pub record Table : Type 0 where
  pub scratch : Shelved
  pub registers : Shelved
  pub elements : Shelved

abbrev pub table : Shelved → Shelved → Shelved → Table
table scratch registers elements = record { scratch = scratch; registers = registers; elements = elements }

-- the id of a word, if it has one
unfoldable pub id_in : Table → Word → Option ℕ
id_in t (Scratch n) = id_of t.scratch n
id_in t (Register n) = id_of t.registers n
id_in t (Element n) = id_of t.elements n

-- the words that wait; those of arrays come last
unfoldable pub dirty_in : Table → List Word
dirty_in t = map Scratch t.scratch.waiting ++ (map Register t.registers.waiting ++ map Element t.elements.waiting)

-- the numbers of the words of arrays that wait
abbrev pub elements_in : Table → List ℕ
elements_in t = t.elements.waiting

-- Words of each sort are kept whose numbers are below.
pub record Limits : Type 0 where
  pub scratch : ℕ
  pub registers : ℕ
  pub elements : ℕ

abbrev pub limits : ℕ → ℕ → ℕ → Limits
limits scratch registers elements = record { scratch = scratch; registers = registers; elements = elements }

abbrev pub limits_in : Table → Limits
limits_in t = limits (length t.scratch.ids) (length t.registers.ids) (length t.elements.ids)

-- whether a word may have an id
abbrev pub holds : Limits → Word → Bool
holds l (Scratch n) = nat_lt n l.scratch
holds l (Register n) = nat_lt n l.registers
holds l (Element n) = nat_lt n l.elements

-- whether a word is one of a list
abbrev pub Among : List Word → Word → Type 0
Among [] k = ⊥
Among (x ∷ xs) k = (x ≡ k) ⊎ Among xs k

-- No word has an id, and none waits.
pub record IsEmpty (t : Table) : Type 0 where
  pub ids : (k : Word) → id_in t k ≡ None
  pub dirty : dirty_in t ≡ []

-- A word that is in memory got an id.
pub record Keeps (old new : Table) (word : Word) (id : ℕ) : Type 0 where
  pub here : id_in new word ≡ Some id
  pub other : (k : Word) → k ≢ word → id_in new k ≡ id_in old k
  pub dirty : dirty_in new ≡ dirty_in old

-- A word got an id, and is not in memory.
pub record Puts (old new : Table) (word : Word) (id : ℕ) : Type 0 where
  pub here : id_in new word ≡ Some id
  pub other : (k : Word) → k ≢ word → id_in new k ≡ id_in old k
  pub dirty : (k : Word) → Among (dirty_in new) k → (k ≡ word) ⊎ Among (dirty_in old) k
  pub still : (k : Word) → Among (dirty_in old) k → Among (dirty_in new) k
  pub marked : Among (dirty_in new) word
  pub count : length (dirty_in new) ≤ length (dirty_in old) + 1
  pub sum : (f : Word → ℕ) → sum_by f (dirty_in new) ≤ sum_by f (dirty_in old) + f word

-- The last of the words that are not in memory, and its id.
pub record IsLast (t : Table) (word : Word) (id : ℕ) : Type 0 where
  pub here : id_in t word ≡ Some id
  pub rest : List Word
  pub dirty : dirty_in t ≡ rest ++ word ∷ []

-- It is taken for one that is in memory.
pub record Pops (old new : Table) (word : Word) (id : ℕ) : Type 0 where
  pub here : id_in old word ≡ Some id
  pub ids : (k : Word) → id_in new k ≡ id_in old k
  pub dirty : dirty_in old ≡ dirty_in new ++ word ∷ []

-- Each id in the new table was in the old one, or is this one.
abbrev pub Comes : Table → Table → ℕ → Type 0
Comes old new id = (k : Word) (i : ℕ) → id_in new k ≡ Some i → (id_in old k ≡ Some i) ⊎ (i ≡ id)

-- The words of arrays have no ids any more.
pub record Drops (old new : Table) : Type 0 where
  pub scratch : (n : ℕ) → id_in new (Scratch n) ≡ id_in old (Scratch n)
  pub registers : (n : ℕ) → id_in new (Register n) ≡ id_in old (Register n)
  pub elements : (n : ℕ) → id_in new (Element n) ≡ None
  pub dirty : dirty_in new ≡ dirty_in old
