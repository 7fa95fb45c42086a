-- A program as contracts see it.
use Rattle.std.specs.Prelude.{◌≡◌, ◌≢◌, ℕ, ◌<◌, ◌≤◌, List, [], Some, slice_get}
use Rattle.word_base.specs.declared.event.Room.{Room}
use Rattle.tpf_program.specs.declared.declaration.Declared.{Declared}
use Rattle.tpf_program.specs.declared.instruction.Instruction.{Instruction}

-- The number of words, the declarations and the instructions in their order, the words of the immediate constant buffers, one buffer
-- after the other, and the rooms of the typed views, of which a program of the base profile has none. Nothing in it is nested.
pub record Shader : Type 0 where
  pub words : ℕ
  pub declarations : List Declared
  pub constants : List ℕ
  pub instructions : List Instruction
  pub typed : List Room

-- a program of so many words, of which none are read
abbrev pub unread : ℕ → Shader
unread words = record { words = words; declarations = []; constants = []; instructions = []; typed = [] }

-- the program without words
abbrev pub empty : Shader
empty = unread 0

-- A program, and the number of words that there is room for.
pub record Kept : Type 0 where
  pub shader : Shader
  pub room : ℕ

abbrev pub kept : Shader → ℕ → Kept
kept shader room = record { shader = shader; room = room }

-- Parts of a program of so many words, by the places of their opcode tokens: each behind the one before, all behind the head.
pub record AreInOrder {X : Type 0} (place : X → ℕ) (words : ℕ) (parts : List X) : Type 0 where
  pub ascend : (i j : ℕ) (x y : X) → i < j → slice_get parts i ≡ Some x → slice_get parts j ≡ Some y → place x < place y
  pub behind : (i : ℕ) (x : X) → slice_get parts i ≡ Some x → 2 ≤ place x
  pub inside : (i : ℕ) (x : X) → slice_get parts i ≡ Some x → place x < words

-- they stand before a place
abbrev pub AreBefore : {X : Type 0} → (X → ℕ) → List X → ℕ → Type 0
AreBefore place parts at = (i : ℕ) (x : _) → slice_get parts i ≡ Some x → place x < at

-- a place in a program behind its declarations and instructions
pub record IsBehind (p : Shader) (at : ℕ) : Type 0 where
  pub declared : AreBefore (λ d. d.place) p.declarations at
  pub done : AreBefore (λ i. i.place) p.instructions at
  pub behind : 2 ≤ at
  pub inside : at < p.words

-- no declaration stands at the place of an instruction
abbrev pub AreApart : List Declared → List Instruction → Type 0
AreApart ds is = (k j : ℕ) (d : Declared) (i : Instruction) → slice_get ds k ≡ Some d → slice_get is j ≡ Some i → d.place ≢ i.place
