-- What pieces of code do while the lanes of a tree and of a module run side by side. The module's lane has the words of
-- the tree's lane by a table, which the code in front of it leaves: what a table says of ids and variables is given by
-- the relation `Holds`.
use Rattle.std.specs.Prelude.{◌≡◌, ℕ, ◌+◌, ◌<◌, ◌≤◌, ◌^◌, Bool, true, List, [], ◌++◌, length, Some, slice_get}
use Rattle.word_base.specs.Lanes.{Turn, Silent, Asks, Ends, Wrong, Goes}
use Rattle.spirv_words.specs.Text.{Instr}
use Rattle.spirv_words.specs.Values.{Value, Word, Truth}
use Rattle.spirv_words.specs.Globals.{Machine}
use Rattle.spirv_words.specs.Operands.{is_sorted, is_defined}
use Rattle.spirv_words.specs.Lane.{State, step, goes_to, label_place}
use Rattle.spirv_emit.specs.Lanes.{HasAt}
use Rattle.spirv_flow.specs.Layout.{label}
use Rattle.shader_tree.specs.Terms.{Term}
use Rattle.shader_tree.specs.Values.{Spaces, Words, word, truth, value}
use Rattle.shader_tree.specs.Lane as tree

module _ (m : Machine) {Table : Type 0} (Holds : Table → State → Words → Type 0) where
  -- The module's lane comes behind the code by silent steps, one an instruction, and has the words by the table.
  pub record Arrives (code : List Instr) (b : Table) (s : State) (w : Words) : Type 0 where
    pub to : State
    pub goes : Goes (step m) (length code) s to
    pub place : to.place ≡ s.place + length code
    pub holds : Holds b to w

  -- It stands inside the code, which it began at s, and arrives behind it from there.
  pub record ArrivesFrom (code : List Instr) (b : Table) (s from : State) (w : Words) : Type 0 where
    pub front : List Instr
    pub back : List Instr
    pub parts : code ≡ front ++ back
    pub place : from.place ≡ s.place + length front
    pub arrives : Arrives back b from w

  -- and the id has the value
  pub record Gives (code : List Instr) (b : Table) (r : ℕ) (v : Value) (s : State) (w : Words) : Type 0 where
    pub arrives : Arrives code b s w
    pub value : arrives.to.values r ≡ Some v

  -- code that changes no word of the tree's lane, and code that gives a truth that always holds
  abbrev pub Passes : List Instr → Table → Table → Type 0
  Passes code a b = (s : State) (w : Words) → HasAt m.code s.place code → Holds a s w → Arrives code b s w

  abbrev pub Always : List Instr → Table → Table → ℕ → Type 0
  Always code a b r = (s : State) (w : Words) → HasAt m.code s.place code → Holds a s w → Gives code b r (Truth true) s
      w

  -- The code of a statement that is one step of the tree's lane: a silent step, or an event from whose answer the lane
  -- arrives behind the code.
  abbrev pub Answers : Turn tree.State → List Instr → Table → State → Type 0
  Answers (Silent t) code b s = Arrives code b s t.words
  Answers (Asks e after) code b s =
      (n : ℕ) × (to : State) × (on : ℕ → State) × (n ≤ length code) × Goes (step m) n s to × (step m to ≡ Asks e on)
      × ((a : ℕ) → a < 2 ^ 32 → ArrivesFrom code b s (on a) (after a).words)
  Answers Ends code b s = ⊥
  Answers (Wrong place rule) code b s = Unit {0}

  module _ (g : Spaces) where
    -- code that gives the value of an expression
    abbrev pub Tests : Term → List Instr → Table → Table → ℕ → Type 0
    Tests e code a b r =
        (s : State) (w : Words) (t : Bool) → HasAt m.code s.place code → Holds a s w → value g m.setting w e ≡ truth t
        → Gives code b r (Truth t) s w

    abbrev pub Measures : Term → List Instr → Table → Table → ℕ → Type 0
    Measures e code a b r =
        (s : State) (w : Words) (x : ℕ) → HasAt m.code s.place code → Holds a s w → value g m.setting w e ≡ word x
        → Gives code b r (Word x) s w

    abbrev pub Does : Term → List Instr → Table → Table → Type 0
    Does x code a b =
        (s : State) (w : Words) → HasAt m.code s.place code → Holds a s w → Answers (tree.run g m.setting [] w 0 x) code
        b s

-- A branch to a label that stands in the code goes behind it.
abbrev pub HasSingleLabels : List Instr → Type 0
HasSingleLabels code = (p l : ℕ) → slice_get code p ≡ Some (label l) → label_place code l ≡ Some p

-- Each instruction has operands of the right sorts, with definitions, and each label stands once.
pub record IsSettled (code : List Instr) : Type 0 where
  pub sorted : (k : ℕ) (i : Instr) → slice_get code k ≡ Some i → is_sorted code i ≡ true
  pub defined : (k : ℕ) (i : Instr) → slice_get code k ≡ Some i → is_defined code i ≡ true
  pub single : HasSingleLabels code

-- What a table says does not depend on the lane's place; where no word waits, a table that knows no ids says no more.
pub record CarriesOver {Table : Type 0} (Holds : Table → State → Words → Type 0) (IsClean IsNew : Table → Type 0) : Type
    0 where
  pub moved : (t : Table) (s : State) (w : Words) (p : ℕ) → Holds t s w → Holds t (goes_to s p) w
  pub renewed : (a b : Table) (s : State) (w : Words) → IsClean a → IsNew b → Holds a s w → Holds b s w
  pub new_clean : (a : Table) → IsNew a → IsClean a
