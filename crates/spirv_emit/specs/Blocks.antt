-- What the code of statements does in each finished module that completes it, and what the code at the ends of blocks
-- is.
use Rattle.std.specs.Prelude.{◌≡◌, ℕ, ◌+◌, ◌*◌, ◌<◌, ◌≤◌, ◌^◌, if◌then◌else◌, Bool, true, List, [], ◌∷◌, ◌++◌, length, Some, Ok}
use Rattle.word_base.specs.declared.event.Act.{Act}
use Rattle.word_base.specs.declared.event.Classes.{Classes}
use Rattle.word_base.specs.declared.event.Event.{Event}
use Rattle.word_base.specs.declared.event.Event.TheVariants as event
use Rattle.word_base.specs.declared.event.Room.{Room}
use Rattle.word_base.specs.declared.event.Scope.{Scope}
use Rattle.word_base.specs.Lanes.{Goes, Asks}
use Rattle.kept_values.specs.declared.word.Word.{Word as Kept}
use Rattle.kept_values.specs.declared.word.Word.TheVariants as kept
use Rattle.kept_values.specs.Tables.{Table, IsEmpty}
use Rattle.shader_tree.specs.declared.node.Space.{Space}
use Rattle.shader_tree.specs.declared.node.Space.TheVariants as space
use Rattle.shader_tree.specs.Shape.{Item}
use Rattle.shader_tree.specs.Terms.{Term}
use Rattle.shader_tree.specs.Values.{Words, words, word, value, size_of}
use Rattle.shader_tree.specs.Lane.{with_scratch, with_word, second_operand}
use Rattle.spirv_words.specs.Operations.{number_of, OpBranch, OpBranchConditional, OpLabel, OpLoopMerge, OpReturn, OpSelectionMerge, OpSwitch}
use Rattle.spirv_words.specs.Globals.{Places}
use Rattle.spirv_words.specs.Text.{Instr, instruction}
use Rattle.spirv_words.specs.Memory.{takes_stores}
use Rattle.spirv_words.specs.Values.{Word}
use Rattle.spirv_words.specs.Lane.{State, step}
use Rattle.spirv_symbols.specs.declared.symbol.TypeSymbol.TheVariants as symbol
use Rattle.spirv_emit.specs.Emission.{Emission, Frame, spaces_of}
use Rattle.spirv_emit.specs.Code.{Typed, ArePlain, IsOf, Covers, CoversKept}
use Rattle.spirv_emit.specs.Lanes.{Site, Mirrors, Stands}
use Rattle.spirv_emit.specs.Growing.{Grows, Completes}
use Rattle.spirv_emit.specs.Linked.{IsLinked, StandsIn}
use Rattle.spirv_emit.specs.ModuleShape.{Seen, shape_of}
use Rattle.spirv_emit.specs.Values.{Knowing}

-- The lane is behind the code and mirrors these words.
pub record Behind (z : Site) (seg : List Instr) (table : Table) (s to : State) (t : Words) : Type 0 where
  pub place : to.place ≡ s.place + length seg
  pub mirrors : Mirrors z table to t

-- A change of the words of the tree's lane, in a finished module.
abbrev pub Change : Type 1
Change = Site → Words → Words → Type 0

-- SILENT STATEMENTS. Code of one block was added that changes the words so.
pub record Alters (old new : Emission) (E : Change) : Type 0 where
  pub seg : List Instr
  pub grows : Grows old new seg
  pub plain : ArePlain seg
  pub known : (z : Site) → Completes new z → (globals known : List Typed) → Covers z.names z.frame.context known
      → CoversKept z.names old.kept known → Knowing z.names globals known seg new.kept []
  pub quiet : (z : Site) (places : Places) → Completes new z → IsLinked z places → StandsIn z seg
      → shape_of z.machine.code places seg ≡ []
  pub law : (z : Site) → Completes new z → (s : State) (t u : Words) → Stands z seg old.kept s t → E z t u
      → (to : State) × Goes (step z.machine) (length seg) s to × Behind z seg new.kept s to u

-- A WORD OF THE LANE WITH A VARIABLE OF ITS OWN becomes that word.
abbrev pub Becomes : Frame → Kept → ℕ → Words → Words → Type 0
Becomes f (kept.Scratch n) w t u = u ≡ with_scratch t n w
Becomes f (kept.Register k) w t u =
    (f.separate ≡ true) × (with_word t.registers space.Temps k w ≡ Some u.registers) × (u ≡ words t.scratch u.registers)
Becomes f (kept.Element n) w t u = ⊥

-- Code of one block was added, maybe none, behind which the word of the lane is the id's word.
pub record Assigns (old new : Emission) (k : Kept) (id : ℕ) : Type 0 where
  pub seg : List Instr
  pub grows : Grows old new seg
  pub plain : ArePlain seg
  pub known : (z : Site) → Completes new z → (globals known : List Typed) → Covers z.names z.frame.context known
      → CoversKept z.names old.kept known → IsOf z.names known symbol.Word id
      → Knowing z.names globals known seg new.kept []
  pub quiet : (z : Site) (places : Places) → Completes new z → IsLinked z places → StandsIn z seg
      → shape_of z.machine.code places seg ≡ []
  pub law : (z : Site) → Completes new z → (s : State) (t u : Words) (w : ℕ) → Stands z seg old.kept s t
      → s.values id ≡ Some (Word w) → Becomes z.frame k w t u
      → (to : State) × Goes (step z.machine) (length seg) s to × Behind z seg new.kept s to u

-- The lane stands inside the code, which it began at s, and comes silently behind it, where it mirrors these words.
pub record ComesBehind (z : Site) (seg : List Instr) (table : Table) (s from : State) (t : Words) : Type 0 where
  pub front : List Instr
  pub back : List Instr
  pub parts : seg ≡ front ++ back
  pub place : from.place ≡ s.place + length front
  pub to : State
  pub goes : Goes (step z.machine) (length back) from to
  pub behind : Behind z seg table s to t

-- STATEMENTS WITH AN EVENT. Code of one block was added in which the lane comes silently to the event, inside it, and
-- from its answer silently behind the code, where the words are changed so. The event is that item of the module's
-- shape.
pub record Meets (old new : Emission) (item : Item) (E : Site → Words → Event → (ℕ → Words) → Type 0) : Type 0 where
  pub seg : List Instr
  pub grows : Grows old new seg
  pub plain : ArePlain seg
  pub known : (z : Site) → Completes new z → (globals known : List Typed) → Covers z.names z.frame.context known
      → CoversKept z.names old.kept known → Knowing z.names globals known seg new.kept []
  pub shows : (z : Site) (places : Places) → Completes new z → IsLinked z places → StandsIn z seg
      → shape_of z.machine.code places seg ≡ Seen item ∷ []
  pub law : (z : Site) → Completes new z → (s : State) (t : Words) (e : Event) (u : ℕ → Words)
      → Stands z seg old.kept s t → E z t e u
      → (n : ℕ) × (to : State) × (after : ℕ → State) × (n ≤ length seg) × Goes (step z.machine) n s to
      × (step z.machine to ≡ Asks e after)
      × ((answer : ℕ) → answer < 2 ^ 32 → ComesBehind z seg new.kept s (after answer) (u answer))

-- the word of an expression in a finished module
abbrev pub IsValue : Site → Words → Term → ℕ → Type 0
IsValue z t x w = value (spaces_of z.frame) z.machine.setting t x ≡ word w

abbrev pub Sets : ℕ → Term → Change
Sets n x z t u = (w : ℕ) × IsValue z t x w × (u ≡ with_scratch t n w)

abbrev pub Writes : Space → Term → Term → Change
Writes space at x z t u =
    (i : ℕ) × (w : ℕ) × IsValue z t at i × (i < size_of (spaces_of z.frame) space) × IsValue z t x w
    × ((with_word t.registers space i w) ≡ Some u.registers) × (u ≡ words t.scratch u.registers)

abbrev pub Loads : ℕ → Room → Term → Site → Words → Event → (ℕ → Words) → Type 0
Loads n room at z t e u =
    (i : ℕ) × IsValue z t at i × (i < z.machine.setting.extent room) × (e ≡ event.Load room i)
    × (u ≡ (λ answer. with_scratch t n answer))

-- A read-only view takes no store.
abbrev pub Stores : Room → Term → Term → Site → Words → Event → (ℕ → Words) → Type 0
Stores room at x z t e u =
    (i : ℕ) × (w : ℕ) × IsValue z t at i × IsValue z t x w × (i < z.machine.setting.extent room)
    × (takes_stores room ≡ Ok 0)
    × (e ≡ event.Store room i w) × (u ≡ (λ answer. t))

abbrev pub Atomics : ℕ → Room → Term → Act → Term → Term → Site → Words → Event → (ℕ → Words) → Type 0
Atomics n room at kind a b z t e u =
    (i : ℕ) × (x : ℕ) × (y : ℕ) × IsValue z t at i × IsValue z t a x × IsValue z t b y
    × (i < z.machine.setting.extent room)
    × (e ≡ event.Atomic room i kind x (second_operand kind y)) × (u ≡ (λ answer. with_scratch t n answer))

abbrev pub Syncs : Bool → Scope → Classes → Site → Words → Event → (ℕ → Words) → Type 0
Syncs threads scope classes z t e u =
    (e ≡ (if threads then event.Barrier scope classes else event.Fence scope classes)) × (u ≡ (λ answer. t))

-- LABELS AND THE ENDS OF BLOCKS. These instructions were added; symbols and the words that are kept stay.
pub record Ends (old new : Emission) (seg : List Instr) : Type 0 where
  pub grows : Grows old new seg
  pub symbols : new.symbols ≡ old.symbols
  pub kept : new.kept ≡ old.kept

-- A label was added, behind which no word is kept.
pub record Begins (old new : Emission) (label : ℕ) : Type 0 where
  pub grows : Grows old new (instruction OpLabel (label ∷ []) ∷ [])
  pub symbols : new.symbols ≡ old.symbols
  pub empty : IsEmpty new.kept

-- the words of the head of an OpSwitch with so many cases
abbrev pub switch_head : ℕ → ℕ → ℕ → List ℕ
switch_head on other count = (65536 * (2 * count + 3) + number_of OpSwitch) ∷ on ∷ other ∷ []

abbrev pub branch : ℕ → List Instr
branch label = instruction OpBranch (label ∷ []) ∷ []

abbrev pub branch_if : ℕ → ℕ → ℕ → List Instr
branch_if truth yes' no' = instruction OpBranchConditional (truth ∷ yes' ∷ no' ∷ []) ∷ []

abbrev pub selection_merge : ℕ → List Instr
selection_merge merge = instruction OpSelectionMerge (merge ∷ 0 ∷ []) ∷ []

abbrev pub loop_merge : ℕ → ℕ → List Instr
loop_merge merge continue = instruction OpLoopMerge (merge ∷ continue ∷ 0 ∷ []) ∷ []

abbrev pub switch : ℕ → ℕ → List ℕ → List Instr
switch on other cases = instruction OpSwitch (on ∷ other ∷ cases) ∷ []

abbrev pub leave : List Instr
leave = instruction OpReturn [] ∷ []
