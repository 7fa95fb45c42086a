-- The blocks of a statement were added to a module whose function is written.
use Rattle.std.specs.Prelude.{◌≡◌, ℕ, ◌+◌, ◌<◌, ◌≤◌, ◌⊎◌, nat_eq, if◌then◌else◌, Bool, List, [], ◌∷◌, ◌++◌, map, Option, Some, None}
use Rattle.kept_values.specs.Tables.{Table, dirty_in, IsEmpty}
use Rattle.shader_tree.specs.Holding.{HoldWords}
use Rattle.shader_tree.specs.Shape.{shape}
use Rattle.shader_tree.specs.Terms.{Term}
use Rattle.shader_tree.specs.Terms as term
use Rattle.shader_tree.specs.Values.{Words}
use Rattle.spirv_words.specs.Text.{Instr}
use Rattle.spirv_words.specs.Definitions.{results}
use Rattle.spirv_words.specs.Globals.{Places}
use Rattle.spirv_words.specs.Lane.{State}
use Rattle.spirv_symbols.specs.declared.entry.Entry.{Entry}
use Rattle.spirv_symbols.specs.declared.symbol.Symbol.{Symbol}
use Rattle.spirv_symbols.specs.Tables.{Has}
use Rattle.spirv_emit.specs.Code.{In, Typed, AreTyped, Covers, CoversKept, behind}
use Rattle.spirv_emit.specs.Emission.{next_of, spaces_of}
use Rattle.spirv_emit.specs.declared.emitter.Emitter.{Emitter as Emission}
use Rattle.spirv_emit.specs.Growing.{Grows, Completes}
use Rattle.spirv_emit.specs.Lanes.{Site, Mirrors}
use Rattle.spirv_flow.specs.Labels.{labels_in}
use Rattle.spirv_emit.specs.Linked.{IsLinked, StandsIn}
use Rattle.spirv_emit.specs.ModuleShape.{Seen}
use Rattle.spirv_flow.specs.Layout.{Layout, Case, cases, default, first_of, code_of, Placed}
use Rattle.spirv_flow.specs.Lowering.{Lowered}
use Rattle.spirv_flow.specs.Shapes.{shape_in}

-- The module's lane has the words of the tree's by a table, and these are words.
pub record Holds (z : Site) (table : Table) (s : State) (t : Words) : Type 0 where
  pub mirrors : Mirrors z table s t
  pub words : HoldWords t

abbrev pub IsClean : Table → Type 0
IsClean table = dirty_in table ≡ []

-- a statement's layout in a finished module
abbrev pub LoweredIn : Site → Term → Layout → Table → Table → Type 0
LoweredIn z x l a b = Lowered z.machine (Holds z) IsClean IsEmpty (spaces_of z.frame) x l a b

-- Each instruction takes what is known in front of it, and what is kept behind the code is known there.
pub record IsKnown (names : List Entry) (globals known : List Typed) (code : List Instr) (table : Table) : Type 0 where
  pub typed : AreTyped names globals known code
  pub kept : CoversKept names table (behind globals known code)

-- Code was added, whatever its instructions are.
pub record Written (old new : Emission) (code : List Instr) : Type 0 where
  pub grows : Grows old new code
  pub known : (z : Site) → Completes new z → (globals known : List Typed) → Covers z.names z.frame.context globals
      → Covers z.names z.frame.context known
      → CoversKept z.names old.kept known → IsKnown z.names globals known code new.kept

-- THE LABELS of cases and defaults that stand directly in a statement are numbered in order.
abbrev pub marks : Term → ℕ
marks (term.Case v next) = marks next + 1
marks (term.Default next) = marks next + 1
marks (term.Then x y) = marks x + marks y
marks x = 0

abbrev pub case_at : ℕ → ℕ → Case
case_at value label = record { value = value; label = label }

abbrev pub cases_of : Term → ℕ → List Case
cases_of (term.Case v next) k = case_at v k ∷ cases_of next (k + 1)
cases_of (term.Default next) k = cases_of next (k + 1)
cases_of (term.Then x y) k = cases_of x k ++ cases_of y (k + marks x)
cases_of x k = []

abbrev pub default_of : Term → ℕ → Option ℕ
default_of (term.Case v next) k = default_of next (k + 1)
default_of (term.Default next) k = Some k
default_of (term.Then x y) k = first_of (default_of x k) (default_of y (k + marks x))
default_of x k = None

-- how often an id is in a list
abbrev pub times : ℕ → List ℕ → ℕ
times id [] = 0
times id (x ∷ xs) = (if nat_eq x id then 1 else 0) + times id xs

-- so often: not at all, or once and among the new ids, or among the labels of so many cases
abbrev pub AtMost : (id low high first count n : ℕ) → Type 0
AtMost id low high first count n =
    (n ≡ 0) ⊎ ((n ≡ 1) × (((low ≤ id) × (id < high)) ⊎ ((first ≤ id) × (id < first + count))))

-- An id was taken in between, for no symbol.
abbrev pub IsTaken : Emission → Emission → ℕ → Type 0
IsTaken old new id =
    (next_of old ≤ id) × (id < next_of new) × ((s : Symbol) → Has new.symbols.entries s id → ⊥)

-- Breaks lead to one label and continues to another; the first label of a case is that one.
pub record Lowers (old new : Emission) (brk cont first : ℕ) (in_loop in_any : Bool) (x : Term) : Type 0 where
  pub layout : Layout
  pub placed : Placed layout in_loop in_any
  pub cases' : cases layout ≡ cases_of x first
  pub default' : default layout ≡ default_of x first
  pub written : Written old new (code_of layout brk cont)
  pub once : (id : ℕ) → AtMost id (next_of old) (next_of new) first (marks x)
      (times id (results (code_of layout brk cont)))
  pub labels : (id : ℕ) → In (labels_in (code_of layout brk cont)) id
      → IsTaken old new id ⊎ ((first ≤ id) × (id < first + marks x))
  pub law : (z : Site) → Completes new z → LoweredIn z x layout old.kept new.kept
  pub shows : (z : Site) (places : Places) → Completes new z → IsLinked z places
      → StandsIn z (code_of layout brk cont) → shape_in z.machine.code places layout ≡ map Seen (shape x)
