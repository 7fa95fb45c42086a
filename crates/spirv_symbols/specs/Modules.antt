-- The code of a module that declares the symbols of a table (SPIR-V specification, unified1, section 2.4, Logical
-- Layout of a Module).
use Rattle.std.specs.Prelude.{◌≡◌, ℕ, ◌≤◌, Bool, true, false, Option, Some, None, List, [], ◌∷◌, ◌++◌, filter, map, IsTrue}
use Rattle.std.specs.List.{list_all}
use Rattle.word_base.specs.declared.event.Room.{Room}
use Rattle.word_base.specs.Settings.{Axes}
use Rattle.spirv_words.specs.Enumerants.{Shader, Logical, GLSL450, GLCompute, LocalSize, main_text}
use Rattle.spirv_words.specs.Operations.{OpCapability, OpMemoryModel, OpEntryPoint, OpExecutionMode, OpFunctionEnd}
use Rattle.spirv_words.specs.Sections.{listed_classes, is_body, section_of}
use Rattle.spirv_words.specs.Ids.{contains}
use Rattle.spirv_words.specs.Definitions.{results, are_distinct, is_id, uses_follow, names_are_among}
use Rattle.spirv_words.specs.StorageClass as storage
use Rattle.spirv_words.specs.Text.{Instr, Module, instruction}
use Rattle.spirv_symbols.specs.declared.symbol.Section.TheVariants.{Imports, Types, Declarations, Heads, Labels, Locals}
use Rattle.spirv_symbols.specs.declared.symbol.Symbol.{Symbol}
use Rattle.spirv_symbols.specs.declared.symbol.Symbol.TheVariants.{Main, FirstLabel, Input, Memory, Uniform, Push}
use Rattle.spirv_symbols.specs.declared.numbered.Numbered.{Numbered}
use Rattle.spirv_symbols.specs.Contexts.{Context}
use Rattle.spirv_symbols.specs.Tables.{Entry, Table, Has, Stands, id_of}
use Rattle.spirv_symbols.specs.Sections.{code_of, section_code, decorations_of}
use Rattle.spirv_symbols.specs.Orders.{Sorts, entry_for}
use Rattle.word_base.specs.declared.event.Room.TheVariants.{Shared}

-- GLOBAL VARIABLES. The class of one:
abbrev pub class_of_room : Room → ℕ
class_of_room (Shared slot) = storage.Workgroup
class_of_room room = storage.StorageBuffer

abbrev pub class_of : Symbol → Option ℕ
class_of (Input built_in) = Some storage.Input
class_of (Memory room) = Some (class_of_room room)
class_of (Uniform slot) = Some storage.Uniform
class_of Push = Some storage.PushConstant
class_of s = None

abbrev pub passes : (ℕ → Bool) → Option ℕ → Bool
passes classes None = false
passes classes (Some class) = classes class

abbrev pub is_global : (ℕ → Bool) → Entry → Bool
is_global classes e = passes classes (class_of e.symbol)

-- the ids of the global variables of some classes, in the order of the table
abbrev pub globals_of : (ℕ → Bool) → List Entry → List ℕ
globals_of classes entries = map (λ e. e.id) (filter (is_global classes) entries)

-- The entry point lists the Input variables, from version 1.4 on all global variables, in the order of the table.
abbrev pub interface : ℕ → List Entry → List ℕ
interface version entries = globals_of (listed_classes version) entries

-- What is said of a module beside its symbols: its version and the threads of a group.
pub record Kind : Type 0 where
  pub version : ℕ
  pub threads : Axes

abbrev pub entry_point : Kind → List Entry → Instr
entry_point kind entries = instruction OpEntryPoint (GLCompute ∷ id_of entries Main ∷ (main_text
    ++ interface kind.version entries))

abbrev pub mode : Kind → List Entry → Instr
mode kind entries = instruction OpExecutionMode (id_of entries Main ∷ LocalSize ∷ kind.threads.x ∷ kind.threads.y
    ∷ kind.threads.z ∷ [])

abbrev pub models : Kind → List Entry → List Instr
models kind entries = instruction OpMemoryModel (Logical ∷ GLSL450 ∷ []) ∷ entry_point kind entries
    ∷ mode kind entries ∷ []

-- THE CODE, with the constants in an order of their own, and the code of the function behind its variables.
abbrev pub declarations : Context → List Entry → List Numbered → List Instr
declarations context entries cs =
    section_code context Types entries ++ (code_of context entries (map entry_for cs)
    ++ section_code context Declarations entries)

abbrev pub front : Context → Kind → List Entry → List Numbered → List Instr
front context kind entries cs =
    instruction OpCapability (Shader ∷ []) ∷
    (section_code context Imports entries ++ (models kind entries ++ (decorations_of context entries
    ++ declarations context entries cs)))

abbrev pub function : Context → List Entry → List Instr → List Instr
function context entries body =
    section_code context Heads entries ++ (section_code context Labels entries ++
    (section_code context Locals entries ++ (body ++ instruction OpFunctionEnd [] ∷ [])))

abbrev pub module_code : Context → Kind → List Entry → List Numbered → List Instr → List Instr
module_code context kind entries cs body = front context kind entries cs ++ function context entries body

abbrev pub module_of : Context → Kind → List Entry → List Numbered → List Instr → ℕ → Module
module_of context kind entries cs body bound =
    record { version = kind.version; bound = bound; code = module_code context kind entries cs body }

-- THE PREMISES of what holds of such a module: a table that stands, with the function and its first label; constants in
-- ascending order; and a body of instructions that stand in functions alone.
pub record IsReady (c : Context) (t : Table) (cs : List Numbered) : Type 0 where
  pub stands : Stands c t
  pub sorted : Sorts t.entries cs
  pub main : ℕ
  pub has_main : Has t.entries Main main
  pub label : ℕ
  pub has_label : Has t.entries FirstLabel label

abbrev pub IsBody : List Instr → Type 0
IsBody body = IsTrue (list_all (λ i. is_body (section_of i)) body)

-- The ids of a body: each is defined once and is no symbol's, all are below the bound, and what is used is a symbol or
-- defined in front.
pub record HasIds (t : Table) (bound : ℕ) (body : List Instr) : Type 0 where
  pub distinct : IsTrue (are_distinct (results body))
  pub bounds : IsTrue (list_all (is_id bound) (results body))
  pub fresh : (s : Symbol) (x : ℕ) → Has t.entries s x → contains (results body) x ≡ false
  pub uses : (seen : List ℕ) → ((s : Symbol) (x : ℕ) → Has t.entries s x → contains seen x ≡ true)
      → IsTrue (uses_follow seen body)
  pub names : (xs : List ℕ) → ((s : Symbol) (x : ℕ) → Has t.entries s x → contains xs x ≡ true)
      → ((x : ℕ) → contains (results body) x ≡ true → contains xs x ≡ true) → IsTrue (names_are_among xs body)
  pub next : t.next ≤ bound
