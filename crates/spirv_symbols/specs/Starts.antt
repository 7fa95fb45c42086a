-- What a lane has of the symbols of a module when it comes to the code of the function: what ids stand for, and what
-- variables hold.
use Rattle.std.specs.Prelude.{◌≡◌, ℕ, ◌+◌, true, List, [], ◌∷◌, flat_map, replicate, Option, Some, None, slice_get}
use Rattle.word_base.specs.declared.event.Room.TheVariants.{Shared}
use Rattle.word_base.specs.Lanes.{Goes}
use Rattle.word_base.specs.Settings.{Setting}
use Rattle.spirv_words.specs.Text.{Instr, Module}
use Rattle.spirv_words.specs.Values.{Value, Word, Truth, AtLocal, AtRoom, AtConstants, AtPush, AtInput}
use Rattle.spirv_words.specs.Globals.{Machine, Places, bound_room, bound_slot, filled_slots, is_built_in}
use Rattle.spirv_words.specs.Lane.{State, step, start, machine}
use Rattle.spirv_symbols.specs.declared.symbol.Symbol.{Symbol}
use Rattle.spirv_symbols.specs.declared.symbol.Symbol.TheVariants.{Constant, True, Input, Memory, Uniform, Push, Scratch, Register, Registers, Elements, ImmediateArray}
use Rattle.spirv_symbols.specs.Contexts.{Context, declared_of, size_of}
pub use Rattle.spirv_symbols.specs.Modules.{class_of_room, class_of, passes, is_global, globals_of}
use Rattle.spirv_symbols.specs.Tables.{Entry, Has}

-- what the id of a constant or a variable stands for
abbrev pub meaning : Symbol → ℕ → Option Value
meaning (Constant w) id = Some (Word w)
meaning True id = Some (Truth true)
meaning (Input built_in) id = Some (AtInput built_in 0)
meaning (Memory room) id = Some (AtRoom room 0)
meaning (Uniform slot) id = Some (AtConstants slot 0)
meaning Push id = Some (AtPush 0)
meaning (Scratch n) id = Some (AtLocal id 0)
meaning (Register k) id = Some (AtLocal id 0)
meaning Registers id = Some (AtLocal id 0)
meaning (Elements slot) id = Some (AtLocal id 0)
meaning ImmediateArray id = Some (AtLocal id 0)
meaning s id = None

-- the words with which a variable of the function begins
abbrev pub initial : Context → Symbol → Option (List ℕ)
initial c (Scratch n) = Some (0 ∷ [])
initial c (Register k) = Some (0 ∷ [])
initial c Registers = Some (replicate c.registers 0)
initial c (Elements slot) = Some (replicate (size_of c (Elements slot)) 0)
initial c ImmediateArray = Some c.immediates
initial c s = None

-- the slots of shared memory, in the order of the table
abbrev pub slot_in : Symbol → List ℕ
slot_in (Memory (Shared slot)) = slot ∷ []
slot_in s = []

abbrev pub shared_slots : List Entry → List ℕ
shared_slots entries = flat_map (λ e. slot_in e.symbol) entries

-- The lane finds the variables of a table: at their places what they are declared to be, and shared memory in the order
-- of the table.
abbrev pub IsFound : Context → Machine → Symbol → Type 0
IsFound c m (Input built_in) = is_built_in built_in ≡ true
IsFound c m (Memory (Shared slot)) = Unit {0}
IsFound c m (Memory room) =
    bound_room m.places (Some (declared_of c (Memory room)).set) (Some (declared_of c (Memory room)).binding)
    ≡ Some room
IsFound c m (Uniform slot) =
    bound_slot m.places (Some (declared_of c (Uniform slot)).set) (Some (declared_of c (Uniform slot)).binding)
    ≡ Some slot
IsFound c m s = Unit {0}

pub record AreFound (c : Context) (entries : List Entry) (m : Machine) : Type 0 where
  pub found : (s : Symbol) (x : ℕ) → Has entries s x → IsFound c m s
  pub shared : filled_slots m ≡ shared_slots entries

-- From its start the lane comes to the code of the function, with all variables made, and knows all symbols.
abbrev pub HasAt : List Instr → ℕ → List Instr → Type 0
HasAt code at [] = Unit {0}
HasAt code at (i ∷ is) = (slice_get code at ≡ Some i) × HasAt code (at + 1) is

pub record Starts (c : Context) (entries : List Entry) (m : Module) (places : Places) (setting : Setting) (rest :
    List Instr) : Type 0 where
  pub from : State
  pub first : start m places setting ≡ Some from
  pub steps : ℕ
  pub to : State
  pub goes : Goes (step (machine m places setting)) steps from to
  pub here : HasAt m.code to.place rest
  pub values : (s : Symbol) (x : ℕ) (v : Value) → Has entries s x → meaning s x ≡ Some v → to.values x ≡ Some v
  pub words : (s : Symbol) (x : ℕ) (ws : List ℕ) → Has entries s x → initial c s ≡ Some ws → to.memory x ≡ slice_get ws
