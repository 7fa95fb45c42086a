-- What shows in a finished module to which memory its pointers lead.
use Rattle.std.specs.Prelude.{◌≡◌, ℕ, List, [], ◌∷◌, Some, IsTrue}
use Rattle.word_base.specs.declared.event.Room.{Room}
use Rattle.word_base.specs.declared.event.Room.TheVariants as room
use Rattle.spirv_words.specs.Definitions.{results, are_distinct}
use Rattle.spirv_words.specs.Globals.{Places, bound_room}
use Rattle.spirv_words.specs.Ids.{definition}
use Rattle.spirv_words.specs.Operations.{OpVariable}
use Rattle.spirv_words.specs.Sorts.{Sort, Pointer, sort_of, sort_of_value}
use Rattle.spirv_words.specs.Text.{Instr, instruction}
use Rattle.spirv_symbols.specs.declared.symbol.Symbol.{Symbol}
use Rattle.spirv_symbols.specs.declared.symbol.Symbol.TheVariants.{AType, Memory}
use Rattle.spirv_symbols.specs.declared.symbol.TypeSymbol.TheVariants.{WordPointer}
use Rattle.spirv_symbols.specs.declared.entry.Entry.{Entry}
use Rattle.spirv_symbols.specs.Contexts.{Context, declared_of}
use Rattle.spirv_symbols.specs.Starts.{shared_slots}
use Rattle.spirv_symbols.specs.Tables.{Has}
use Rattle.spirv_emit.specs.Code.{type_of_symbol}
use Rattle.spirv_emit.specs.Lanes.{Site, HasAt}
use Rattle.spirv_emit.specs.ModuleShape.{variable_room}

-- pointers of that class
pub record IsPointer (sort : Sort) (class : ℕ) : Type 0 where
  pub pointee : ℕ
  pub pointer : sort ≡ Pointer class pointee

-- The id is a variable, for which the places have that room.
pub record IsBound (code : List Instr) (places : Places) (room : Room) (id : ℕ) : Type 0 where
  pub type' : ℕ
  pub class : ℕ
  pub variable : definition code id ≡ Some (instruction OpVariable (type' ∷ id ∷ class ∷ []))
  pub found : variable_room code places id class ≡ Some room

-- The variables of rooms have their rooms at these places: where they are declared to be, and those of shared memory in
-- the order of the table.
abbrev pub IsPlaced : Context → Places → Room → Type 0
IsPlaced c places (room.Shared slot) = Unit {0}
IsPlaced c places view =
    bound_room places (Some (declared_of c (Memory view)).set) (Some (declared_of c (Memory view)).binding) ≡ Some view

pub record ArePlaced (c : Context) (names : List Entry) (places : Places) : Type 0 where
  pub bound : (room : Room) (id : ℕ) → Has names (Memory room) id → IsPlaced c places room
  pub shared : places.shared ≡ shared_slots names

-- Each id is defined once, types of pointers to words are that, variables of one word are pointers to it, and those of
-- rooms have their rooms at these places.
pub record IsLinked (z : Site) (places : Places) : Type 0 where
  pub distinct : IsTrue (are_distinct (results z.machine.code))
  pub types : (class t : ℕ) → Has z.names (AType (WordPointer class)) t → IsPointer (sort_of z.machine.code t) class
  pub variables : (s : Symbol) (class id : ℕ) → Has z.names s id
      → type_of_symbol z.frame.context s ≡ Some (WordPointer class) → IsPointer (sort_of_value z.machine.code id) class
  pub rooms : (room : Room) (id : ℕ) → Has z.names (Memory room) id → IsBound z.machine.code places room id

-- the code stands somewhere in the module
abbrev pub StandsIn : Site → List Instr → Type 0
StandsIn z seg = (at : ℕ) × HasAt z.machine.code at seg
