-- Pointers to the words of rooms.
use Rattle.std.specs.Prelude.{◌≡◌, ℕ, ◌+◌, nat_lt, if◌then◌else◌, Bool, true, false, List, [], ◌∷◌, Some, Ok, Err}
use Rattle.word_base.specs.declared.event.Act.{Act}
use Rattle.word_base.specs.declared.event.Act.TheVariants as act
use Rattle.word_base.specs.declared.event.Classes.{Classes}
use Rattle.word_base.specs.declared.event.Scope.{Scope}
use Rattle.word_base.specs.declared.event.Scope.TheVariants as scope
use Rattle.word_base.specs.declared.event.Room.{Room}
use Rattle.word_base.specs.declared.event.Room.TheVariants as room
use Rattle.spirv_words.specs.StorageClass as storage
use Rattle.spirv_words.specs.Enumerants.{DeviceScope, WorkgroupScope, AcquireRelease, UniformMemory, WorkgroupMemory}
use Rattle.spirv_words.specs.Operations.{number_of, OpAtomicExchange, OpAtomicCompareExchange, OpAtomicIAdd, OpAtomicISub, OpAtomicSMin, OpAtomicUMin, OpAtomicSMax, OpAtomicUMax, OpAtomicAnd, OpAtomicOr, OpAtomicXor}
use Rattle.spirv_words.specs.Globals.{Places}
use Rattle.spirv_words.specs.Values.{Value, Word, AtRoom, Got}
use Rattle.spirv_symbols.specs.declared.symbol.TypeSymbol.TheVariants.{WordPointer}
use Rattle.spirv_emit.specs.Emission.{Emission}
use Rattle.spirv_emit.specs.Growing.{Completes}
use Rattle.spirv_emit.specs.Lanes.{Site}
use Rattle.spirv_emit.specs.Linked.{IsLinked, StandsIn}
use Rattle.spirv_emit.specs.ModuleShape.{pointer_room}
use Rattle.spirv_emit.specs.Values.{Meaning, Gives, slot, a_word}

-- shared memory is of the class Workgroup, a view and a counter of StorageBuffer
abbrev pub class_of : Room → ℕ
class_of (room.Shared slot) = storage.Workgroup
class_of view = storage.StorageBuffer

abbrev pub inside : Bool → Value → Got (List Value)
inside b v = if b then Ok (v ∷ []) else Err 7

-- the place of the word of a room at an index inside it
abbrev pub placed : ℕ → Room → List Value → Got (List Value)
placed size r (Word i ∷ []) = inside (nat_lt i size) (AtRoom r i)
placed size r vs = Err 1

abbrev pub room_word : Room → Meaning
room_word r z t vs = placed (z.machine.setting.extent r) r vs

-- Code of one block was added that gives a pointer to the word of a room at an index; in a finished module it leads to
-- that room.
pub record PointsTo (old new : Emission) (room : Room) (at result : ℕ) : Type 0 where
  pub gives : Gives old new (a_word at ∷ []) (slot result (WordPointer (class_of room)) ∷ []) (room_word room)
  pub leads : (z : Site) (places : Places) → Completes new z → IsLinked z places → StandsIn z gives.seg
      → pointer_room z.machine.code places result ≡ Some room

-- THE NUMBERS of atomics, which but for one have one value, of scopes, and of semantics by the classes of memory.
abbrev pub number_of_act : Act → ℕ
number_of_act act.Add = number_of OpAtomicIAdd
number_of_act act.Sub = number_of OpAtomicISub
number_of_act act.And = number_of OpAtomicAnd
number_of_act act.Or = number_of OpAtomicOr
number_of_act act.Xor = number_of OpAtomicXor
number_of_act act.SMax = number_of OpAtomicSMax
number_of_act act.SMin = number_of OpAtomicSMin
number_of_act act.UMax = number_of OpAtomicUMax
number_of_act act.UMin = number_of OpAtomicUMin
number_of_act act.Exchange = number_of OpAtomicExchange
number_of_act act.CompareExchange = number_of OpAtomicCompareExchange

abbrev pub IsOne : Act → Type 0
IsOne act.CompareExchange = ⊥
IsOne other = Unit {0}

abbrev pub number_of_scope : Scope → ℕ
number_of_scope scope.Device = DeviceScope
number_of_scope scope.Group = WorkgroupScope

abbrev pub semantics_by : Bool → Bool → ℕ
semantics_by false false = 0
semantics_by true false = AcquireRelease + UniformMemory
semantics_by false true = AcquireRelease + WorkgroupMemory
semantics_by true true = AcquireRelease + UniformMemory + WorkgroupMemory

abbrev pub semantics_of : Classes → ℕ
semantics_of c = semantics_by c.buffers c.shared
