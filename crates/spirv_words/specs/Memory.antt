-- Access chains, loads, stores and atomics of a lane (SPIR-V specification, unified1, sections 3.52.8 and 3.52.18).
use Rattle.std.specs.Prelude.{ℕ, zero, suc, ◌+◌, ◌-◌, ◌*◌, ◌/◌, ◌%◌, nat_eq, nat_lt, if◌then◌else◌, Bool, true, false, ◌||◌, List, [], ◌∷◌, length, map, take, Option, Some, None, Ok, Err, slice_get}
use Rattle.std.specs.List.{range_with_len}
use Rattle.word_base.specs.declared.event.Act.{Act}
use Rattle.word_base.specs.declared.event.Act.TheVariants.{Add, Sub, And, Or, Xor, SMax, SMin, UMax, UMin, Exchange}
use Rattle.word_base.specs.declared.event.Scope.{Scope}
use Rattle.word_base.specs.declared.event.Scope.TheVariants.{Device, Group}
use Rattle.word_base.specs.declared.event.Classes.{Classes}
use Rattle.word_base.specs.declared.event.Room.{Room}
use Rattle.word_base.specs.declared.event.Room.TheVariants.{Resource}
use Rattle.spirv_words.specs.StorageClass as storage_class
use Rattle.spirv_words.specs.Decoration.{ArrayStride, Offset}
use Rattle.spirv_words.specs.Enumerants.{DeviceScope, WorkgroupScope, AcquireRelease, UniformMemory, WorkgroupMemory}
use Rattle.spirv_words.specs.Operations.{Op, OpAtomicExchange, OpAtomicIAdd, OpAtomicISub, OpAtomicSMin, OpAtomicUMin, OpAtomicSMax, OpAtomicUMax, OpAtomicAnd, OpAtomicOr, OpAtomicXor}
use Rattle.spirv_words.specs.Text.{Instr}
use Rattle.spirv_words.specs.Sorts.{Sort, Words, Truths, Vector, Array, RuntimeArray, Struct, Pointer, sort_of, parts_of_sort}
use Rattle.spirv_words.specs.Values.{Value, Word, Truth, NoParts, Part, AtLocal, AtRoom, AtConstants, AtPush, AtInput, Got, both, and_then, all_of, of_parts}
use Rattle.spirv_words.specs.Globals.{Machine, decoration, member_decoration}

-- a map with one entry changed
abbrev pub with_at : {X : Type 0} → (ℕ → X) → ℕ → X → ℕ → X
with_at f k x i = if nat_eq i k then x else f i

-- a pointer's word, and the pointer to another word beside it
abbrev pub word_at : Value → ℕ
word_at (AtLocal v w) = w
word_at (AtRoom room w) = w
word_at (AtConstants slot w) = w
word_at (AtPush w) = w
word_at (AtInput kind w) = w
word_at v = 0

abbrev pub at_word : Value → ℕ → Value
at_word (AtLocal v w) x = AtLocal v x
at_word (AtRoom room w) x = AtRoom room x
at_word (AtConstants slot w) x = AtConstants slot x
at_word (AtPush w) x = AtPush x
at_word (AtInput kind w) x = AtInput kind x
at_word v x = v

-- the words of the room in which a pointer stands; elsewhere an array without a length has no end
abbrev pub room_length : Machine → Value → Option ℕ
room_length m (AtRoom room w) = Some (m.setting.extent room)
room_length m v = None

-- sums and multiples of numbers, where the lowest broken rule counts
abbrev pub added : Got ℕ → Got ℕ → Got ℕ
added a b = and_then (both a b) (λ p. Ok (p.0 + p.1))

abbrev pub total : List (Got ℕ) → Got ℕ
total [] = Ok 0
total (n ∷ ns) = added n (total ns)

abbrev pub times : ℕ → Got ℕ → Got ℕ
times k n = and_then n (λ words. Ok (k * words))

-- The words that a value of a type takes, one for a truth, where those of other types are known. Types nest less deep than there are
-- instructions.
abbrev pub size_by : (ℕ → Got ℕ) → Sort → Got ℕ
size_by size Words = Ok 1
size_by size Truths = Ok 1
size_by size (Vector element count) = times count (size element)
size_by size (Array element count) = times count (size element)
size_by size (Struct members) = total (map size members)
size_by size s = Err 8

abbrev pub size_within : List Instr → ℕ → ℕ → Got ℕ
size_within code zero t = Err 8
size_within code (suc depth) t = size_by (size_within code depth) (sort_of code t)

abbrev pub size_of : List Instr → ℕ → Got ℕ
size_of code t = size_by (size_within code (length code)) (sort_of code t)

-- Of the variables with decorated layouts (Uniform, PushConstant, StorageBuffer) the decorations ArrayStride and Offset say where a word
-- lies, in bytes; in the others parts lie side by side. Layouts in parts of words break rule 8.
abbrev pub has_layout : ℕ → Bool
has_layout class =
    nat_eq class storage_class.StorageBuffer || (nat_eq class storage_class.Uniform || nat_eq class storage_class.PushConstant)

abbrev pub whole_words : Option ℕ → Got ℕ
whole_words None = Err 8
whole_words (Some bytes) = if nat_eq (bytes % 4) 0 then Ok (bytes / 4) else Err 8

abbrev pub stride : Machine → ℕ → ℕ → ℕ → Got ℕ
stride m class t element = if has_layout class then whole_words (decoration m.code t ArrayStride) else size_of m.code element

abbrev pub member_start : Machine → ℕ → ℕ → List ℕ → ℕ → Got ℕ
member_start m class t members k =
    if has_layout class then whole_words (member_decoration m.code t k Offset) else total (map (size_of m.code) (take k members))

-- The word at which a chain of indices arrives, from a word in a type. Each index is tested, and the lowest broken rule counts; behind the
-- end of a struct there is no type to go on with.
abbrev pub where_inside : Bool → Got ℕ → Got ℕ
where_inside test n = if test then n else Err 7

abbrev pub has_element : Option ℕ → ℕ → ℕ → ℕ → Bool
has_element None start size k = true
has_element (Some limit) start size k = nat_lt k ((limit - start) / size)

abbrev pub element_at : Option ℕ → ℕ → Got ℕ → Got ℕ → Got ℕ
element_at limit k start size = and_then (both start size) (λ p. where_inside (has_element limit p.0 p.1 k) (Ok (p.0 + k * p.1)))

abbrev pub member_at : {X : Type 0} → (ℕ → Got ℕ → Got X) → Got ℕ → Got ℕ → Option ℕ → Got X
member_at further start offset None = and_then (added start (Err 7)) (λ w. Err 7)
member_at further start offset (Some type) = further type (added start offset)

abbrev pub part_at : {X : Type 0} → Machine → ℕ → Option ℕ → (ℕ → Got ℕ → Got X) → Sort → ℕ → ℕ → Got ℕ → Got X
part_at m class limit further (Struct members) t k start = member_at further start (member_start m class t members k) (slice_get members k)
part_at m class limit further (Array element count) t k start =
    further element (added start (where_inside (nat_lt k count) (times k (stride m class t element))))
part_at m class limit further (RuntimeArray element) t k start = further element (element_at limit k start (stride m class t element))
part_at m class limit further (Vector element count) t k start = further element (added start (where_inside (nat_lt k count) (Ok k)))
part_at m class limit further s t k start = Err 1

abbrev pub part_by : Machine → ℕ → Option ℕ → List ℕ → ℕ → Got ℕ → Got ℕ
part_by m class limit [] t start = start
part_by m class limit (k ∷ ks) t start = part_at m class limit (part_by m class limit ks) (sort_of m.code t) t k start

-- where an access chain from a pointer of that sort leads
abbrev pub chained : Machine → Sort → Value → List ℕ → Got Value
chained m (Pointer class pointee) v ks = and_then (part_by m class (room_length m v) ks pointee (Ok (word_at v))) (λ w. Ok (at_word v w))
chained m s v ks = Err 1

-- The value of a type at a word, where what each word holds is told: of a word or a truth what is held there, of a composite the values of
-- its parts, each where an access chain finds it. A truth is held as a word that is not 0.
abbrev pub numbers_below : ℕ → List ℕ
numbers_below n = range_with_len 0 n

abbrev pub held : (ℕ → Got ℕ) → (ℕ → Value) → Got ℕ → Got Value
held words make at = and_then at (λ w. and_then (words w) (λ x. Ok (make x)))

abbrev pub value_by : Machine → ℕ → (ℕ → Got ℕ) → (ℕ → Got ℕ → Got Value) → Sort → ℕ → Got ℕ → Got Value
value_by m class words further Words t at = held words (λ x. Word x) at
value_by m class words further Truths t at = held words (λ x. Truth (nat_lt 0 x)) at
value_by m class words further s t at =
    and_then (all_of (map (λ k. part_at m class None further s t k at) (numbers_below (length (parts_of_sort s))))) (λ vs. Ok (of_parts vs))

abbrev pub value_within : Machine → ℕ → (ℕ → Got ℕ) → ℕ → ℕ → Got ℕ → Got Value
value_within m class words zero t at = Err 1
value_within m class words (suc depth) t at = value_by m class words (value_within m class words depth) (sort_of m.code t) t at

abbrev pub value_at : Machine → ℕ → (ℕ → Got ℕ) → ℕ → ℕ → Got Value
value_at m class words t w = value_by m class words (value_within m class words (length m.code)) (sort_of m.code t) t (Ok w)

-- cells of memory from one on with these words in order
abbrev pub with_words : (ℕ → Option ℕ) → ℕ → List ℕ → ℕ → Option ℕ
with_words cells w [] = cells
with_words cells w (x ∷ xs) = with_words (with_at cells w (Some x)) (w + 1) xs

-- the value of an id as a pointer
abbrev pub pointer_of : Option Value → Got Value
pointer_of None = Err 2
pointer_of (Some (Word w)) = Err 1
pointer_of (Some (Truth b)) = Err 1
pointer_of (Some NoParts) = Err 1
pointer_of (Some (Part x others)) = Err 1
pointer_of (Some v) = Ok v

-- The word of a room at a pointer, inside the room.
pub record InRoom : Type 0 where
  pub room : Room
  pub word : ℕ

abbrev pub in_room : Machine → Value → Got InRoom
in_room m (AtRoom room w) = if nat_lt w (m.setting.extent room) then Ok (record { room = room; word = w }) else Err 7
in_room m v = Err 1

-- a read-only view takes no store
abbrev pub takes_stores : Room → Got ℕ
takes_stores (Resource k) = Err 8
takes_stores room = Ok 0

-- scopes, and semantics: none, or acquire and release of the words of buffers, of shared memory or of both; no other number has a meaning
abbrev pub scope_of : ℕ → Got Scope
scope_of n = if nat_eq n DeviceScope then Ok Device else if nat_eq n WorkgroupScope then Ok Group else Err 8

abbrev pub classes : Bool → Bool → Classes
classes buffers shared = record { buffers = buffers; shared = shared }

abbrev pub classes_of : ℕ → Got Classes
classes_of n =
    if nat_eq n 0 then Ok (classes false false) else
    if nat_eq n (AcquireRelease + UniformMemory) then Ok (classes true false) else
    if nat_eq n (AcquireRelease + WorkgroupMemory) then Ok (classes false true) else
    if nat_eq n (AcquireRelease + UniformMemory + WorkgroupMemory) then Ok (classes true true) else
    Err 8

-- what an atomic with one value does
abbrev pub act_of : Op → Option Act
act_of OpAtomicExchange = Some Exchange
act_of OpAtomicIAdd = Some Add
act_of OpAtomicISub = Some Sub
act_of OpAtomicSMin = Some SMin
act_of OpAtomicUMin = Some UMin
act_of OpAtomicSMax = Some SMax
act_of OpAtomicUMax = Some UMax
act_of OpAtomicAnd = Some And
act_of OpAtomicOr = Some Or
act_of OpAtomicXor = Some Xor
act_of op = None
