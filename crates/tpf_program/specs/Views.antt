-- Views, and the words of them that instructions reach. (Shader Model 5 assembly: ld_raw, ld_structured, ld, ld_uav_typed, store_raw,
-- store_structured, store_uav_typed, the atomic instructions; Direct3D 11 functional specification: accesses past the end of a view.)
use Rattle.std.specs.Prelude.{ℕ, ◌+◌, ◌*◌, ◌/◌, nat_lt, if◌then◌else◌, ◌&&◌, Option, Some, None}
use Rattle.word_base.specs.declared.event.Room.{Room}
use Rattle.word_base.specs.declared.event.Room.TheVariants as room
use Rattle.tpf_decode.specs.declared.argument.Kind.{Kind}
use Rattle.tpf_decode.specs.declared.argument.Kind.TheVariants as kind
use Rattle.tpf_decode.specs.declared.argument.Argument.{Argument}
use Rattle.tpf_program.specs.Sizes.{Addressing, Bytes, Structures, Words, addressing_of}
use Rattle.tpf_program.specs.Values.{Context, value, scalar}

-- the room of an operand that names a view
abbrev pub room_by : Kind → ℕ → Room
room_by kind.Resource slot = room.Resource slot
room_by kind.Shared slot = room.Shared slot
room_by other slot = room.Uav slot

abbrev pub room_of : Argument → Room
room_of view = room_by view.kind view.slot

abbrev pub addressing : Context → Argument → Addressing
addressing k view = addressing_of k.program.typed view.kind view.slot k.program.declarations

-- An address: a byte, a byte of a structure of a view whose structures have that many words, or a word.
pub data Address : Type 0 where
  AtByte : (offset : ℕ) → Address
  InStructure : (words index offset : ℕ) → Address
  AtWord : (index : ℕ) → Address

-- The word of a component at an address of a room with that many words, where it is in range. The low two bits of an offset count for
-- nothing. An element of a typed view is one word.
abbrev pub in_room : ℕ → ℕ → Option ℕ
in_room extent word = if nat_lt word extent then Some word else None

abbrev pub in_structure : ℕ → ℕ → ℕ → ℕ → Option ℕ
in_structure extent words index word = if nat_lt index (extent / words) && nat_lt word words then Some (index * words + word) else None

abbrev pub word_at : ℕ → Address → ℕ → Option ℕ
word_at extent (AtByte offset) c = in_room extent (offset / 4 + c)
word_at extent (InStructure words index offset) c = in_structure extent words index (offset / 4 + c)
word_at extent (AtWord index) c = in_room extent index

abbrev pub reached : Context → Argument → Address → ℕ → Option ℕ
reached k view at c = word_at (k.setting.extent (room_of view)) at c

-- the words of a view's structures
abbrev pub words_by : Addressing → ℕ
words_by Bytes = 0
words_by (Structures stride) = stride / 4
words_by Words = 1

-- the address of a raw access, of a structured one, of a typed one, and of an atomic: on a raw view the first component of its operand
-- is the offset, on a structured view the first is the index and the second the offset, on a typed view the first is the word
abbrev pub raw_at : Context → Argument → Address
raw_at k offset = AtByte (scalar k offset)

abbrev pub structured_at : Context → Argument → Argument → Argument → Address
structured_at k view index offset = InStructure (words_by (addressing k view)) (scalar k index) (scalar k offset)

abbrev pub typed_at : Context → Argument → Address
typed_at k index = AtWord (scalar k index)

abbrev pub paired_by : Addressing → Context → Argument → Address
paired_by Bytes k at = AtByte (value k at 0)
paired_by (Structures stride) k at = InStructure (stride / 4) (value k at 0) (value k at 1)
paired_by Words k at = AtWord (value k at 0)

abbrev pub paired_at : Context → Argument → Argument → Address
paired_at k view at = paired_by (addressing k view) k at
