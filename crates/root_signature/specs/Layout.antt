-- Where the words of a root signature stand. They are little-endian words of four bytes; all places are counted in bytes
-- from byte 0 of the data of the chunk `RTS0`, and need no alignment. Six words begin the data: the version (1, or 2 for
-- version 1.1), the number of parameters, the byte in which they begin, the same two for static samplers, and flags. A
-- parameter is three words: its type, its visibility, and the byte in which its record begins. Records may stand anywhere,
-- also in one another.
-- (Direct3D 12: D3D12SerializeVersionedRootSignature; vkd3d-shader: vkd3d_shader_parse_root_signature.)
use Rattle.std.specs.Prelude.{ℕ, ◌+◌, ◌-◌, ◌*◌, ◌/◌, nat_eq, nat_le, if◌then◌else◌, ◌&&◌, Bool, List, length}
use Rattle.word_base.specs.Words.{word_from}

-- the tag `RTS0` of the chunk that holds a root signature
abbrev pub rts0_tag : ℕ
rts0_tag = 0x30535452

-- the word whose first byte is that one
unfoldable pub word : List ℕ → ℕ → ℕ
word content at = word_from content at

-- how many words there are from that byte on
unfoldable pub words_from : List ℕ → ℕ → ℕ
words_from content at = (length content - at) / 4

-- whether a record that begins in that byte has all of its words
abbrev pub is_whole : List ℕ → ℕ → ℕ → Bool
is_whole content at words = nat_le words (words_from content at)

-- version 1.1, whose descriptors and ranges have flags
abbrev pub has_flags : List ℕ → Bool
has_flags content = nat_eq (word content 0) 2

-- parameters are read where the first three words are there
abbrev pub parameter_count : List ℕ → ℕ
parameter_count content = if is_whole content 0 3 then word content 4 else 0

abbrev pub parameter_at : List ℕ → ℕ → ℕ
parameter_at content i = word content 8 + 12 * i

-- The types of parameters: 0 a table of ranges, 1 root constants, and the descriptors 2 of a constant buffer, 3 of a
-- read-only view and 4 of a u#.
abbrev pub parameter_type : List ℕ → ℕ → ℕ
parameter_type content i = word content (parameter_at content i)

abbrev pub is_parameter : List ℕ → ℕ → Bool
is_parameter content i = is_whole content (parameter_at content i) 3 && nat_le (parameter_type content i) 4

abbrev pub is_visible : List ℕ → ℕ → Bool
is_visible content i = nat_eq (word content (parameter_at content i + 4)) 0

-- the byte in which the record of a parameter begins
abbrev pub record_at : List ℕ → ℕ → ℕ
record_at content i = word content (parameter_at content i + 8)

-- The words of that record. A table: the number of ranges, and the byte in which they begin. Root constants: register,
-- space, number of words. A descriptor: register, space, in version 1.1 flags.
abbrev pub words_of_type : List ℕ → ℕ → ℕ
words_of_type content type =
    if nat_eq type 0 then 2 else if nat_eq type 1 then 3 else if has_flags content then 3 else 2

abbrev pub record_words : List ℕ → ℕ → ℕ
record_words content i = words_of_type content (parameter_type content i)

-- a parameter of a known type, all of whose words are there, and those of its record
abbrev pub has_record : List ℕ → ℕ → Bool
has_record content i = is_parameter content i && is_whole content (record_at content i) (record_words content i)

-- A range is its type (0 a read-only view, 1 a u#, 2 a constant buffer, 3 a sampler), count, first register, space, in
-- version 1.1 flags, and the place in the table.
abbrev pub range_words : List ℕ → ℕ
range_words content = if has_flags content then 6 else 5

abbrev pub range_at : List ℕ → ℕ → ℕ → ℕ
range_at content start j = start + 4 * range_words content * j

-- the ranges of a parameter, none where it is no table
abbrev pub range_count : List ℕ → ℕ → ℕ
range_count content i =
    if has_record content i && nat_eq (parameter_type content i) 0 then word content (record_at content i) else 0

abbrev pub ranges_at : List ℕ → ℕ → ℕ
ranges_at content i = word content (record_at content i + 4)
