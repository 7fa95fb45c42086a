-- Where the words of a DXBC container stand. All numbers are little-endian words of four bytes, and all places are counted in bytes
-- from byte 0: the tag `DXBC`, 16 bytes of checksum, the version at 20, the total size at 24, the number of chunks at 28, and one
-- offset for each chunk from 32 on. A chunk is its tag, the size of its data in bytes, and the data. Chunks need no alignment and may
-- overlap. (DXBC container layout, as d3dcompiler writes it and vkd3d-shader reads it.)
use Rattle.std.specs.Prelude.{◌≡◌, ℕ, ◌+◌, ◌*◌, List, [], ◌∷◌, length, refl}
use Rattle.word_base.specs.Words.{word_from, bytes_of}

-- the four letters `DXBC` as a word
abbrev pub dxbc : ℕ
dxbc = 0x43425844

-- the tag `SHEX` of the chunk that holds a program
abbrev pub shex_tag : ℕ
shex_tag = 0x58454853

-- the size of the container in bytes; what stands behind is no part of it
unfoldable pub total_of : List ℕ → ℕ
total_of bytes = word_from bytes 24

-- the number of chunks
unfoldable pub count_of : List ℕ → ℕ
count_of bytes = word_from bytes 28

-- the byte in which the offset of a chunk begins, by the number of the chunk counted from 0
abbrev pub place_of : ℕ → ℕ
place_of i = 32 + 4 * i

-- the byte in which a chunk begins, with its tag
unfoldable pub offset_of : List ℕ → ℕ → ℕ
offset_of bytes i = word_from bytes (place_of i)

-- the tag of a chunk
unfoldable pub tag_of : List ℕ → ℕ → ℕ
tag_of bytes i = word_from bytes (offset_of bytes i)

-- the size of a chunk's data in bytes
unfoldable pub size_of : List ℕ → ℕ → ℕ
size_of bytes i = word_from bytes (offset_of bytes i + 4)

-- the words of a container with the one chunk `SHEX`, whose data are these words, and a checksum of zeros
abbrev pub words_around : List ℕ → List ℕ
words_around tokens =
    dxbc ∷ 0 ∷ 0 ∷ 0 ∷ 0 ∷ 1 ∷ (44 + 4 * length tokens) ∷ 1 ∷ 36 ∷ shex_tag ∷ (4 * length tokens) ∷ tokens

abbrev pub container_of : List ℕ → List ℕ
container_of tokens = bytes_of (words_around tokens)

-- Examples: of a container of one word of data, its total size, and its only chunk behind the offset.
pub total_example : total_of (container_of (7 ∷ [])) ≡ 48
unfolding total_of
total_example = refl

pub offset_example : offset_of (container_of (7 ∷ [])) 0 ≡ 36
unfolding offset_of
offset_example = refl

pub size_example : size_of (container_of (7 ∷ [])) 0 ≡ 4
unfolding size_of offset_of
size_example = refl
