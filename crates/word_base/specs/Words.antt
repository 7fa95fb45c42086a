-- Words and their bytes: a word is a number below 2 ^ 32, and stands in a file as four bytes, the lowest first.
use Rattle.std.specs.Prelude.{◌≡◌, ℕ, ◌+◌, ◌*◌, ◌/◌, ◌%◌, ◌^◌, ◌<◌, ◌-◌, List, [], ◌∷◌, flat_map, slice_index, refl}

-- the word whose first byte is that one
abbrev pub word_from : List ℕ → ℕ → ℕ
word_from bytes at =
    slice_index bytes at + 256 * slice_index bytes (at + 1) + 65536 * slice_index bytes (at + 2) + 16777216 * slice_index bytes (at + 3)

-- the word with that number, counted from 0
abbrev pub word_at : List ℕ → ℕ → ℕ
word_at bytes i = word_from bytes (4 * i)

-- all words of bytes; less than four bytes at the end are no word
abbrev pub words_of : List ℕ → List ℕ
words_of (a ∷ b ∷ c ∷ d ∷ rest) = (a + 256 * b + 65536 * c + 16777216 * d) ∷ words_of rest
words_of bytes = []

abbrev pub bytes_of_word : ℕ → List ℕ
bytes_of_word w = w % 256 ∷ (w / 256 % 256 ∷ (w / 65536 % 256 ∷ (w / 16777216 % 256 ∷ [])))

-- the bytes of words, one after the other
abbrev pub bytes_of : List ℕ → List ℕ
bytes_of words = flat_map bytes_of_word words

-- each number is a word, or a byte
abbrev pub AreWords : List ℕ → Type 0
AreWords words = (k : ℕ) → slice_index words k < 2 ^ 32

abbrev pub AreBytes : List ℕ → Type 0
AreBytes bytes = (k : ℕ) → slice_index bytes k < 256

-- the bits of a word from one down to another, as a number
abbrev pub field_of : ℕ → ℕ → ℕ → ℕ
field_of word high low = word / 2 ^ low % 2 ^ (high - low + 1)

-- Examples: the four bytes of `DXBC`, and the length in bits 30 to 24 of an instruction's first word.
pub tag : words_of (68 ∷ 88 ∷ 66 ∷ 67 ∷ []) ≡ 0x43425844 ∷ []
tag = refl

pub tag_again : bytes_of (0x43425844 ∷ []) ≡ 68 ∷ 88 ∷ 66 ∷ 67 ∷ []
tag_again = refl

pub length_field : field_of 0x0400009B 30 24 ≡ 4
length_field = refl
