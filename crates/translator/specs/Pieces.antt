-- Pieces of the bytes of words.
use Rattle.std.specs.Prelude.{ℕ, ◌*◌, ◌/◌, ◌%◌, ◌^◌, List, slice_index}

-- the byte with that number, counted from 0
abbrev pub byte_of : List ℕ → ℕ → ℕ
byte_of words j = slice_index words (j / 4) / 2 ^ (8 * (j % 4)) % 256
