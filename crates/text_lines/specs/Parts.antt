-- The parts of a line, which one or more spaces separate. (This project's own format.)
use Rattle.std.specs.Prelude.{ℕ, nat_lt, ◌==◌, ◌&&◌, not, Bool, List, drop, filter, length}
use Rattle.std.specs.List.{position_or_len, slice_split}
use Rattle.text_lines.specs.Lines.{lacks}

abbrev pub parts : List ℕ → List (List ℕ)
parts line = filter (λ part. nat_lt 0 (length part)) (slice_split (λ b. b == 32) line)

-- a line from its first byte on that is no space
abbrev pub unspaced : List ℕ → List ℕ
unspaced line = drop (position_or_len (λ b. not (b == 32)) line) line

-- what may be written as a part: some bytes, and no space
abbrev pub is_word : List ℕ → Bool
is_word word = nat_lt 0 (length word) && lacks 32 word
