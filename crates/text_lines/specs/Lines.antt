-- The lines of a text. A line ends with an LF, and a CR before that is dropped; the last LF may be missing: std's
-- `lines`. (This project's own format.)
use Rattle.std.specs.Prelude.{ℕ, ◌-◌, ◌==◌, ◌&&◌, ◌||◌, not, Bool, List, [], ◌∷◌, ◌++◌, flat_map, length, slice_index}
use Rattle.std.specs.List.{list_all}

-- no byte of that value
abbrev pub lacks : ℕ → List ℕ → Bool
lacks byte bytes = list_all (λ b. not (b == byte)) bytes

-- what may be written as a line: no LF, and no CR at the end
abbrev pub is_line : List ℕ → Bool
is_line line = lacks 10 line && not (slice_index line (length line - 1) == 13)

-- a line and its LF, and the text of lines
abbrev pub ended : List ℕ → List ℕ
ended line = line ++ 10 ∷ []

abbrev pub joined : List (List ℕ) → List ℕ
joined lines = flat_map ended lines

-- Empty lines are passed over, and those that begin with a text's mark of comments.
abbrev pub is_passed : List ℕ → ℕ → Bool
is_passed line mark = (length line == 0) || (slice_index line 0 == mark)

-- a space at the begin or at the end
abbrev pub has_outer_space : List ℕ → Bool
has_outer_space line = (slice_index line 0 == 32) || (slice_index line (length line - 1) == 32)
