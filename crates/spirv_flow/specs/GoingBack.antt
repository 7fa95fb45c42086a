-- How often the lane of a module goes back.
use Rattle.std.specs.Prelude.{ℕ, nat_le, if◌then◌else◌}
use Rattle.spirv_words.specs.Lane.{State}

-- A module's lane goes back where its next place does not stand behind the last one.
abbrev pub goes_back : State → State → ℕ
goes_back s t = if nat_le t.place s.place then 1 else 0
