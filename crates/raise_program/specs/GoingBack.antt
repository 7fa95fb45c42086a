-- How often the lane of a program goes back.
use Rattle.std.specs.Prelude.{ℕ, nat_le, if◌then◌else◌}
use Rattle.tpf_program.specs.Bytecode.{State}

-- A program's lane goes back where its next place does not stand behind the last one.
abbrev pub times_back : State → State → ℕ
times_back s t = if nat_le t.place s.place then 1 else 0
