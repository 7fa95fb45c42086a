-- The sets of opcodes that a program may use: the base profile, and the one that has typed buffers besides.
use Rattle.std.specs.Prelude.{Bool, true, false}

pub data Profile : Type 0 where
  Base : Profile
  Typed : Profile

-- the profile has what belongs to the other one
abbrev pub includes : Profile → Profile → Bool
includes Base Typed = false
includes profile since = true
