-- Desks and sinks over the system, which tell nothing but what was begun and their counts.
use Rattle.std.specs.Prelude.{◌≡◌, ℕ, Bool, None, Result, Ok, Err}
use Rattle.outside.specs.Told.{Told}
use Rattle.outside.specs.Memory.{count_up}

pub record SystemValue : Type 0 where
  pub begun : Bool
  pub reading : Bool
  pub faults : ℕ

abbrev pub system_told : SystemValue → Told
system_told desk = record { files = None; left = None; outputs = None; begun = desk.begun; reading = desk.reading; faults = desk.faults }

-- The count goes up by one where the call fails, and stays elsewhere. At 2 ^ 64 - 1 it stays.
abbrev pub CountsFaults : {T E : Type 0} → ℕ → Result T E → ℕ → Type 0
CountsFaults old (Ok x) new = new ≡ old
CountsFaults old (Err e) new = new ≡ count_up old
