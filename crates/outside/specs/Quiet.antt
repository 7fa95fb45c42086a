-- A desk that gives the same bytes under every name, and drops what is written.
use Rattle.std.specs.Prelude.{◌≡◌, ℕ, Bool, List, [], Option, Some, None, is_some, unwrap_or, option_map, Result, Ok, Err, length, min, drop, take}
use Rattle.outside.specs.Told.{Told}

-- the bytes under every name, what is left of them once a file was begun to be read, and whether an output was begun
pub record QuietValue : Type 0 where
  pub input : List ℕ
  pub reading : Option (List ℕ)
  pub begun : Bool

abbrev pub quiet_told : QuietValue → Told
quiet_told desk = record {
  files = None;
  left = Some (unwrap_or desk.reading []);
  outputs = None;
  begun = desk.begun;
  reading = is_some desk.reading;
  faults = 0;
}

-- A read never fails, and gives as many bytes as are left and as fit.
abbrev pub QuietReads : {E : Type 0} → QuietValue → List ℕ → Result ℕ E → QuietValue → Type 0
QuietReads old piece (Ok n) new =
    (n ≡ min (length (unwrap_or old.reading [])) (length piece)) × (take n piece ≡ take n (unwrap_or old.reading []))
    × (new ≡ record old { reading = option_map (drop n) old.reading })
QuietReads old piece (Err e) new = ⊥
