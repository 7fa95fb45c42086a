-- What the loops leave that read a file whole and write bytes whole.
use Rattle.std.specs.Prelude.{◌≡◌, ℕ, ◌≤◌, List, [], Option, Some, None, Result, Ok, Err, length, take, drop}
use Rattle.outside.specs.Causes.{Gained, GainedPart}
use Rattle.outside.specs.Told.{File, Told, LastGained, file_of}
use Rattle.compiler_cli.specs.declared.streams.Stop.{Stop}
use Rattle.compiler_cli.specs.declared.streams.Stop.TheVariants.{Fault, NoMemory}

-- all bytes were written, or a front of them
abbrev pub WritesBytes : {T E : Type 0} → Option (List ℕ) → List ℕ → Result T E → Option (List ℕ) → Type 0
WritesBytes old bytes (Ok u) new = Gained old new bytes
WritesBytes old bytes (Err e) new = GainedPart old new bytes

-- all bytes were written to the last output, or a front of them
abbrev pub WritesLast : {T E : Type 0} → Told → List ℕ → Result T E → Told → Type 0
WritesLast old bytes (Ok u) new = LastGained old new bytes
WritesLast old bytes (Err e) new = (n : ℕ) × (n ≤ length bytes) × LastGained old new (take n bytes)

-- One byte more than the longest file that is taken: a longer one is read so far and no further.
abbrev pub most_read : ℕ
most_read = 16777217

-- where the bytes left are told: all of them came, or as many as are read at most
abbrev pub CameWhole : Option (List ℕ) → List ℕ → Option (List ℕ) → Type 0
CameWhole None bytes new = new ≡ None
CameWhole (Some xs) bytes new = (bytes ≡ take most_read xs) × (new ≡ Some (drop most_read xs))

-- these bytes were read from the file, and those behind them are left
abbrev pub FromFile : Option (List ℕ) → List ℕ → Option (List ℕ) → Type 0
FromFile None bytes left = ⊥
FromFile (Some file) bytes left = (bytes ≡ take most_read file) × (left ≡ Some (drop most_read file))

-- where the files are told: one has the name, and was read
abbrev pub FileCame : Option (List File) → List ℕ → List ℕ → Option (List ℕ) → Type 0
FileCame None name bytes left = Unit {0}
FileCame (Some files) name bytes left = FromFile (file_of files name) bytes left

-- where it is told, nothing is left of the input
abbrev pub NothingLeft : Option (List ℕ) → Type 0
NothingLeft None = Unit {0}
NothingLeft (Some bytes) = bytes ≡ []

-- why reading stopped: a fault was counted, or no file has the name
abbrev pub StoppedBy : Stop → Type 0 → Type 0
StoppedBy Fault cause = cause
StoppedBy NoMemory cause = Unit {0}
