-- What a desk tells, and what each of its calls makes of it.
use Rattle.std.specs.Prelude.{◌≡◌, ℕ, ◌<◌, ◌≤◌, Bool, true, false, List, [], ◌∷◌, ◌++◌, Option, Some, None, IsSome, Result, Ok, Err, length, take, drop, option_map, find, bytes_eq, refl}

pub record File : Type 0 where
  pub name : List ℕ
  pub bytes : List ℕ

-- what was written under a name
pub record Output : Type 0 where
  pub name : List ℕ
  pub bytes : List ℕ

-- The files by name, the bytes left of the file that is being read, and the outputs begun so far, each where it is told; whether an
-- output was begun; whether a file was begun to be read; the count of faults.
pub record Told : Type 0 where
  pub files : Option (List File)
  pub left : Option (List ℕ)
  pub outputs : Option (List Output)
  pub begun : Bool
  pub reading : Bool
  pub faults : ℕ

-- whether the file has that name
abbrev pub is_named : List ℕ → File → Bool
is_named name file = bytes_eq file.name name

-- the bytes of the file with that name
abbrev pub file_of : List File → List ℕ → Option (List ℕ)
file_of files name = option_map (λ (file : File). file.bytes) (find (is_named name) files)

-- the files are told, and none has the name
abbrev pub IsMissing : Option (List File) → List ℕ → Type 0
IsMissing None name = ⊥
IsMissing (Some files) name = file_of files name ≡ None

-- the outputs, with these bytes behind those of the last one
abbrev pub with_last : List Output → List ℕ → List Output
with_last [] bytes = []
with_last (output ∷ []) bytes = record { name = output.name; bytes = output.bytes ++ bytes } ∷ []
with_last (output ∷ next ∷ rest) bytes = output ∷ with_last (next ∷ rest) bytes

-- a call that fails leaves all but the count
pub record KeepsAll (old new : Told) : Type 0 where
  pub files : new.files ≡ old.files
  pub left : new.left ≡ old.left
  pub outputs : new.outputs ≡ old.outputs
  pub begun : new.begun ≡ old.begun
  pub reading : new.reading ≡ old.reading

-- what a call that reads leaves
pub record KeepsOutputs (old new : Told) : Type 0 where
  pub files : new.files ≡ old.files
  pub outputs : new.outputs ≡ old.outputs
  pub begun : new.begun ≡ old.begun

-- what a call that writes leaves
pub record KeepsInput (old new : Told) : Type 0 where
  pub files : new.files ≡ old.files
  pub left : new.left ≡ old.left
  pub reading : new.reading ≡ old.reading

-- The bytes left become those of the file. Where the files are not told, what is told stays told.
abbrev pub StartsFile : Option (List File) → List ℕ → Option (List ℕ) → Option (List ℕ) → Type 0
StartsFile None name old new = IsSome old → IsSome new
StartsFile (Some files) name old new = (new ≡ file_of files name) × IsSome new

-- a file is read from its front on
pub record StartsReading (old new : Told) (name : List ℕ) : Type 0 where
  pub kept : KeepsOutputs old new
  pub reading : new.reading ≡ true
  pub left : StartsFile old.files name old.left new.left

abbrev pub BeginsRead : {T E : Type 0} → Told → List ℕ → Result T E → Told → Type 0
BeginsRead old name (Ok u) new = StartsReading old new name
BeginsRead old name (Err e) new = KeepsAll old new

-- That many bytes came from the front of those bytes to the front of the piece. It is 0 only at the end, or for an empty piece.
pub record FillsFrom (xs : List ℕ) (new : Option (List ℕ)) (n : ℕ) (piece : List ℕ) : Type 0 where
  pub within : n ≤ length xs
  pub front : take n piece ≡ take n xs
  pub rest : new ≡ Some (drop n xs)
  pub last : n ≡ 0 → 0 < length piece → xs ≡ []

abbrev pub Fills : Option (List ℕ) → Option (List ℕ) → ℕ → List ℕ → Type 0
Fills None new n piece = new ≡ None
Fills (Some xs) new n piece = FillsFrom xs new n piece

-- a read gives that many bytes, and none where no file was begun to be read
pub record ReadsFront (old new : Told) (n : ℕ) (piece : List ℕ) : Type 0 where
  pub kept : KeepsOutputs old new
  pub reading : new.reading ≡ old.reading
  pub within : n ≤ length piece
  pub nothing : old.reading ≡ false → n ≡ 0
  pub bytes : Fills old.left new.left n piece

abbrev pub Reads : {E : Type 0} → Told → List ℕ → Result ℕ E → Told → Type 0
Reads old piece (Ok n) new = ReadsFront old new n piece
Reads old piece (Err e) new = KeepsAll old new

-- the outputs, and one of that name without bytes behind them
abbrev pub AddsOutput : Option (List Output) → Option (List Output) → List ℕ → Type 0
AddsOutput None new name = new ≡ None
AddsOutput (Some outputs) new name = new ≡ Some (outputs ++ record { name = name; bytes = [] } ∷ [])

pub record StartsOutput (old new : Told) (name : List ℕ) : Type 0 where
  pub kept : KeepsInput old new
  pub begun : new.begun ≡ true
  pub outputs : AddsOutput old.outputs new.outputs name

abbrev pub BeginsWrite : {T E : Type 0} → Told → List ℕ → Result T E → Told → Type 0
BeginsWrite old name (Ok u) new = StartsOutput old new name
BeginsWrite old name (Err e) new = KeepsAll old new

-- the last output gained these bytes
abbrev pub GainsLast : Option (List Output) → Option (List Output) → List ℕ → Type 0
GainsLast None new bytes = new ≡ None
GainsLast (Some outputs) new bytes = new ≡ Some (with_last outputs bytes)

-- A write takes that many bytes of the piece from its front on, and not 0 of a piece that has some.
pub record WritesFront (old new : Told) (n : ℕ) (piece : List ℕ) : Type 0 where
  pub kept : KeepsInput old new
  pub begun : new.begun ≡ old.begun
  pub within : n ≤ length piece
  pub some : 0 < length piece → 0 < n
  pub outputs : GainsLast old.outputs new.outputs (take n piece)

abbrev pub Writes : {E : Type 0} → Told → List ℕ → Result ℕ E → Told → Type 0
Writes old piece (Ok n) new = WritesFront old new n piece
Writes old piece (Err e) new = KeepsAll old new

-- The last output of a desk gained these bytes, and nothing else changed but the count.
pub record LastGained (old new : Told) (bytes : List ℕ) : Type 0 where
  pub kept : KeepsInput old new
  pub begun : new.begun ≡ old.begun
  pub outputs : GainsLast old.outputs new.outputs bytes

-- the bytes of the last output, where the outputs are told and there is one
abbrev pub last_bytes : List Output → Option (List ℕ)
last_bytes [] = None
last_bytes (output ∷ []) = Some output.bytes
last_bytes (output ∷ next ∷ rest) = last_bytes (next ∷ rest)

abbrev pub bytes_of_last : Option (List Output) → Option (List ℕ)
bytes_of_last None = None
bytes_of_last (Some outputs) = last_bytes outputs

-- the outputs, the last one without its bytes
abbrev pub with_empty_last : List Output → List Output
with_empty_last [] = []
with_empty_last (output ∷ []) = record { name = output.name; bytes = [] } ∷ []
with_empty_last (output ∷ next ∷ rest) = output ∷ with_empty_last (next ∷ rest)

-- what is told beside the bytes of the last output and the count
abbrev pub beside_last : Told → Told
beside_last told = record told { outputs = option_map with_empty_last told.outputs; faults = 0 }

-- Examples: a name is looked up, and bytes go to the last output alone.
abbrev file : List ℕ → List ℕ → File
file name bytes = record { name = name; bytes = bytes }

abbrev output : List ℕ → List ℕ → Output
output name bytes = record { name = name; bytes = bytes }

pub second_file : file_of (file (97 ∷ []) (1 ∷ []) ∷ file (98 ∷ []) (2 ∷ []) ∷ []) (98 ∷ []) ≡ Some (2 ∷ [])
second_file = refl

pub no_file : file_of (file (97 ∷ []) (1 ∷ []) ∷ []) (98 ∷ []) ≡ None
no_file = refl

abbrev two_outputs : List ℕ → List Output
two_outputs bytes = output (97 ∷ []) (1 ∷ []) ∷ output (98 ∷ []) bytes ∷ []

pub last_output : with_last (two_outputs (2 ∷ [])) (3 ∷ []) ≡ two_outputs (2 ∷ 3 ∷ [])
last_output = refl

pub last_of_two : last_bytes (two_outputs (2 ∷ [])) ≡ Some (2 ∷ [])
last_of_two = refl

pub emptied_last : with_empty_last (two_outputs (2 ∷ [])) ≡ two_outputs []
emptied_last = refl
