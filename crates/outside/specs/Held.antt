-- How a desk in memory holds its files and its outputs.
use Rattle.std.specs.Prelude.{◌≡◌, ℕ, zero, suc, ◌<◌, ◌≤◌, List, [], ◌∷◌, All, Option, Some, None, unwrap_or, option_map, length, slice_get, slice_range, vec_len, vec_capacity, Vec, IsUtf8}
use Rattle.outside.specs.Told.{File, Output, file_of}
use Rattle.outside.specs.declared.files.Source.{Source}
use Rattle.outside.specs.declared.files.Source.TheVariants.{Nothing, Listed, Replaced}
use Rattle.outside.specs.declared.outputs.Span.{Span}

-- the files, and what is left of the one that is being read
pub record FilesValue : Type 0 where
  pub files : List File
  pub reading : Option (List ℕ)

-- the bytes of the file at that place of the list
abbrev pub bytes_at : List File → ℕ → List ℕ
bytes_at files place = unwrap_or (option_map (λ (file : File). file.bytes) (slice_get files place)) []

-- the bytes that are being read, which were kept where their file got new ones
abbrev pub source_of : Source → List File → List ℕ → Option (List ℕ)
source_of Nothing files kept = None
source_of (Listed place) files kept = Some (bytes_at files place)
source_of Replaced files kept = Some kept

-- the source is there, and the place in it is not past its end
abbrev pub IsSource : Source → List File → List ℕ → ℕ → Type 0
IsSource Nothing files kept at = at ≡ 0
IsSource (Listed place) files kept at = (place < length files) × (at ≤ length (bytes_at files place))
IsSource Replaced files kept at = at ≤ length kept

-- the outputs, the number of those that may still be begun, and the bytes that there is still room for
pub record OutputsValue : Type 0 where
  pub list : List Output
  pub spare : ℕ
  pub room : ℕ

-- the output that stands there
abbrev pub output_in : List ℕ → Span → Output
output_in held span = record { name = slice_range held span.name span.bytes; bytes = slice_range held span.bytes span.end }

-- an output's name is a text, and stands before its bytes, within what is held
pub record Stands (held : List ℕ) (span : Span) : Type 0 where
  pub name : span.name ≤ span.bytes
  pub bytes : span.bytes ≤ span.end
  pub within : span.end ≤ length held
  pub text : IsUtf8 (slice_range held span.name span.bytes)

-- the last output ends where the held bytes end
abbrev pub EndsAt : List Span → ℕ → Type 0
EndsAt [] end = Unit {0}
EndsAt (span ∷ []) end = span.end ≡ end
EndsAt (span ∷ next ∷ rest) end = EndsAt (next ∷ rest) end

-- What is held fits the room, which is there, and each output stands in it.
pub record HoldsOutputs {A : Type 0} (held : Vec ℕ A) (spans : Vec Span A) (room most : ℕ) : Type 0 where
  pub fits : vec_len held ≤ room
  pub there : room ≤ vec_capacity held
  pub few : vec_len spans ≤ most
  pub places : most ≤ vec_capacity spans
  pub stand : All (Stands held.items) spans.items
  pub ends : EndsAt spans.items (vec_len held)

-- new bytes for the file at that place
abbrev pub with_bytes_at : List File → ℕ → List ℕ → List File
with_bytes_at [] place bytes = []
with_bytes_at (file ∷ rest) zero bytes = record { name = file.name; bytes = bytes } ∷ rest
with_bytes_at (file ∷ rest) (suc place) bytes = file ∷ with_bytes_at rest place bytes

-- the place of the file with that name, if one has it
abbrev pub FindsFile : List File → List ℕ → Option ℕ → Type 0
FindsFile files name None = file_of files name ≡ None
FindsFile files name (Some place) = (file_of files name ≡ Some (bytes_at files place)) × (place < length files)
