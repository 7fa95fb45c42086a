-- What the words of a command line ask for.
use Rattle.std.specs.Prelude.{ℕ, List, Option, Some, None, Bool, true, false, if◌then◌else◌, ◌&&◌, not}
use Rattle.std.specs.Prelude.{is_some, unwrap_or, codes}
use Rattle.std.specs.Prelude.{option_and_then}
use Rattle.std.specs.Str.{bytes_eq}
use Rattle.spirv_words.specs.declared.version.Version.{Version}
use Rattle.spirv_words.specs.declared.version.Version.TheVariants.{V13, V14}
use Rattle.command_line.specs.Command.{Values, values_of}

-- where the binding map of a translation comes from: the program itself, a binding text, or the root signature of a
-- container
pub data Choice : Type 0 where
  DefaultMap : Choice
  TextOf : (name : List ℕ) → Choice
  SignatureOf : (name : List ℕ) → Choice

-- a translation: the names of its input and its output, its binding map and the version of its module
pub record Job : Type 0 where
  pub input : List ℕ
  pub output : List ℕ
  pub choice : Choice
  pub version : Version

-- the name of the standard streams
abbrev pub is_stream : List ℕ → Bool
is_stream name = bytes_eq name (codes "-")

-- a name, where one that is left out is that of a standard stream
abbrev pub name_of : Option (List ℕ) → List ℕ
name_of name = unwrap_or name (codes "-")

-- a value is left out, or is this one
abbrev pub is_at_most : List ℕ → Option (List ℕ) → Bool
is_at_most wanted None = true
is_at_most wanted (Some value) = bytes_eq value wanted

abbrev pub version_of : Option (List ℕ) → Option Version
version_of None = Some V13
version_of (Some name) =
    if bytes_eq name (codes "1.3") then Some V13 else (if bytes_eq name (codes "1.4") then Some V14 else None)

-- by the binding text and the container that are named
abbrev pub choice_of : Option (List ℕ) → Option (List ℕ) → Option Choice
choice_of None None = Some DefaultMap
choice_of (Some text) None = Some (TextOf text)
choice_of None (Some signature) = Some (SignatureOf signature)
choice_of (Some text) (Some signature) = None

-- the binding map is read from the standard input
abbrev pub is_from_stream : Choice → Bool
is_from_stream DefaultMap = false
is_from_stream (TextOf name) = is_stream name
is_from_stream (SignatureOf name) = is_stream name

-- the words ask for a translation: to a binary module, and with neither a simulation nor a sample
abbrev pub is_translation : Values → Bool
is_translation v = is_at_most (codes "dxbc-tpf") v.source && (is_at_most (codes "spirv-binary") v.target
    && (not (is_some v.simulate) && not (is_some v.sample)))

-- the translation of an input, which may not be read from the same stream as its bindings
abbrev pub job_with : List ℕ → List ℕ → Choice → Version → Option Job
job_with input output choice version = if is_stream input && is_from_stream choice then None
    else Some (record { input = input; output = output; choice = choice; version = version })

-- the translation that the names and the version are for
abbrev pub translation_of : Values → Option Job
translation_of v = option_and_then (λ choice. option_and_then (λ version.
    job_with (name_of v.input) (name_of v.output) choice version) (version_of v.spirv_version))
    (choice_of v.bindings v.root_signature)

abbrev pub job_in : Values → Option Job
job_in v = if is_translation v then translation_of v else None

abbrev pub job_of : List (List ℕ) → Option Job
job_of words = option_and_then job_in (values_of words)
