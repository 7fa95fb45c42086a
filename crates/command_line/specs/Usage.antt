-- When the words of a command line ask for nothing, cause by cause.
use Rattle.std.specs.Prelude.{◌≡◌, ◌≢◌, ◌⊎◌, ℕ, List, [], Option, Some, None, codes}
use Rattle.clap.specs.Words.{fault_of, matches_of}
use Rattle.command_line.specs.Command.{Values, command, values_in}

-- a value is given, and is another than this one
abbrev pub IsOther : List ℕ → Option (List ℕ) → Type 0
IsOther wanted given = (value : List ℕ) × (given ≡ Some value) × (value ≢ wanted)

-- the name is that of a standard stream, or left out
abbrev pub IsStandard : Option (List ℕ) → Type 0
IsStandard name = (name ≡ None) ⊎ (name ≡ Some (codes "-"))

-- the values ask for nothing
pub data IsEmpty (v : Values) : Type 0 where
  OtherSource : IsOther (codes "dxbc-tpf") v.source → IsEmpty v
  OtherTarget : IsOther (codes "spirv-binary") v.target → IsEmpty v
  OtherVersion : (version : List ℕ) → v.spirv_version ≡ Some version → version ≢ codes "1.3" → version ≢ codes "1.4"
      → IsEmpty v
  BothBindings : v.bindings ≢ None → v.root_signature ≢ None → IsEmpty v
  OneStreamTwice : IsStandard v.input
      → (v.bindings ≡ Some (codes "-")) ⊎ (v.root_signature ≡ Some (codes "-")) → IsEmpty v
  Simulation : v.simulate ≢ None → IsEmpty v
  Sample : v.sample ≢ None → IsEmpty v

-- the words do not match the command, or their values ask for nothing
abbrev pub AsksNothing : List (List ℕ) → Type 0
AsksNothing words = (fault_of command words ≢ []) ⊎ IsEmpty (values_in (matches_of command words))
