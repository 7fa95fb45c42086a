-- The rules of a job and its whole output, over the job and the files that it reads.
use Rattle.std.specs.Prelude.{◌≡◌, ℕ, ◌<◌, ◌≤◌, ◌⊎◌, List, [], Option, Some, None, Contains, length}
use Rattle.word_base.specs.declared.rule.Refusal.{Refusal}
use Rattle.word_base.specs.declared.rule.Rule.TheVariants.{M1}
use Rattle.word_base.specs.Rules.{refusal, IsSound}
use Rattle.word_base.specs.Words.{bytes_of}
use Rattle.tpf_program.specs.Program.{Shader}
use Rattle.shader_check.specs.Checked.{checked_refusals}
use Rattle.spirv_words.specs.declared.version.Version.{Version}
use Rattle.spirv_words.specs.Versions.{number_of_version}
use Rattle.outside.specs.Told.{File, file_of, IsMissing}
use Rattle.root_signature.specs.declared.covers.Covers.{Covers}
use Rattle.root_signature.specs.Refusals.{IsBroken}
use Rattle.root_signature.specs.Signatures.{Reads}
use Rattle.binding_map.specs.Bindings.{Binding}
use Rattle.binding_map.specs.Completeness.{binding_refusals}
use Rattle.binding_map.specs.Defaults.{default_map}
use Rattle.binding_map.specs.Roots.{root_map}
use Rattle.binding_map.specs.Texts.{TextBreaks, text_map}
use Rattle.command_line.specs.Job.{Choice, DefaultMap, TextOf, SignatureOf, Job}
use Rattle.translator.specs.Input.{BreaksInput}
use Rattle.translator.specs.Input.{HasProgram}
use Rattle.translator.specs.Means.{Means}

-- ---- files

-- the desk tells its files
abbrev pub AreTold : Option (List File) → Type 0
AreTold None = ⊥
AreTold (Some files) = Unit {0}

-- the desk tells its files, and these are the bytes of that one
abbrev pub IsFile : Option (List File) → List ℕ → List ℕ → Type 0
IsFile None name bytes = ⊥
IsFile (Some files) name bytes = file_of files name ≡ Some bytes

-- The bytes of the file that a binding map comes from. The default map comes from none, which stands as no bytes.
abbrev pub IsBindingFile : Option (List File) → Choice → List ℕ → Type 0
IsBindingFile files DefaultMap bytes = bytes ≡ []
IsBindingFile files (TextOf name) bytes = IsFile files name bytes
IsBindingFile files (SignatureOf name) bytes = IsFile files name bytes

abbrev pub LacksBindingFile : Option (List File) → Choice → Type 0
LacksBindingFile files DefaultMap = ⊥
LacksBindingFile files (TextOf name) = IsMissing files name
LacksBindingFile files (SignatureOf name) = IsMissing files name

-- The desk tells its files, and one that the job reads is not there.
abbrev pub LacksFile : Job → Option (List File) → Type 0
LacksFile job files = IsMissing files job.input ⊎ LacksBindingFile files job.choice

-- ---- binding maps

-- the map of a program by a choice and its file
abbrev pub IsMapOf : Choice → List ℕ → Shader → List Binding → Type 0
IsMapOf DefaultMap file p bindings = bindings ≡ default_map p
IsMapOf (TextOf name) file p bindings = bindings ≡ text_map file
IsMapOf (SignatureOf name) file p bindings = (entries : List Covers) × Reads file entries ×
    (bindings ≡ root_map entries p)

-- the rules of the file itself
abbrev pub BreaksFile : Choice → List ℕ → Refusal → Type 0
BreaksFile DefaultMap file r = ⊥
BreaksFile (TextOf name) file r = TextBreaks file r
BreaksFile (SignatureOf name) file r = IsBroken file r

-- The program breaks no rule, and its map breaks this one.
pub record BreaksMap (choice : Choice) (input file : List ℕ) (r : Refusal) : Type 0 where
  pub program : Shader
  pub read : HasProgram input program
  pub sound : checked_refusals program ≡ []
  pub bindings : List Binding
  pub gives : IsMapOf choice file program bindings
  pub broken : Contains (binding_refusals program bindings) r

-- ---- rules

-- neither file has more bytes than it may have
pub record AreTaken (input file : List ℕ) : Type 0 where
  pub input_size : length input ≤ 16777216
  pub file_size : length file ≤ 16777216

-- one of them has more
pub record IsTooLarge (input file : List ℕ) (r : Refusal) : Type 0 where
  pub size : (16777216 < length input) ⊎ (16777216 < length file)
  pub rule : r ≡ refusal M1 16777216

-- The rules of a job's files: the sizes, the rules of the input and its program, those of the binding file, and those
-- of its
-- map. The rules of each are tested where none of those before is broken.
pub data Breaks (choice : Choice) (input file : List ℕ) (r : Refusal) : Type 0 where
  TooLarge : IsTooLarge input file r → Breaks choice input file r
  OfInput : AreTaken input file → BreaksInput input r → Breaks choice input file r
  OfFile : AreTaken input file → IsSound (BreaksInput input) → BreaksFile choice file r → Breaks choice input file r
  OfMap : AreTaken input file → IsSound (BreaksFile choice file) → BreaksMap choice input file r
      → Breaks choice input file r

-- A RULE IS BROKEN by the files of a job, where the desk tells them.
pub record BreaksIn (job : Job) (files : Option (List File)) (r : Refusal) : Type 0 where
  pub input : List ℕ
  pub input_file : IsFile files job.input input
  pub bindings : List ℕ
  pub binding_file : IsBindingFile files job.choice bindings
  pub broken : Breaks job.choice input bindings r

-- ---- outputs

-- The bytes are those of a module of that version that means the input under the map of its program.
pub record IsModuleOf (choice : Choice) (version : Version) (input file bytes : List ℕ) : Type 0 where
  pub program : Shader
  pub read : HasProgram input program
  pub bindings : List Binding
  pub gives : IsMapOf choice file program bindings
  pub target : List ℕ
  pub means : Means input bindings (number_of_version version) target
  pub whole : bytes ≡ bytes_of target

-- THE WHOLE OUTPUT of a job, where the desk tells its files.
abbrev pub IsOutput : Job → Option (List File) → List ℕ → Type 0
IsOutput job files bytes = (input bindings : List ℕ) → IsFile files job.input input
    → IsBindingFile files job.choice bindings → IsModuleOf job.choice job.version input bindings bytes
