-- The rules of a translation: of the container, of the head of its program and of the room for it, of the tokens, of the
-- program, and of its bindings. The rules of each are tested where none of those before is broken.
use Rattle.std.specs.Prelude.{◌≡◌, ℕ, ◌<◌, ◌⊎◌, List, [], Contains, slice_index}
use Rattle.word_base.specs.Rules.{refusal}
use Rattle.word_base.specs.Words.{words_of}
use Rattle.word_base.specs.declared.rule.Refusal.{Refusal}
use Rattle.word_base.specs.declared.rule.Rule.TheVariants.{M4}
use Rattle.dxbc_container.specs.Chunks.{IsShex}
use Rattle.dxbc_container.specs.Refusals.{shex_refusals}
use Rattle.tpf_decode.specs.Profiles.{Base}
use Rattle.tpf_decode.specs.Refusals.{header_faults}
use Rattle.tpf_program.specs.Faults.{program_faults}
use Rattle.tpf_program.specs.Program.{Shader}
use Rattle.tpf_program.specs.Spelling.{Spells}
use Rattle.shader_check.specs.Checked.{checked_refusals}
use Rattle.binding_map.specs.Bindings.{Binding}
use Rattle.binding_map.specs.Completeness.{binding_refusals}

-- the container breaks no rule, and these are the data of its chunk `SHEX`
pub record HasContent (bytes content : List ℕ) : Type 0 where
  pub sound : shex_refusals bytes ≡ []
  pub chunk : IsShex bytes content

-- The container breaks no rule, nor does the head of its program, and that names so many words.
pub record NamesWords (bytes : List ℕ) (n : ℕ) : Type 0 where
  pub content : List ℕ
  pub container : HasContent bytes content
  pub sound : header_faults (words_of content) ≡ []
  pub words : slice_index (words_of content) 1 ≡ n

-- the data break no rule of the head and the tokens, and spell this program
pub record HasProgram (bytes : List ℕ) (p : Shader) : Type 0 where
  pub content : List ℕ
  pub container : HasContent bytes content
  pub sound : program_faults Base (words_of content) ≡ []
  pub spelled : Spells Base p (words_of content)

-- The head breaks none, and names more words than there is room for.
pub record BreaksRoom (room : ℕ) (bytes : List ℕ) (r : Refusal) : Type 0 where
  pub content : List ℕ
  pub container : HasContent bytes content
  pub sound : header_faults (words_of content) ≡ []
  pub long : room < slice_index (words_of content) 1
  pub rule : r ≡ refusal M4 1

-- the data break this rule of the head and the tokens
pub record BreaksTokens (bytes : List ℕ) (r : Refusal) : Type 0 where
  pub content : List ℕ
  pub container : HasContent bytes content
  pub broken : Contains (program_faults Base (words_of content)) r

-- the program breaks this rule on declarations, on what is used, or on structure
pub record BreaksProgram (bytes : List ℕ) (r : Refusal) : Type 0 where
  pub program : Shader
  pub read : HasProgram bytes program
  pub broken : Contains (checked_refusals program) r

-- the program breaks none, and its binding map breaks this rule
pub record BreaksBindings (bytes : List ℕ) (map_for : Shader → List Binding) (r : Refusal) : Type 0 where
  pub program : Shader
  pub read : HasProgram bytes program
  pub sound : checked_refusals program ≡ []
  pub broken : Contains (binding_refusals program (map_for program)) r

-- A RULE IS BROKEN, where there is room for a program of so many words, and a program has this binding map.
abbrev pub IsBroken : ℕ → List ℕ → (Shader → List Binding) → Refusal → Type 0
IsBroken room bytes map_for r =
    Contains (shex_refusals bytes) r
    ⊎ (BreaksRoom room bytes r ⊎ (BreaksTokens bytes r ⊎ (BreaksProgram bytes r ⊎ BreaksBindings bytes map_for r)))

-- the map that is given, whatever the program is
abbrev pub given : List Binding → Shader → List Binding
given bindings p = bindings

-- A RULE IS BROKEN that is tested before those of bindings, where there is room for every program that is not too long.
abbrev pub BreaksInput : List ℕ → Refusal → Type 0
BreaksInput bytes r = Contains (shex_refusals bytes) r ⊎ (BreaksTokens bytes r ⊎ BreaksProgram bytes r)
