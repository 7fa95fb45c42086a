-- A program that was read.
use Rattle.std.specs.Prelude.{◌≡◌, ℕ, ◌≤◌, List, [], Contains}
use Rattle.word_base.specs.Rules.{IsFirst, IsSound}
use Rattle.word_base.specs.Words.{words_of}
use Rattle.word_base.specs.declared.rule.Refusal.{Refusal}
use Rattle.dxbc_container.specs.Chunks.{IsShex}
use Rattle.tpf_decode.specs.Profiles.{Base}
use Rattle.tpf_program.specs.Program.{Shader}
use Rattle.tpf_program.specs.Spelling.{Spells}
use Rattle.shader_check.specs.Checked.{IsChecked as BreaksNoRule}
use Rattle.binding_map.specs.Bindings.{Binding}
use Rattle.binding_map.specs.Completeness.{binding_refusals}
use Rattle.raise_program.specs.Whole.{CanBeRaised}
use Rattle.translator.specs.Input.{HasProgram, IsBroken}

-- The data of the chunk `SHEX` spell it, it breaks no rule, and there is room for it. What is left to test are the
-- rules of its bindings: under a map that breaks none of them, no rule at all is broken, and the first that a map breaks
-- of them is the first broken rule of all.
pub record IsRead (room : ℕ) (bytes : List ℕ) (p : Shader) : Type 0 where
  pub content : List ℕ
  pub chunk : IsShex bytes content
  pub spelled : Spells Base p (words_of content)
  pub read : HasProgram bytes p
  pub raisable : CanBeRaised p
  pub checked : BreaksNoRule p
  pub short : p.words ≤ room
  pub sound : (map_for : Shader → List Binding) → binding_refusals p (map_for p) ≡ []
      → IsSound (IsBroken room bytes map_for)
  pub first : (map_for : Shader → List Binding) (r : Refusal) → IsFirst (Contains (binding_refusals p (map_for p))) r
      → IsFirst (IsBroken room bytes map_for) r

-- It was read from some container.
pub record IsReadSome (p : Shader) : Type 0 where
  pub room : ℕ
  pub bytes : List ℕ
  pub read : IsRead room bytes p
