-- What a module owes to the program that it was translated from.
use Rattle.std.specs.Prelude.{◌≡◌, ℕ, ◌<◌, List, [], ◌∷◌, Some, slice_get}
use Rattle.word_base.specs.Lanes.{SameLanes}
use Rattle.word_base.specs.Settings.{Setting}
use Rattle.word_base.specs.Words.{words_of}
use Rattle.dxbc_container.specs.Chunks.{IsShex}
use Rattle.tpf_decode.specs.Profiles.{Base}
use Rattle.tpf_program.specs.Bytecode as bytecode
use Rattle.tpf_program.specs.Program.{Shader}
use Rattle.tpf_program.specs.Spelling.{Spells}
use Rattle.spirv_words.specs.Form.{Form}
use Rattle.spirv_words.specs.Operations.{OpConstant}
use Rattle.spirv_words.specs.Text.{Module, IsTextOf, instruction}
use Rattle.binding_map.specs.Bindings.{Binding}
use Rattle.binding_map.specs.Fits.{Fits}
use Rattle.shader_tree.specs.Lane as tree
use Rattle.shader_tree.specs.Terms.{term_at}
use Rattle.shader_tree.specs.Trees.{Grown}
use Rattle.raise_operands.specs.Vectors.{spaces_of}
use Rattle.dispatch_machine.specs.SameRuns.{FollowsIn, SameRuns}
use Rattle.binding_map.specs.Wanted.{group_of, wanted_of}
use Rattle.translator.specs.Shape.{HasShape}

-- The words are a module of that version, which has the form of one, the shape of the program that the chunk `SHEX` of
-- the bytes spells, and does what that program does, under the binding map: lane by lane, and so in every dispatch,
-- under every list of picks.
pub record Means (bytes : List ℕ) (bindings : List Binding) (version : ℕ) (words : List ℕ) : Type 0 where
  pub content : List ℕ
  pub program : Shader
  pub target : Module
  pub chunk : IsShex bytes content
  pub spelled : Spells Base program (words_of content)
  pub text : IsTextOf target words
  pub form : Form version (group_of program) (wanted_of program bindings) target
  pub shape : HasShape Base program bindings target
  pub follows : (setting : Setting) → Fits program bindings setting → FollowsIn Base program bindings target setting
  pub runs : SameRuns Base program bindings target

-- THE TREE that is lent does what the program does: under each setting that fits, and every list of answers, its lane
-- makes the events of the program's lane, ends and spins where that one does, and is never wrong.
pub record TreeMeans (bytes : List ℕ) (bindings : List Binding) (lent : Grown) : Type 0 where
  pub content : List ℕ
  pub program : Shader
  pub chunk : IsShex bytes content
  pub spelled : Spells Base program (words_of content)
  pub root : ℕ
  pub is_root : lent.root ≡ Some root
  pub same : (setting : Setting) → Fits program bindings setting
      → SameLanes (bytecode.step Base program setting) (tree.step (spaces_of program) setting) bytecode.start
      (tree.start (term_at lent.nodes root))

-- THE CONSTANTS ascend: of two OpConstant instructions of words, the one that stands first has the lesser value.
pub record AreOrdered (m : Module) : Type 0 where
  pub ascend : (i j t r u s v w : ℕ) → i < j
      → slice_get m.code i ≡ Some (instruction OpConstant (t ∷ r ∷ v ∷ []))
      → slice_get m.code j ≡ Some (instruction OpConstant (u ∷ s ∷ w ∷ [])) → v < w

-- in each module of which the words are the text
abbrev pub HasOrderedConstants : List ℕ → Type 0
HasOrderedConstants words = (m : Module) → IsTextOf m words → AreOrdered m
