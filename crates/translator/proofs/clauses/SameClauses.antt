-- What the clauses of `same_laws` of dispatch_machine say.
use Rattle.std.specs.Prelude.{◌≡◌, ℕ, List, Some, slice_get}
use Rattle.word_base.specs.Settings.{Setting}
use Rattle.tpf_decode.specs.Profiles.{Base}
use Rattle.tpf_program.specs.declared.instruction.Instruction.{Instruction}
use Rattle.tpf_program.specs.Holding.{AreOfWords, IsProgramOfWords}
use Rattle.tpf_program.specs.Program.{Shader}
use Rattle.spirv_words.specs.Text.{Module}
use Rattle.binding_map.specs.Bindings.{Binding}
use Rattle.binding_map.specs.Fits.{Fits}
use Rattle.dispatch_machine.specs.SameRuns.{FollowsIn, SameRuns}

pub record SameClauses : Type 0 where
  pub holds : (p : Shader) (bindings : List Binding) (m : Module) → IsProgramOfWords p
      → ((n : ℕ) (i : Instruction) → slice_get p.instructions n ≡ Some i → AreOfWords i)
      → ((setting : Setting) → Fits p bindings setting → FollowsIn Base p bindings m setting)
      → SameRuns Base p bindings m
